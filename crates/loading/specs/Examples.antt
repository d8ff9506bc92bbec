-- Worked examples, as one statement over the definitions.
use Rattle.std.specs.Prelude.{◌≡◌, ℕ, zero, suc, List, [], ◌∷◌, ◌++◌, Some, Ok, Err}
use Rattle.constants.specs.Examples.{Example12Point35}
use Rattle.records.specs.declared.layout.Layout.{Layout}
use Rattle.control.specs.declared.code.LoadingCode.TheVariants.{PushAtEight}
use Rattle.loading.specs.declared.error.LoadError.TheVariants.{Breaks}
use Rattle.loading.specs.Verdicts.{verdict}

-- an instruction whose operand bytes are 0 but for the first
abbrev pub plain : ℕ → ℕ → List ℕ
plain opcode p1 = opcode ∷ p1 ∷ 0 ∷ 0 ∷ 0 ∷ []

-- so many pushes of event bit 0, and then something
abbrev pub pushes : ℕ → List ℕ → List ℕ
pushes zero rest = rest
pushes (suc n) rest = plain 0x0B 0x00 ++ pushes n rest

pub record Examples : Type 0 where
  -- the constant C0 50 23 12 is 12.35
  pub constant : Example12Point35
  -- a call of 2, END, a return: three steps at most
  pub call : (layouts : List Layout) → verdict layouts (plain 0x3A 2 ++ plain 0xFF 0 ++ plain 0x3B 0) ≡ Ok (Some 3)
  -- eight pushes and END: nine steps
  pub eight : (layouts : List Layout) → verdict layouts (pushes 8 (plain 0xFF 0)) ≡ Ok (Some 9)
  -- nine: the one at 8 finds the stack full
  pub nine : (layouts : List Layout) → verdict layouts (pushes 9 (plain 0xFF 0)) ≡ Err (Breaks PushAtEight 8)
