-- A program's text, by what each instruction does to the flow of control: its depths, its sections and their ranks.
use Rattle.std.specs.Prelude.{ℕ, zero, suc, ◌+◌, ◌-◌, max, Bool, false, cond, ◌||◌, List, [], ◌∷◌, ◌==◌, slice_index_or}
use Rattle.control.specs.declared.control.Control.{Control}
use Rattle.control.specs.declared.control.Control.TheVariants.{Plain, Push, Pop, JumpIf, Jump, Call, Return, End}

-- the instruction of that number
abbrev pub at : List Control → ℕ → Control
at text n = slice_index_or text n Plain

-- Depths are counted from a ground level, so that a text that pops too often needs no numbers below 0: the ground
-- is as high as the longest text is long.
abbrev pub ground : ℕ
ground = 1024

-- the depth after an instruction
abbrev pub stacked : Control → ℕ → ℕ
stacked Push d = d + 1
stacked Pop d = d - 1
stacked Plain d = d
stacked (JumpIf k) d = d
stacked (Jump k) d = d
stacked (Call k) d = d
stacked Return d = d
stacked End d = d

-- the text depth at an instruction: as the text stands, whichever way control goes
unfoldable pub depth : List Control → ℕ → ℕ
depth text zero = ground
depth text (suc n) = stacked (at text n) (depth text n)

abbrev pub calls : Control → ℕ → Bool
calls (Call k) s = k == s
calls Plain s = false
calls Push s = false
calls Pop s = false
calls (JumpIf k) s = false
calls (Jump k) s = false
calls Return s = false
calls End s = false

-- some instruction calls that address
unfoldable pub called : List Control → ℕ → Bool
called [] s = false
called (c ∷ cs) s = calls c s || called cs s

-- sections begin at 0 and at every address that is called
abbrev pub starts : List Control → ℕ → Bool
starts text s = s == 0 || called text s

-- the start of the section that an instruction stands in
unfoldable pub section : List Control → ℕ → ℕ
section text zero = 0
section text (suc n) = cond (starts text (suc n)) (suc n) (section text n)

-- Ranks, instruction by instruction: that of the section at hand, and for each address 1 plus the highest rank of
-- a section that has called it so far (1 where none has).
pub record Ranks : Type 0 where
  pub here : ℕ
  pub asked : ℕ → ℕ

abbrev pub asked_more : Control → Ranks → ℕ → ℕ
asked_more c r s = cond (calls c s) (max (r.asked s) (1 + r.here)) (r.asked s)

unfoldable pub ranks : List Control → ℕ → Ranks
ranks text zero = record { here = 0; asked = λ _. 1 }
ranks text (suc n) = record {
  here = cond (starts text (suc n)) (asked_more (at text n) (ranks text n) (suc n)) (ranks text n).here;
  asked = asked_more (at text n) (ranks text n);
}

-- the rank of the section that an instruction stands in
abbrev pub rank : List Control → ℕ → ℕ
rank text n = (ranks text n).here
