-- What an accepted image can be trusted with.
use Rattle.std.specs.Prelude.{◌≡◌, ℕ, ◌<◌, ◌≤◌, Bool, true, List, Some, Ok, Err}
use Rattle.records.specs.declared.layout.Layout.{Layout}
use Rattle.control.specs.Machine.{Outcome, Goes, Ends, Faults, start, run, steps}
use Rattle.opcodes.specs.Families.{known}
use Rattle.loading.specs.declared.error.LoadError.TheVariants.{BadLength, Breaks}
use Rattle.loading.specs.Images.{count, opcode_at, operand_bytes}
use Rattle.loading.specs.Instructions.{fits}
use Rattle.loading.specs.Verdicts.{Verdict, text}

-- wherever control stands, there is an instruction of the image, with a known opcode and an operand that fits; it never
-- comes to a fault
abbrev pub StandsWell : List Layout → List ℕ → Outcome → Type 0
StandsWell layouts image (Goes s) =
    (s.pc < count image) × (known (opcode_at image s.pc) ≡ true) × (fits layouts (opcode_at image s.pc) (operand_bytes image s.pc) ≡ true)
StandsWell layouts image Ends = Unit {0}
StandsWell layouts image (Faults e) = ⊥

-- however the conditions of an accepted image turn out
abbrev pub TrustedImage : List Layout → List ℕ → Verdict → Type 0
TrustedImage layouts image (Err BadLength) = Unit {0}
TrustedImage layouts image (Err (Breaks code n)) = Unit {0}
TrustedImage layouts image (Ok limit) =
    ((cs : List Bool) → StandsWell layouts image (run (text image) (Goes start) cs))
    × ((b : ℕ) → limit ≡ Some b → (cs : List Bool) → steps (text image) (Goes start) cs ≤ b)
