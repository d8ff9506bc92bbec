-- The opcode of a number.
use Rattle.std.specs.Prelude.{◌≡◌, ℕ, true, false, Option, MatchOption, Result, MatchResult}
use Rattle.opcodes.specs.declared.naming.UnknownOpcode.{UnknownOpcode}
use Rattle.opcodes.specs.declared.opcode.Opcode.{Opcode}
use Rattle.opcodes.specs.Families.{known}
use Rattle.opcodes.specs.Numbers.{number}

-- an opcode has this number, which is then known
abbrev pub IsNumbered : ℕ → Opcode → Type 0
IsNumbered x o = (known x ≡ true) × (number o ≡ x)

-- the opcode of a known number, and none of an unknown one
abbrev pub Named : ℕ → Option Opcode → Type 0
Named x o = MatchOption o (known x ≡ false) (IsNumbered x)

-- the same as a result, where the error has the unknown number
abbrev pub Decodes : ℕ → Result Opcode UnknownOpcode → Type 0
Decodes x r = MatchResult r (IsNumbered x) (λ e. (known x ≡ false) × (e.0 ≡ x))
