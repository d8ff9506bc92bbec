-- The table of opcodes, tested at every entry by computation.
use Rattle.std.proofs.Common.{◌≡◌, ℕ, ◌<◌, Bool, true, not, ◌&&◌, eqb, Some, None, Option, get_or, refl}
use Rattle.std.proofs.lemmas.Bool.{and_parts, not-true, eqb-true, agree_below_at}
use Rattle.opcodes.specs.declared.naming.TheConstants.{OPCODES}
use Rattle.opcodes.specs.declared.opcode.Opcode.{Opcode}
use Rattle.opcodes.specs.Families.{known}
use Rattle.opcodes.specs.Named.{Named}
use Rattle.opcodes.specs.Numbers.{number}

abbrev is_right : ℕ → Option Opcode → Bool
is_right x None = not (known x)
is_right x (Some o) = known x && eqb (number o) x

named_if_right : (x : ℕ) (o : Option Opcode) → is_right x o ≡ true → Named x o
named_if_right x None h = not-true (known x) h
named_if_right x (Some o) h = let parts = and_parts (known x) (eqb (number o) x) h in (parts.0, eqb-true (number o) x parts.1)

pub name_right : (x : ℕ) → x < 256 → Named x (get_or OPCODES x None)
name_right x lt = named_if_right x (get_or OPCODES x None) (agree_below_at (λ n. is_right n (get_or OPCODES n None)) (λ _. true) 256 x refl lt)
