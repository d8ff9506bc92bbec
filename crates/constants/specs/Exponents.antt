-- The exponent of a constant: a power of ten, from -17 to 27.
use Rattle.std.specs.Prelude.{ℕ, ◌+◌, ◌*◌, ◌/◌, ◌%◌, Bool, cond, ◌==◌, nat_le}
use Rattle.constants.specs.declared.exponent.Exponent.{Exponent}
use Rattle.constants.specs.declared.exponent.Exponent.TheVariants.{Plus, Minus}

-- the last byte's low half, and above it two bits of the first byte
abbrev pub exponent_size : ℕ → ℕ → ℕ
exponent_size p1 p4 = p4 % 16 + 16 * (p1 / 4 % 4)

-- bit 1 of the first byte makes it negative
abbrev pub exponent : ℕ → ℕ → Exponent
exponent p1 p4 = cond (p1 / 2 % 2 == 1) (Minus (exponent_size p1 p4)) (Plus (exponent_size p1 p4))

abbrev pub exponent_lawful : Exponent → Bool
exponent_lawful (Plus e) = nat_le e 27
exponent_lawful (Minus e) = nat_le e 17
