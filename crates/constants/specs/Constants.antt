-- The constant that four bytes stand for.
use Rattle.std.specs.Prelude.{ℕ, ◌+◌, ◌-◌, ◌%◌, Bool, cond, ◌&&◌, pos, Some, Option, ◌==◌, from_bits, nat_le, Float}
use Rattle.std.specs.Float.{binary64}
use Rattle.std.specs.Float.Ieee.{of_int, mul, div, neg}
use Rattle.std.specs.Bool.{then_some}
use Rattle.constants.specs.declared.exponent.Exponent.{Exponent}
use Rattle.constants.specs.declared.exponent.Exponent.TheVariants.{Plus, Minus}
use Rattle.constants.specs.Digits.{digits_lawful, whole_number}
use Rattle.constants.specs.Exponents.{exponent, exponent_lawful}
use Rattle.constants.specs.Powers.{power}

abbrev pub lawful : ℕ → ℕ → ℕ → ℕ → Bool
lawful p1 p2 p3 p4 = digits_lawful p2 p3 p4 && exponent_lawful (exponent p1 p4)

-- m times ten to the exponent less five, by one multiplication or one division
abbrev pub scaled : ℕ → Exponent → Float
scaled m (Plus e) =
    cond (nat_le 5 e) (mul binary64 (of_int binary64 (pos m)) (power (e - 5))) (div binary64 (of_int binary64 (pos m)) (power (5 - e)))
scaled m (Minus e) = div binary64 (of_int binary64 (pos m)) (power (5 + e))

-- bit 0 of the first byte makes the constant negative
abbrev pub negative : ℕ → Bool
negative p1 = p1 % 2 == 1

abbrev pub signed : Bool → Float → Float
signed minus size = cond minus (neg size) size

abbrev pub nonzero : ℕ → ℕ → ℕ → ℕ → Option Float
nonzero p1 p2 p3 p4 = then_some (lawful p1 p2 p3 p4) (signed (negative p1) (scaled (whole_number p2 p3 p4) (exponent p1 p4)))

abbrev pub plus_zero : Float
plus_zero = from_bits binary64 0

-- a last byte of 0 makes it zero, whatever the others are
abbrev pub value : ℕ → ℕ → ℕ → ℕ → Option Float
value p1 p2 p3 p4 = cond (p4 == 0) (Some plus_zero) (nonzero p1 p2 p3 p4)
