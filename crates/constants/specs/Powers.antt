-- The powers of ten as binary64 numbers: 1.0 multiplied by 10.0, again and again.
use Rattle.std.specs.Prelude.{ℕ, zero, suc, from_bits, Float}
use Rattle.std.specs.Float.{binary64}
use Rattle.std.specs.Float.Ieee.{mul}

abbrev pub one : Float
one = from_bits binary64 0x3ff0_0000_0000_0000

abbrev pub ten : Float
ten = from_bits binary64 0x4024_0000_0000_0000

unfoldable pub power : ℕ → Float
power zero = one
power (suc k) = mul binary64 (power k) ten
