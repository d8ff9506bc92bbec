-- A worked example.
use Rattle.std.specs.Prelude.{◌≡◌, false, Some, from_bits}
use Rattle.std.specs.Float.{binary64}
use Rattle.std.specs.Float.Ieee.{round}
use Rattle.constants.specs.Constants.{value}

-- C0 50 23 12 is 12.35: its digits are 12350 and its exponent is 2
abbrev pub Example12Point35 : Type 0
Example12Point35 = (value 0xc0 0x50 0x23 0x12 ≡ Some (from_bits binary64 0x4028_b333_3333_3333)) × (from_bits binary64 0x4028_b333_3333_3333 ≡ round binary64 false 1235 100)
