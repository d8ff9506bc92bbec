-- The worked example, computed.
use Rattle.std.proofs.Common.{refl}
use lib.Ieee.{of_bits, of_int, mul, div, neg, round}
use Rattle.constants.specs.Powers.{power}
use Rattle.constants.specs.Examples.{Example12Point35}

pub example_12_35 : Example12Point35
unfolding of_bits of_int mul div neg round power
example_12_35 = (refl, refl)
