use Rattle.std.proofs.Common.{refl, arith}
use lib.Ieee.{of_bits, mul}
use Rattle.constants.specs.Powers.{power}
use Rattle.constants.proofs.Tens.{at_each}
use Rattle.constants.proofs.powers.power_of_ten.Goals as goal

-- antt computes the whole table once
pub returns : goal.returns
unfolding of_bits mul power
returns c = at_each _ refl c.args.k (omega arith)
