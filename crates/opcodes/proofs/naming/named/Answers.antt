use Rattle.std.proofs.Common.{arith}
use Rattle.opcodes.proofs.NameTests.{name_right}
use Rattle.opcodes.proofs.naming.named.Goals as goal

pub returns : goal.returns
returns c = name_right c.args.byte (omega (arith, c.ranges.byte))
