use Rattle.std.proofs.Common.{arith}
use Rattle.opcodes.proofs.RowTests.{row_right}
use Rattle.opcodes.proofs.table.mask.Goals as goal

pub returns : goal.returns
returns c = row_right c.args.opcode (omega (arith, c.ranges.opcode))
