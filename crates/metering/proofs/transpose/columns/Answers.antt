use Rattle.std.proofs.Common.{vec_items, rules}
use Rattle.metering.proofs.Turning.{turned}
use Rattle.metering.proofs.transpose.columns.Goals as goal

pub returns-clause-transposed : goal.returns-clause-transposed
returns-clause-transposed c = turned c.args.rows.now c.args.length (vec_items c.loop-offset.out) (search rules)
