use Rattle.std.proofs.Common.{rules}
use Rattle.metering.proofs.Cutting.{no_line}
use Rattle.metering.proofs.parts.TextLinesIterator.next.Goals as goal

pub returns-then-is_empty-clause-steps : goal.returns-then-is_empty-clause-steps
returns-then-is_empty-clause-steps c = let none = no_line c.args.self.now.rest.now (search rules) in (none, none)
