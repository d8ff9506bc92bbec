use Rattle.std.proofs.Common.{arith, rules}
use Rattle.metering.proofs.Cutting.{line_at, line_whole}
use Rattle.metering.proofs.parts.line_end.Goals as goal

pub returns-then-text-eq10-clause-first : goal.returns-then-text-eq10-clause-first
returns-then-text-eq10-clause-first c = line_at c.args.text.now 0 (search rules) (search rules) (λ k h. absurd (omega arith))

pub returns-in-Some-clause-first : goal.returns-in-Some-clause-first
returns-in-Some-clause-first c = line_at c.args.text.now c.in-Some.newline (search rules) (search rules) (search rules)

pub returns-in-None-clause-first : goal.returns-in-None-clause-first
returns-in-None-clause-first c = line_whole c.args.text.now (search rules) (search rules)
