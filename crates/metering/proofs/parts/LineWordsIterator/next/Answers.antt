use Rattle.std.proofs.Common.{rules}
use Rattle.metering.proofs.Cutting.{no_word, words_after}
use Rattle.metering.proofs.parts.LineWordsIterator.next.Goals as goal

pub returns-then-is_empty-clause-steps : goal.returns-then-is_empty-clause-steps
returns-then-is_empty-clause-steps c =
    let trimmed = c.trim_ascii_start-visible.ensures.value in
    let none = no_word c.args.self.now.rest.now c.trim_ascii_start-visible.result.now trimmed.0 trimmed.1 (search rules) trimmed.3 in
    (none, none)

pub returns-clause-steps : goal.returns-clause-steps
returns-clause-steps c =
    let trimmed = c.trim_ascii_start-visible.ensures.value in
    let after = words_after c.args.self.now.rest.now c.trim_ascii_start-visible.result.now trimmed.0 trimmed.1 trimmed.3 in
    search rules
