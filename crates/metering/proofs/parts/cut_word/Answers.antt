use Rattle.std.proofs.Common.{◌+◌, arith, rules}
use Rattle.std.proofs.lemmas.Grind.{common_steps}
use Rattle.std.proofs.lemmas.List.{take_rest}
use Rattle.metering.proofs.Cutting.{word_at, word_whole}
use Rattle.metering.proofs.parts.cut_word.Goals as goal

pub returns-in-Some-clause-first : goal.returns-in-Some-clause-first
returns-in-Some-clause-first c =
    rw (take_rest c.args.line.now (c.in-Some.blank + 1))
    (word_at c.args.line.now c.in-Some.blank (grind (arith, common_steps)) (search rules) (search rules) (search rules))

pub returns-in-None-clause-first : goal.returns-in-None-clause-first
returns-in-None-clause-first c = word_whole c.args.line.now (search rules) (search rules)
