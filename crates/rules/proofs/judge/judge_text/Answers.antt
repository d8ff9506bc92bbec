use Rattle.std.proofs.Common.{sym, subst}
use Rattle.rules.specs.Judgments.{Says, Trusted}
use Rattle.rules.proofs.Judging.{says_told, trusted_told}
use Rattle.rules.proofs.judge.judge_text.Goals as goal

pub returns-clause-says : goal.returns-clause-says
returns-clause-says c =
    let formed = c.in_ok-try_from.field-0 in
    subst (λ text. Says text c.judge.result) c.in_ok-try_from.ensures.1 (subst (Says formed.kinds.now) (sym c.judge.ensures) (says_told formed.kinds.now))

pub returns-clause-trusted : goal.returns-clause-trusted
returns-clause-trusted c =
    let formed = c.in_ok-try_from.field-0 in
    subst (λ text. Trusted text c.judge.result) c.in_ok-try_from.ensures.1
    (subst (Trusted formed.kinds.now) (sym c.judge.ensures) (trusted_told formed.kinds.now formed.some formed.inside))
