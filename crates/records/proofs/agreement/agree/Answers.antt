use Rattle.std.proofs.Common.{ℕ, refl, rules, tests}
use Rattle.std.proofs.lemmas.Iterator.{cases_from_all, YieldsList-from_range}
use Rattle.records.specs.Meaning.{SameBase}
use Rattle.records.proofs.Sameness.{decided_below, same_everywhere}
use Rattle.records.proofs.agreement.agree.Goals as goal

pub returns : goal.returns
returns g c =
    let P : ℕ → Type 0 = λ k. SameBase (g.A.Source.meaning c.args.a.now) (g.B.Source.meaning c.args.b.now) k in
    same_everywhere (g.met.A.Source.keeps c.args.a.now) (g.met.B.Source.keeps c.args.b.now) c.all.result
    (decided_below 8 P c.all.result
    (cases_from_all _ _ _ P (λ k. P k → ⊥) c.all.ensures.ran (YieldsList-from_range 0 8 8 (search rules) refl)
    (λ x q k. search (rules, tests)) (λ x q k. search (rules, tests))))
