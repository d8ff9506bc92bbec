use Rattle.std.proofs.Common.{◌≡◌, ℕ, rules, tests}
use Rattle.std.proofs.lemmas.Iterator.{cases_from_all, YieldsList-from_range}
use Rattle.records.specs.Meaning.{byte_at}
use Rattle.records.proofs.Sameness.{decided_below}
use Rattle.records.proofs.agreement.agree_on_record.Goals as goal

pub returns : goal.returns
returns g c =
    let a = g.A.Source.meaning c.args.a.now in
    let b = g.B.Source.meaning c.args.b.now in
    let P : ℕ → Type 0 = λ k. byte_at a c.args.base c.args.which k ≡ byte_at b c.args.base c.args.which k in
    decided_below c.args.length P c.all.result
    (cases_from_all _ _ _ P (λ k. P k → ⊥) c.all.ensures.ran (YieldsList-from_range 0 c.args.length c.args.length (search rules) (search rules))
    (λ x q k. search (rules, tests)) (λ x q k. search (rules, tests)))
