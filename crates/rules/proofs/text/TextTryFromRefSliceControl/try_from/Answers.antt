use Rattle.std.proofs.Common.{◌≡◌, ltb, length, true, sym, refl, ◌∙◌, rules, tests, arith}
use Rattle.std.proofs.lemmas.Iterator.{YieldsList-from_slice}
use Rattle.std.proofs.lemmas.Iterator.Search.{all_from_yields_List}
use Rattle.control.specs.Rules.{address}
use Rattle.rules.specs.Judgments.{all_below}
use Rattle.rules.proofs.Judging.{formed_by}
use Rattle.rules.proofs.text.TextTryFromRefSliceControl.try_from.Goals as goal

pub returns-then-all : goal.returns-then-all
returns-then-all c =
    let text = c.args.kinds.now in
    let all : c.all.result ≡ all_below (length text) text =
    all_from_yields_List (λ k. ltb (address k) (length text)) _ _ c.all.result c.all.ensures.ran (YieldsList-from_slice text cc) (λ x b q k. search (rules, tests)) in
    (formed_by text true (omega arith) c.if-count-gt-MOST_INSTRUCTIONS.false (sym c.if-all.true ∙ all), refl, tt)
