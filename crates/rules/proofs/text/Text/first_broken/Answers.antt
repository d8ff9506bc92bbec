use Rattle.std.proofs.Common.{length, sym, ap, ◌∙◌, Some}
use Rattle.std.proofs.lemmas.List.{length_push}
use Rattle.std.proofs.lemmas.Slice.Zip.{zip_turn}
use Rattle.control.specs.Rules.{broken, first_broken}
use Rattle.control.proofs.Finding.{found_start, found_none, found_here}
use Rattle.rules.proofs.Scanning.{told_turn}
use Rattle.rules.proofs.text.Text.first_broken.Goals as goal

pub loop-kind-init : goal.loop-kind-init
loop-kind-init c = found_start (broken c.args.self.kinds.now)

pub loop-kind-preserved : goal.loop-kind-preserved
loop-kind-preserved c =
    let text = c.args.self.kinds.now in
    let places = c.fill_places.new.places in
    let told =
    told_turn text places c.args.self.inside c.fill_places.ensures _ _ _
    (zip_turn text places c.loop-kind.yielded c.into_iter-kind-iterator.result c.loop-kind.kind-iterator c.next.new.self _ (cc) (cc) c.loop-kind.yielded_by _ c.in-Some.is c.next.ensures.steps) in
    ap (first_broken text) (length_push c.loop-kind.yielded (c.in-Some.field-0-0, c.in-Some.field-0-1))
    ∙ found_none (broken text) (length c.loop-kind.yielded) c.loop-kind.invariant (sym (told.broken _ _ c.address_of.ensures) ∙ (sym c.check.ensures ∙ c.in_default.is))

pub returns-in-Some-check : goal.returns-in-Some-check
returns-in-Some-check c =
    let text = c.args.self.kinds.now in
    let places = c.fill_places.new.places in
    let told =
    told_turn text places c.args.self.inside c.fill_places.ensures _ _ _
    (zip_turn text places c.loop-kind.yielded c.into_iter-kind-iterator.result c.loop-kind.kind-iterator c.next.new.self _ (cc) (cc) c.loop-kind.yielded_by _ c.in-Some.is c.next.ensures.steps) in
    let here = found_here (broken text) (length c.loop-kind.yielded) (length text) c.in-Some-check.code told.here c.loop-kind.invariant (sym (told.broken _ _ c.address_of.ensures) ∙ (sym c.check.ensures ∙ c.in-Some-check.is)) in
    ap (λ p. Some (c.in-Some-check.code, p.number)) told.stands ∙ sym here
