use Rattle.std.proofs.Common.{Ok, Err, ◌∙◌}
use Rattle.std.proofs.lemmas.Result.{err_from_is_err_and}
use Rattle.loading.proofs.Passing.{refused_as, judged_as}
use Rattle.loading.proofs.image.Image.judge.Goals as goal

pub returns-in_err-fill_text : goal.returns-in_err-fill_text
returns-in_err-fill_text c =
    let p = err_from_is_err_and c.from_residual.result c.from_residual.ensures.1 in
    let r = refused_as c.args.layouts.now c.args.self.bytes.now c.in_err-fill_text.field-0.0 c.args.self.lawful c.in_err-fill_text.ensures in
    rw (p.1, p.2) (record { value = r.value; says = r.says; trusted = r.trusted })

pub returns-in_err-judge_text : goal.returns-in_err-judge_text
returns-in_err-judge_text c =
    let p = err_from_is_err_and c.from_residual-in_err-judge_text.result c.from_residual-in_err-judge_text.ensures.1 in
    let e = c.in_err-judge_text.ensures in
    let t =
    judged_as c.args.layouts.now c.args.self.bytes.now c.as_slice.result.now (Err c.in_err-judge_text.field-0.0) c.args.self.lawful
    c.in_ok-fill_text.ensures.alone (c.as_slice.ensures.value ∙ c.in_ok-fill_text.ensures.kinds_are) e.value e.says e.trusted in
    rw (p.1, p.2) (record { value = t.value; says = t.says; trusted = t.trusted })

pub returns : goal.returns
returns c =
    let e = c.in_ok-judge_text.ensures in
    let t =
    judged_as c.args.layouts.now c.args.self.bytes.now c.as_slice.result.now (Ok c.in_ok-judge_text.field-0) c.args.self.lawful
    c.in_ok-fill_text.ensures.alone (c.as_slice.ensures.value ∙ c.in_ok-fill_text.ensures.kinds_are) e.value e.says e.trusted in
    record { value = t.value; says = t.says; trusted = t.trusted }
