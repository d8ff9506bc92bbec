use Rattle.std.proofs.Common.{◌<◌, ◌^◌, length, get_or, Some, ap, ◌∙◌, arith, rules}
use Rattle.std.proofs.Math.Nat.{mod-eq_of_lt}
use Rattle.pages.proofs.Reading.{answers_none, answers_some, found_inside}
use Rattle.pages.proofs.page.PageSource.byte.Goals as goal

pub returns-then-offset-at : goal.returns-then-offset-at
returns-then-offset-at g c =
    answers_none g.A.Arrangement.address c.args.self.now.bytes.now c.args.self.now.bases c.args.base c.args.which c.args.offset
    c.placement-at.result c.placement-at.ensures c.if-offset-at.true

pub returns : goal.returns
returns g c =
    let bytes = c.args.self.now.bytes.now in
    let at = c.placement-at.result in
    let inside =
    found_inside g.A.Arrangement.address bytes c.args.self.now.bases c.args.base c.args.which c.args.offset at c.placement-at.ensures
    g.met.A.Arrangement.inside c.args.self.now.held c.row_of-row.result c.row_of-row.ensures c.if-offset-at.false in
    let size : length bytes < 2 ^ 64 = search rules in
    ap (λ n. Some (get_or bytes n 0)) (c.address.ensures ∙ mod-eq_of_lt (omega (arith, inside, size)))
    ∙ answers_some g.A.Arrangement.address bytes c.args.self.now.bases c.args.base c.args.which c.args.offset at c.placement-at.ensures
    c.row_of-row.result c.row_of-row.ensures c.if-offset-at.false
