use Rattle.std.proofs.Common.{length, ◌∙◌, rules}
use Rattle.std.proofs.lemmas.List.{length-set}
use Rattle.pages.proofs.Changing.{alike, held_turned, turning}
use Rattle.pages.proofs.page.Page.turn.Goals as goal

pub returns-then-base-gt7-clause-transposed : goal.returns-then-base-gt7-clause-transposed
returns-then-base-gt7-clause-transposed g c = alike _ _ g.met.A.Arrangement.reads _ _ c.args.self.now.held

pub invariant_of-self-clause-eight : goal.invariant_of-self-clause-eight
invariant_of-self-clause-eight g c = length-set c.args.self.now.bases _ _ ∙ c.args.self.now.eight

pub returns-clause-turning : goal.returns-clause-turning
returns-clause-turning g c =
    turning _ _ g.met.A.Arrangement.reads g.met.A.Arrangement.steady _ _ _ c.args.self.now.eight _ _ c.placement-old.result c.placement-old.ensures
    (search rules) (search rules) (search rules) (search rules) (search rules)

pub returns-clause-transposed : goal.returns-clause-transposed
returns-clause-transposed g c =
    alike _ _ g.met.A.Arrangement.reads _ _
    (held_turned (length c.args.self.now.bytes.now) c.args.self.now.bases c.args.base c.args.row c.placement-old.result c.args.self.now.held c.placement-old.ensures (search rules) (search rules) (search rules))
