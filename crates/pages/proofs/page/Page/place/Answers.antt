use Rattle.std.proofs.Common.{length, ◌∙◌, rules}
use Rattle.std.proofs.lemmas.List.{length-set}
use Rattle.pages.proofs.Changing.{alike, held_placed}
use Rattle.pages.proofs.page.Page.place.Goals as goal

pub returns-then-base-gt7-clause-transposed : goal.returns-then-base-gt7-clause-transposed
returns-then-base-gt7-clause-transposed g c = alike _ _ g.met.A.Arrangement.reads _ _ c.args.self.now.held

pub invariant_of-self : goal.invariant_of-self
invariant_of-self g c = record {
  eight = length-set c.args.self.now.bases _ _ ∙ c.args.self.now.eight;
  held = held_placed (length c.args.self.now.bytes.now) c.args.self.now.bases _ c.args.at c.args.self.now.held (search rules);
}

pub returns-clause-transposed : goal.returns-clause-transposed
returns-clause-transposed g c = alike _ _ g.met.A.Arrangement.reads _ _ (held_placed (length c.args.self.now.bytes.now) c.args.self.now.bases _ c.args.at c.args.self.now.held (search rules))
