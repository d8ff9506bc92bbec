use Rattle.std.proofs.Common.{◌∙◌, rules}
use Rattle.std.specs.Iterator.Adapters.{rev_source, enumerate_source}
use Rattle.std.specs.Slice.Iter.{iter_rest}
use Rattle.rules.proofs.Capping.{weighed_start, back}
use Rattle.rules.proofs.text.Text.start_weight.Goals as goal

pub loop-i-init : goal.loop-i-init
loop-i-init c = (search rules, search rules, cc, weighed_start c.args.self.kinds.now (iter_rest (enumerate_source (rev_source c.into_iter-i-iterator.result))) cc)

pub bounds-weights-max : goal.bounds-weights-max
bounds-weights-max c =
    let step = c.in-Some.ensures.steps.1 in
    (back c.args.self.few c.args.self.inside c.loop-i.invariant.2 c.loop-i.invariant.3 step.0 step.1 c.address_of.ensures c.max.ensures).inside

pub capped_weight-next-requires-clause-low : goal.capped_weight-next-requires-clause-low
capped_weight-next-requires-clause-low c =
    let step = c.in-Some.ensures.steps.1 in
    (back c.args.self.few c.args.self.inside c.loop-i.invariant.2 c.loop-i.invariant.3 step.0 step.1 c.address_of.ensures c.max.ensures).low

pub loop-i-preserved : goal.loop-i-preserved
loop-i-preserved c =
    let step = c.in-Some.ensures.steps.1 in (
      search rules,
      search rules,
      c.in-Some.ensures.steps.0 ∙ c.loop-i.invariant.2,
      (back c.args.self.few c.args.self.inside c.loop-i.invariant.2 c.loop-i.invariant.3 step.0 step.1 c.address_of.ensures c.max.ensures).more _ c.capped_weight-next.ensures,
    )
