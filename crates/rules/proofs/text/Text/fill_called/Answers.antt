use Rattle.std.proofs.Common.{ap, ◌∙◌}
use Rattle.std.specs.Bool.{then_some}
use Rattle.rules.proofs.Measuring.{called_all}
use Rattle.rules.proofs.text.Text.fill_called.Goals as goal

pub returns : goal.returns
returns c = λ s h. c.loop-kind.invariant.1 s h ∙ ap (λ b. then_some b 1) (called_all c.args.self.kinds.now c.loop-kind.kind-index s c.loop-kind-test.false)
