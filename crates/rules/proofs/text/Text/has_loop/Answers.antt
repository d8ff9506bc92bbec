use Rattle.std.proofs.Common.{◌∙◌, ℕ, rules, tests}
use Rattle.std.proofs.lemmas.Iterator.{YieldsList-from_slice}
use Rattle.std.proofs.lemmas.Iterator.Search.{any_from_yields_List}
use Rattle.std.proofs.lemmas.Iterator.Consumers.{YieldsList-from_enumerate}
use Rattle.control.specs.declared.control.Control.{Control}
use Rattle.control.specs.Weights.{jumps_back}
use Rattle.rules.proofs.Capping.{loops_is}
use Rattle.rules.proofs.text.Text.has_loop.Goals as goal

pub returns : goal.returns
returns c =
    let text = c.args.self.kinds.now in
    any_from_yields_List (λ (p : ℕ × Control). jumps_back p.0 p.1) _ _ c.any.result c.any.ensures.ran (YieldsList-from_enumerate (YieldsList-from_slice text cc) cc) (λ x b q k. search (rules, tests))
    ∙ loops_is text
