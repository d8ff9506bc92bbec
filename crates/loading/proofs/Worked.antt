-- The worked examples, computed.
use Rattle.std.proofs.Common.{refl}
use Rattle.constants.proofs.Examples.{example_12_35}
use Rattle.control.specs.Texts.{depth, called, section, ranks}
use Rattle.control.specs.Rules.{first_found}
use Rattle.control.specs.Weights.{loops, weights}
use Rattle.loading.specs.Verdicts.{verdict}
use Rattle.loading.specs.Examples.{Examples}

pub examples : Examples
unfolding verdict first_found depth called section ranks loops weights
examples = record { constant = example_12_35; call = λ layouts. refl; eight = λ layouts. refl; nine = λ layouts. refl }
