-- Weights are what the words say.
use Rattle.std.proofs.Common.{◌≡◌, ℕ, ◌+◌, ◌<◌, max, List, length, refl, ap, ◌∙◌}
use Rattle.control.specs.declared.control.Control.{Control}
use Rattle.control.specs.declared.control.Control.TheVariants.{Plain, Push, Pop, JumpIf, Jump, Call, Return, End}
use Rattle.control.specs.Texts.{at}
use Rattle.control.specs.Rules.{address}
use Rattle.control.specs.Weights.{weigh, weight}
use Rattle.control.specs.Promises.{Ahead, WeightsFollow}
use Rattle.control.proofs.Weighing.{weight_at, ahead}

weighed : (text : List Control) (n : ℕ) (c : Control) → at text n ≡ c → n < length text → Ahead n c
    → weight text n ≡ weigh c (weight text (address c)) (weight text (n + 1))
weighed text n (JumpIf k) e lt a = weight_at text n (JumpIf k) e lt ∙ ap (λ w. 1 + max w (weight text (n + 1))) (ahead text n k a)
weighed text n (Jump k) e lt a = weight_at text n (Jump k) e lt ∙ ap (λ w. 1 + w) (ahead text n k a)
weighed text n (Call k) e lt a = weight_at text n (Call k) e lt ∙ ap (λ w. 1 + w + weight text (n + 1)) (ahead text n k a)
weighed text n Plain e lt a = weight_at text n Plain e lt
weighed text n Push e lt a = weight_at text n Push e lt
weighed text n Pop e lt a = weight_at text n Pop e lt
weighed text n Return e lt a = weight_at text n Return e lt
weighed text n End e lt a = weight_at text n End e lt

pub weights_follow : (text : List Control) → WeightsFollow text
weights_follow text n lt a = weighed text n (at text n) refl lt a
