-- Weights: how many steps there can be from an instruction on, and the step bound of a text.
use Rattle.std.specs.Prelude.{ℕ, zero, suc, ◌+◌, ◌-◌, max, Bool, false, cond, ◌||◌, List, [], ◌∷◌, length, Some, None, Option, nat_le, slice_index}
use Rattle.control.specs.declared.control.Control.{Control}
use Rattle.control.specs.declared.control.Control.TheVariants.{Plain, Push, Pop, JumpIf, Jump, Call, Return, End}
use Rattle.control.specs.Texts.{at}
use Rattle.control.specs.Rules.{address}

-- a jump that does not go forward
abbrev pub jumps_back : ℕ → Control → Bool
jumps_back n (JumpIf k) = nat_le k n
jumps_back n (Jump k) = nat_le k n
jumps_back n Plain = false
jumps_back n Push = false
jumps_back n Pop = false
jumps_back n (Call k) = false
jumps_back n Return = false
jumps_back n End = false

-- some jump among the first so many instructions does not go forward
unfoldable pub loops : List Control → ℕ → Bool
loops text zero = false
loops text (suc n) = loops text n || jumps_back n (at text n)

-- an instruction's weight, from the weights of its address and of the next one
abbrev pub weigh : Control → ℕ → ℕ → ℕ
weigh Return target next = 1
weigh End target next = 1
weigh (Jump k) target next = 1 + target
weigh (JumpIf k) target next = 1 + max target next
weigh (Call k) target next = 1 + target + next
weigh Plain target next = 1 + next
weigh Push target next = 1 + next
weigh Pop target next = 1 + next

-- with the weights of all later instructions at hand, the next one's first
abbrev pub weigh_in : List Control → ℕ → List ℕ → ℕ
weigh_in text n later = weigh (at text n) (slice_index later (address (at text n) - (n + 1))) (slice_index later 0)

-- the weights of the last so many instructions, from the last one back
unfoldable pub weights : List Control → ℕ → List ℕ
weights text zero = []
weights text (suc k) = weigh_in text (length text - suc k) (weights text k) ∷ weights text k

abbrev pub weight : List Control → ℕ → ℕ
weight text n = slice_index (weights text (length text)) n

-- the step bound: none where a jump does not go forward, and none above a million
abbrev pub limit : ℕ
limit = 1000000

abbrev pub bound : List Control → Option ℕ
bound text = cond (loops text (length text)) None (cond (nat_le (weight text 0) limit) (Some (weight text 0)) None)
