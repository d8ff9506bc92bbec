-- What is promised of a text that keeps the rules, and what sections, ranks and weights are in words.
use Rattle.std.specs.Prelude.{◌≡◌, ℕ, ◌+◌, ◌<◌, ◌≤◌, Bool, true, false, ◌⊎◌, List, length, Some}
use Rattle.control.specs.declared.control.Control.{Control}
use Rattle.control.specs.declared.control.Control.TheVariants.{Plain, Push, Pop, JumpIf, Jump, Call, Return, End}
use Rattle.control.specs.Texts.{at, starts, section, rank}
use Rattle.control.specs.Machine.{Outcome, Goes, Ends, Faults, start, run, steps}
use Rattle.control.specs.Rules.{address}
use Rattle.control.specs.Weights.{weigh, weight, bound}

-- the machine stands at an instruction of the text, or has ended; it has no fault
abbrev pub Sound : List Control → Outcome → Type 0
Sound text (Goes s) = s.pc < length text
Sound text Ends = Unit {0}
Sound text (Faults e) = ⊥

-- however its conditions turn out, it never faults and never leaves the text
abbrev pub NeverFaults : List Control → Type 0
NeverFaults text = (cs : List Bool) → Sound text (run text (Goes start) cs)

-- however its conditions turn out, it begins no more instructions than the bound
abbrev pub WithinBound : List Control → Type 0
WithinBound text = (b : ℕ) → bound text ≡ Some b → (cs : List Bool) → steps text (Goes start) cs ≤ b

-- an instruction's section is everything from its start to the next start
pub record Section (text : List Control) (n : ℕ) : Type 0 where
  pub begins : starts text (section text n) ≡ true
  pub before : section text n ≤ n
  pub unbroken : (k : ℕ) → section text n < k → k ≤ n → starts text k ≡ false

-- the first section has rank 0; another has 1 plus the highest rank of a section calling it from a lower number, or 1
pub record Ranked (text : List Control) (s : ℕ) : Type 0 where
  pub above : (n : ℕ) → n < s → at text n ≡ Call s → rank text n + 1 ≤ rank text s
  pub reached : (rank text s ≡ 1) ⊎ ((n : ℕ) × (n < s) × (at text n ≡ Call s) × (rank text s ≡ rank text n + 1))

pub record Words (text : List Control) : Type 0 where
  pub sections : (n : ℕ) → Section text n
  pub first_rank : rank text 0 ≡ 0
  pub same_rank : (n : ℕ) → rank text n ≡ rank text (section text n)
  pub ranks_of : (s : ℕ) → 0 < s → starts text s ≡ true → Ranked text s

-- an instruction that goes on at an address goes forward to it
abbrev pub Ahead : ℕ → Control → Type 0
Ahead n (JumpIf k) = n < k
Ahead n (Jump k) = n < k
Ahead n (Call k) = n < k
Ahead n Plain = Unit {0}
Ahead n Push = Unit {0}
Ahead n Pop = Unit {0}
Ahead n Return = Unit {0}
Ahead n End = Unit {0}

-- a weight follows from those of the address and of the next instruction
abbrev pub WeightsFollow : List Control → Type 0
WeightsFollow text = (n : ℕ) → n < length text → Ahead n (at text n) → weight text n ≡ weigh (at text n) (weight text (address (at text n))) (weight text (n + 1))
