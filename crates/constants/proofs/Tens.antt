-- The table of powers of ten: its rule by one computed test, and that each power is exactly ten to its number.
use Rattle.std.proofs.Common.{◌≡◌, ℕ, ◌*◌, ◌^◌, ◌≤◌, Bool, true, false, T, eqb, List, map, get_or, refl, ap, ◌∙◌, arith, eqb→eq}
use lib.Ieee.{Float, nan, inf, fin, up, down, of_bits, mul}
use lib.Ieee.Exact.{HasValue}
use Rattle.std.specs.Bool.{passes}
use Rattle.std.specs.List.{range_with_len}
use Rattle.std.proofs.lemmas.Bool.{agree_below_at}
use Rattle.std.proofs.lemmas.List.FromFn.{get_or-map-range_with_len}
use Rattle.constants.specs.Powers.{power}

-- a table of the first 23 powers has each at its number
pub at_each : (table : List Float) → table ≡ map power (range_with_len 0 23) → (k : ℕ) → k ≤ 22 → get_or table k nan ≡ power k
at_each table e k h = ap (λ (xs : List Float). get_or xs k nan) e ∙ get_or-map-range_with_len power 0 23 k k nan (omega arith) (omega arith)

-- x is n
abbrev equals : Float → ℕ → Bool
equals nan n = false
equals (inf s) n = false
equals (fin true m e) n = false
equals (fin false m e) n = eqb (m * up e * 1) (n * down e)

equals_value : (x : Float) (n : ℕ) → T (equals x n) → HasValue x false n 1
equals_value nan n t = t
equals_value (inf s) n t = t
equals_value (fin true m e) n t = absurd t
equals_value (fin false m e) n t = (refl, eqb→eq (m * up e * 1) (n * down e) t)

pub exact : (k : ℕ) → k ≤ 22 → HasValue (power k) false (10 ^ k) 1
unfolding power mul of_bits
exact k h = equals_value (power k) (10 ^ k) (passes _ (agree_below_at (λ j. equals (power j) (10 ^ j)) (λ _. true) 23 k refl (omega arith)))
