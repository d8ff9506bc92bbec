-- The judgment on a text: whether it is one, the first rule that it breaks, or its step bound.
use Rattle.std.specs.Prelude.{◌≡◌, ℕ, ◌≤◌, Bool, false, cond, ◌&&◌, List, length, Some, None, Ok, Err, Option, Result, nat_le, nat_lt}
use Rattle.std.specs.List.{list_all}
use Rattle.control.specs.declared.code.LoadingCode.{LoadingCode}
use Rattle.control.specs.declared.control.Control.{Control}
use Rattle.control.specs.Rules.{address, broken, FirstAt, first_broken, KeepsRules}
use Rattle.control.specs.Weights.{bound}
use Rattle.control.specs.Machine.{Goes, start, steps}
use Rattle.control.specs.Promises.{NeverFaults, Words, WeightsFollow}
use Rattle.rules.specs.declared.error.TextError.{TextError}
use Rattle.rules.specs.declared.error.TextError.TheVariants.{Malformed, Breaks}

-- every address is below a limit
abbrev pub all_below : ℕ → List Control → Bool
all_below limit text = list_all (λ c. nat_lt (address c) limit) text

-- 1 to 1,024 instructions, with all addresses inside
abbrev pub formed : List Control → Bool
formed text = nat_lt 0 (length text) && nat_le (length text) 1024 && all_below (length text) text

abbrev pub told : Option (LoadingCode × ℕ) → Option ℕ → Result (Option ℕ) TextError
told (Some found) limit = Err (Breaks found.0 found.1)
told None limit = Ok limit

abbrev pub judgment : List Control → Result (Option ℕ) TextError
judgment text = cond (formed text) (told (first_broken text (length text)) (bound text)) (Err Malformed)

-- What a judgment says of its text: no text; the first rule that is broken, at the first instruction that breaks one; or that
-- every instruction keeps them all, and the bound. The words that the rules use mean what they say.
abbrev pub Says : List Control → Result (Option ℕ) TextError → Type 0
Says text (Err Malformed) = formed text ≡ false
Says text (Err (Breaks code n)) = FirstAt (broken text) (length text) code n × Words text × WeightsFollow text
Says text (Ok limit) = KeepsRules text × (limit ≡ bound text) × Words text × WeightsFollow text

-- What a text that keeps the rules can be trusted with: however its conditions turn out, it never faults, never leaves
-- its instructions, and never takes more steps than its bound; and its sections and ranks are what the words say.
abbrev pub Trusted : List Control → Result (Option ℕ) TextError → Type 0
Trusted text (Err Malformed) = Unit {0}
Trusted text (Err (Breaks code n)) = Unit {0}
Trusted text (Ok limit) =
    NeverFaults text × ((b : ℕ) → limit ≡ Some b → (cs : List Bool) → steps text (Goes start) cs ≤ b) × Words text
