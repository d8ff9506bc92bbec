-- The refusal of a page's calls, and its number.
use Rattle.std.specs.Prelude.{ℕ, Bool, true, false, Ok, Err, Result}
use Rattle.pages.specs.declared.refusal.Refusal.{Refusal}
use Rattle.pages.specs.declared.refusal.Refusal.TheVariants.{BadPlacement}

abbrev pub number : Refusal → ℕ
number BadPlacement = 9

-- a call goes through exactly when its conditions hold
abbrev pub answer : Bool → Result (Unit {0}) Refusal
answer true = Ok tt
answer false = Err BadPlacement

-- an answer as a number: 0 where the call goes through, else the refusal's
abbrev pub code : Result (Unit {0}) Refusal → ℕ
code (Ok _) = 0
code (Err e) = number e
