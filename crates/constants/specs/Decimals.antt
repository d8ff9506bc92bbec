-- The decimal number that a constant's digits and exponent write, and what it is to be that number, rounded once.
use Rattle.std.specs.Prelude.{◌≡◌, ℕ, ◌+◌, ◌-◌, ◌*◌, ◌^◌, ◌≤◌, T, Some, Option, Float}
use Rattle.std.specs.Float.{Format, binary64}
use Rattle.std.specs.Float.Ieee.{round, fits}
use Rattle.std.specs.Float.Ieee.Positive.{num, den}
use Rattle.std.specs.Float.Ieee.Scale.{finite}
use Rattle.constants.specs.declared.exponent.Exponent.{Exponent}
use Rattle.constants.specs.declared.exponent.Exponent.TheVariants.{Plus, Minus}
use Rattle.constants.specs.Digits.{whole_number}
use Rattle.constants.specs.Exponents.{exponent}
use Rattle.constants.specs.Constants.{negative}

-- The size of the number as an exact fraction. Its five digits, which make m, stand after the point, and it is that times ten to
-- the exponent.
abbrev pub numerator : ℕ → Exponent → ℕ
numerator m (Plus e) = m * 10 ^ e
numerator m (Minus e) = m

abbrev pub denominator : Exponent → ℕ
denominator (Plus e) = 10 ^ 5
denominator (Minus e) = 10 ^ 5 * 10 ^ e

abbrev pub gap : ℕ → ℕ → ℕ
gap a b = (a - b) + (b - a)

-- x is num x / den x in size, so from a / c it lies this far, over den x * c
abbrev pub distance : Float → ℕ → ℕ → ℕ
distance x a c = gap (num x * c) (a * den x)

-- no finite number of the format is nearer to a / c in size
abbrev pub Nearest : Format → Float → ℕ → ℕ → Type 0
Nearest f x a c = (y : Float) → T (fits f y) → T (finite y) → distance x a c * den y ≤ distance y a c * den x

pub record RoundedOnce (p1 p2 p3 p4 : ℕ) (r : Option Float) : Type 0 where
  -- the exact number with its sign, rounded once, and at a tie to the even neighbour
  pub rounded : r ≡ Some (round binary64 (negative p1) (numerator (whole_number p2 p3 p4) (exponent p1 p4)) (denominator (exponent p1 p4)))
  pub nearest : (x : Float) → r ≡ Some x → Nearest binary64 x (numerator (whole_number p2 p3 p4) (exponent p1 p4)) (denominator (exponent p1 p4))
