-- What a metering record says: its check sum, and the balance meter's total energy.
use Rattle.std.specs.Prelude.{ℕ, ◌+◌, ◌-◌, ◌*◌, ◌/◌, ◌%◌, Bool, cond, ◌&&◌, List, [], ◌∷◌, ◌++◌, length, codes, take, Some, None, sum, Option, ◌==◌, nat_le, nat_lt, slice_index}
use Rattle.std.specs.Fmt.{decimal}
use Rattle.metering.specs.declared.record.Growth.{Growth}
use Rattle.metering.specs.declared.record.Growth.TheVariants.{Rise, Fall}

-- the last byte is the sum of the others modulo 256
abbrev pub sum_holds : List ℕ → Bool
sum_holds xs = nat_lt 0 (length xs) && sum (take (length xs - 1) xs) % 256 == slice_index xs (length xs - 1)

-- two decimal digits of a byte, the tens in its high half
abbrev pub pair : ℕ → Option ℕ
pair x = cond (nat_le (x / 16) 9 && nat_le (x % 16) 9) (Some (x / 16 * 10 + x % 16)) None

-- a low pair of digits, and what stands above it
abbrev pub above : Option ℕ → Option ℕ → Option ℕ
above (Some low) (Some high) = Some (low + 100 * high)
above (Some low) None = None
above None high = None

-- four bytes from 95 on, low byte first
abbrev pub total_of : List ℕ → Option ℕ
total_of xs =
    cond (nat_lt (length xs) 99) None
    (above (pair (slice_index xs 95)) (above (pair (slice_index xs 96)) (above (pair (slice_index xs 97)) (pair (slice_index xs 98)))))

-- from the previous total to the current one, where both can be read
abbrev pub growth_of : Option ℕ → Option ℕ → Option Growth
growth_of (Some now) (Some before) = Some (cond (nat_le before now) (Rise (now - before)) (Fall (before - now)))
growth_of (Some now) None = None
growth_of None before = None

-- hundredths as a number with two digits after the point
abbrev pub hundredths : ℕ → List ℕ
hundredths n = decimal (n / 100) ++ (codes "." ++ (48 + n % 100 / 10) ∷ (48 + n % 10) ∷ [])

-- a movement as text, in kilowatt-hours with its sign
abbrev pub growth_text : Growth → List ℕ
growth_text (Rise n) = codes "+" ++ hundredths n ++ codes " kWh"
growth_text (Fall n) = codes "-" ++ hundredths n ++ codes " kWh"
