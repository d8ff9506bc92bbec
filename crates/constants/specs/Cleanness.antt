-- Clean numbers: finite, and not the negative zero.
use Rattle.std.specs.Prelude.{◌≡◌, zero, suc, Bool, true, false, not, Some, None, Option, Float}
use Rattle.std.specs.Float.{nan, inf, fin}

abbrev pub clean : Float → Bool
clean nan = false
clean (inf s) = false
clean (fin s zero e) = not s
clean (fin s (suc m) e) = true

-- what is given, if anything is, is clean
abbrev pub GivesClean : Option Float → Type 0
GivesClean (Some x) = clean x ≡ true
GivesClean None = Unit {0}
