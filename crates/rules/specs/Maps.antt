-- A table of where each instruction of a text stands.
use Rattle.std.specs.Prelude.{◌≡◌, ℕ, ◌<◌, List, length, Some, slice_get}
use Rattle.control.specs.declared.control.Control.{Control}
use Rattle.control.specs.declared.place.Place.{Place}
use Rattle.control.specs.Rules.{place}

-- the table holds the place of each instruction
abbrev pub Mapped : List Control → List Place → Type 0
Mapped text places = (n : ℕ) → n < length text → slice_get places n ≡ Some (place text n)
