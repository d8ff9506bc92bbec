-- What an arrangement of a table's rows in a page's bytes keeps.
use Rattle.std.specs.Prelude.{◌≡◌, ℕ, ◌<◌, true, List, [], slice_index_or}
use Rattle.pages.specs.declared.placement.Placement.{Placement}
use Rattle.pages.specs.Placements.{fits, at_row}
use Rattle.pages.specs.Pages.{row_bytes}
use Rattle.pages.specs.Tables.{Shaped, Lies}

-- no byte is looked for elsewhere when another row is the current one
abbrev pub Steady : (Placement → ℕ → ℕ → ℕ) → Type 0
Steady address = (p : Placement) (r k o : ℕ) → address (at_row p r) k o ≡ address p k o

-- a placement that fits has all bytes of its rows inside the page
abbrev pub KeepsInside : (Placement → ℕ → ℕ → ℕ) → Type 0
KeepsInside address =
    (capacity : ℕ) (p : Placement) (k o : ℕ) → fits capacity p ≡ true → k < p.rows → o < p.layout.length → address p k o < capacity

-- row k of a table that is so written is read back, from wherever it lies
abbrev pub Reads : (Placement → ℕ → ℕ → ℕ) → (ℕ → List (List ℕ) → List ℕ) → Type 0
Reads address written =
    (bytes : List ℕ) (p : Placement) (table : List (List ℕ)) → Shaped p table → Lies bytes p.start (written p.layout.length table)
    → (k : ℕ) → k < p.rows → row_bytes address bytes p k ≡ slice_index_or table k []
