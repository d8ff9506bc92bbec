-- Placements: when a page can hold one, and what placing and turning make of a page's eight.
use Rattle.std.specs.Prelude.{ℕ, ◌+◌, ◌*◌, Bool, not, ◌&&◌, List, ◌==◌, nat_le, nat_lt, slice_index_or, slice_set}
use Rattle.records.specs.Layouts.{absent, lawful}
use Rattle.pages.specs.declared.placement.Placement.{Placement}

abbrev pub nowhere : Placement
nowhere = record { layout = absent; start = 0; rows = 0; row = 0 }

-- base b's placement among the eight; a base above 7 is absent
abbrev pub placement : List Placement → ℕ → Placement
placement ps b = slice_index_or ps b nowhere

-- 2 to 65,535 rows, with one before the current row and the current row among them
abbrev pub row_lawful : ℕ → ℕ → Bool
row_lawful rows row = nat_le 1 row && nat_lt row rows

abbrev pub fits : ℕ → Placement → Bool
fits capacity p =
    lawful p.layout && (nat_le 2 p.rows && nat_le p.rows 65535) && row_lawful p.rows p.row
    && nat_le (p.start + p.rows * p.layout.length) capacity

abbrev pub placeable : ℕ → ℕ → Placement → Bool
placeable capacity b p = nat_le b 7 && fits capacity p

abbrev pub placed : List Placement → ℕ → Placement → List Placement
placed ps b p = slice_set ps b p

abbrev pub turnable : List Placement → ℕ → ℕ → Bool
turnable ps b row = not ((placement ps b).layout.length == 0) && row_lawful (placement ps b).rows row

-- the same placement with another current row
abbrev pub at_row : Placement → ℕ → Placement
at_row p r = record { layout = p.layout; start = p.start; rows = p.rows; row = r }

abbrev pub turned : List Placement → ℕ → ℕ → List Placement
turned ps b row = slice_set ps b (at_row (placement ps b) row)
