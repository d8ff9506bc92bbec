-- Bytes of a table row after row, and the same table column after column.
use Rattle.std.specs.Prelude.{◌≡◌, ℕ, ◌+◌, ◌*◌, ◌/◌, List, map, length, slice_index}
use Rattle.std.specs.List.{range_with_len, flat_map}
use Rattle.pages.specs.declared.placement.Placement.{Placement}
use Rattle.pages.specs.Tables.{Shaped, row_after_row, column_after_column}

-- the byte at one offset of every row
abbrev pub column_bytes : List ℕ → ℕ → ℕ → List ℕ
column_bytes rows width offset = map (λ k. slice_index rows (k * width + offset)) (range_with_len 0 (length rows / width))

-- the columns of as many whole rows as there are, one after another
abbrev pub all_columns : List ℕ → ℕ → List ℕ
all_columns rows width = flat_map (column_bytes rows width) (range_with_len 0 width)

-- whatever table the bytes hold row after row, these hold it column after column
abbrev pub Transposes : List ℕ → ℕ → List ℕ → Type 0
Transposes rows width columns =
    (p : Placement) (table : List (List ℕ)) → p.layout.length ≡ width → Shaped p table → rows ≡ row_after_row width table
    → columns ≡ column_after_column width table
