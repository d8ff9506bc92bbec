-- Tables of records, as they are written out in a page's bytes.
use Rattle.std.specs.Prelude.{◌≡◌, ℕ, ◌<◌, true, List, [], map, length, take, drop, slice_index, slice_index_or}
use Rattle.std.specs.List.{range_with_len, flat_map}
use Rattle.records.specs.Layouts.{lawful}
use Rattle.records.specs.Meaning.{Same}
use Rattle.pages.specs.declared.placement.Placement.{Placement}
use Rattle.pages.specs.Placements.{placement}
use Rattle.pages.specs.Pages.{page, by_rows}

-- a table of a placement's shape: as many rows, each as long as the layout
pub record Shaped (p : Placement) (table : List (List ℕ)) : Type 0 where
  pub tall : length table ≡ p.rows
  pub wide : (k : ℕ) → k < length table → length (slice_index_or table k []) ≡ p.layout.length

-- its rows one after another
abbrev pub row_after_row : ℕ → List (List ℕ) → List ℕ
row_after_row len table = flat_map (λ row. row) table

-- its columns one after another, as many as a row has bytes
abbrev pub column : List (List ℕ) → ℕ → List ℕ
column table o = map (λ row. slice_index row o) table

abbrev pub column_after_column : ℕ → List (List ℕ) → List ℕ
column_after_column len table = flat_map (column table) (range_with_len 0 len)

-- these bytes lie from there on
abbrev pub Lies : List ℕ → ℕ → List ℕ → Type 0
Lies bytes start xs = take (length xs) (drop start bytes) ≡ xs

-- one table, lying row after row in some bytes and as it is written otherwise in others
pub record Transposed (written : ℕ → List (List ℕ) → List ℕ) (rs others : List ℕ) (p : Placement) : Type 0 where
  pub table : List (List ℕ)
  pub shaped : Shaped p table
  pub rows_lie : Lies rs p.start (row_after_row p.layout.length table)
  pub others_lie : Lies others p.start (written p.layout.length table)

-- a row page whose tables are the transposed ones of this page, placed alike, means the same
abbrev pub Alike : (Placement → ℕ → ℕ → ℕ) → (ℕ → List (List ℕ) → List ℕ) → List ℕ → List Placement → Type 0
Alike address written others ps =
    (rs : List ℕ) → ((b : ℕ) → lawful (placement ps b).layout ≡ true → Transposed written rs others (placement ps b))
    → Same (page by_rows rs ps) (page address others ps)
