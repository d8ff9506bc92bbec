-- What placing and turning answer, and what they leave of a page.
use Rattle.std.specs.Prelude.{◌≡◌, ℕ, ◌-◌, true, cond, List, [], length, Result, ◌≢◌, slice_index_or}
use Rattle.records.specs.declared.layout.Layout.{Layout}
use Rattle.records.specs.declared.record.Record.TheVariants.{Current, Previous}
use Rattle.records.specs.Meaning.{Meaning, SameBase}
use Rattle.pages.specs.declared.placement.Placement.{Placement}
use Rattle.pages.specs.declared.refusal.Refusal.{Refusal}
use Rattle.pages.specs.Refusals.{answer, code}
use Rattle.pages.specs.Placements.{placement, placeable, placed, turnable, turned}
use Rattle.pages.specs.Pages.{page, row_bytes}
use Rattle.pages.specs.Tables.{Shaped, Lies}

-- base b has this layout and these two records now, and every other base is as it was
pub record Given (before after : Meaning) (b : ℕ) (l : Layout) (current previous : List ℕ) : Type 0 where
  pub layout : after.layout b ≡ l
  pub now_current : after.bytes b Current ≡ current
  pub now_previous : after.bytes b Previous ≡ previous
  pub others : (q : ℕ) → (q ≢ b) → SameBase after before q

-- under an address, and with tables written out as that address asks
module _ (address : Placement → ℕ → ℕ → ℕ) (written : ℕ → List (List ℕ) → List ℕ) (bytes : List ℕ) (before after : List Placement) where
  pub record Placing (b : ℕ) (p : Placement) (r : Result (Unit {0}) Refusal) : Type 0 where
    pub answered : r ≡ answer (placeable (length bytes) b p)
    pub numbered : code r ≡ cond (placeable (length bytes) b p) 0 9
    pub left : after ≡ cond (placeable (length bytes) b p) (placed before b p) before
    pub given : placeable (length bytes) b p ≡ true
        → Given (page address bytes before) (page address bytes after) b p.layout (row_bytes address bytes p p.row) (row_bytes address bytes p (p.row - 1))
    -- where a table lies there, the records are its row and the one before
    pub shows : placeable (length bytes) b p ≡ true
        → (table : List (List ℕ)) → Shaped p table → Lies bytes p.start (written p.layout.length table)
        → Given (page address bytes before) (page address bytes after) b p.layout (slice_index_or table p.row []) (slice_index_or table (p.row - 1) [])

  pub record Turning (b r : ℕ) (a : Result (Unit {0}) Refusal) : Type 0 where
    pub answered : a ≡ answer (turnable before b r)
    pub numbered : code a ≡ cond (turnable before b r) 0 9
    pub left : after ≡ cond (turnable before b r) (turned before b r) before
    pub given : turnable before b r ≡ true
        → Given (page address bytes before) (page address bytes after) b (placement before b).layout
        (row_bytes address bytes (placement before b) r) (row_bytes address bytes (placement before b) (r - 1))
    pub shows : turnable before b r ≡ true
        → (table : List (List ℕ)) → Shaped (placement before b) table → Lies bytes (placement before b).start (written (placement before b).layout.length table)
        → Given (page address bytes before) (page address bytes after) b (placement before b).layout (slice_index_or table r []) (slice_index_or table (r - 1) [])
