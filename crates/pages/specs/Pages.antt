-- Pages: what a page over a caller's bytes means, by where the bytes of its rows lie.
use Rattle.std.specs.Prelude.{◌≡◌, ℕ, ◌+◌, ◌-◌, ◌*◌, Bool, true, ◌||◌, ◌⊎◌, List, map, length, ◌==◌, slice_index}
use Rattle.std.proofs.Common.{ap, inl, inr, ⊎_elim, arith, eqb-true}
use Rattle.std.specs.List.{range_with_len}
use Rattle.std.proofs.lemmas.List.{get_or_past}
use Rattle.std.proofs.lemmas.List.FromFn.{length-map-range_with_len}
use Rattle.std.proofs.lemmas.Bool.{or_cases, and_parts}
use Rattle.records.specs.declared.record.Record.{Record}
use Rattle.records.specs.declared.record.Record.TheVariants.{Current, Previous}
use Rattle.records.specs.Layouts.{absent, lawful}
use Rattle.records.specs.Meaning.{Meaning, Lawful}
use Rattle.pages.specs.declared.placement.Placement.{Placement}
use Rattle.pages.specs.Placements.{nowhere, placement, fits}

-- where byte o of row k lies: row after row, or column after column
abbrev pub by_rows : Placement → ℕ → ℕ → ℕ
by_rows p k o = p.start + k * p.layout.length + o

abbrev pub by_columns : Placement → ℕ → ℕ → ℕ
by_columns p k o = p.start + o * p.rows + k

-- the current row, and the one before it
abbrev pub row_number : Placement → Record → ℕ
row_number p Current = p.row
row_number p Previous = p.row - 1

-- the bytes of row k, under either address
abbrev pub row_bytes : (Placement → ℕ → ℕ → ℕ) → List ℕ → Placement → ℕ → List ℕ
row_bytes address bytes p k = map (λ o. slice_index bytes (address p k o)) (range_with_len 0 p.layout.length)

abbrev pub page : (Placement → ℕ → ℕ → ℕ) → List ℕ → List Placement → Meaning
page address bytes ps = record {
  layout = λ b. (placement ps b).layout;
  bytes = λ b w. row_bytes address bytes (placement ps b) (row_number (placement ps b) w);
}

-- a placement that a page holds: an absent one, or one that fits
abbrev pub held : ℕ → Placement → Bool
held capacity p = p.layout.length == 0 || fits capacity p

-- what a page keeps of its eight placements
abbrev pub AllHeld : ℕ → List Placement → Type 0
AllHeld capacity ps = (b : ℕ) → held capacity (placement ps b) ≡ true

layout_each : (capacity : ℕ) (p : Placement) → held capacity p ≡ true → (p.layout ≡ absent) ⊎ (lawful p.layout ≡ true)
layout_each capacity p h =
    ⊎_elim (λ e. inl (ap (λ (n : ℕ). record { length = n }) (eqb-true p.layout.length 0 e)))
    (λ f. inr (and_parts _ _ (and_parts _ _ (and_parts _ _ f).0).0).0)
    (or_cases (p.layout.length == 0) (fits capacity p) h)

-- every page means something lawful, wherever its bytes lie
module _ (address : Placement → ℕ → ℕ → ℕ) (bytes : List ℕ) (ps : List Placement) where
  pub page_lawful : length ps ≡ 8 → AllHeld (length bytes) ps → Lawful (page address bytes ps)
  page_lawful eight each = record {
    eight = λ b h. ap (λ (p : Placement). p.layout) (get_or_past ps b nowhere (omega (arith, eight)));
    each = λ b. layout_each (length bytes) (placement ps b) (each b);
    exact = λ b w.
        length-map-range_with_len (λ o. slice_index bytes (address (placement ps b) (row_number (placement ps b) w) o)) 0 (placement ps b).layout.length;
  }
