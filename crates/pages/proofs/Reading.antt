-- Reading one byte: it lies inside the page, and it is the byte that the page's meaning has.
use Rattle.std.proofs.Common.{true, eqb, subst, ⊎_elim, ◌≡◌, ℕ, ◌<◌, ◌≤◌, List, length, get_or, Some, None, sym, ap, ◌∙◌, arith}
use Rattle.std.specs.List.{slice_get}
use Rattle.std.proofs.lemmas.List.FromFn.{length-map-range_with_len}
use Rattle.std.proofs.lemmas.Option.{slice_get-get_or, slice_get_past}
use Rattle.std.proofs.lemmas.Bool.{or_cases, eqb-true}
use Rattle.records.specs.declared.record.Record.{Record}
use Rattle.records.specs.declared.record.Record.TheVariants.{Current, Previous}
use Rattle.records.specs.Meaning.{byte_at}
use Rattle.pages.specs.declared.placement.Placement.{Placement}
use Rattle.pages.specs.Placements.{placement, fits}
use Rattle.pages.specs.Arrangements.{KeepsInside}
use Rattle.pages.specs.Laws.{Fitting, fitting, byte_of_row}
use Rattle.pages.specs.Pages.{row_number, row_bytes, page, held, AllHeld}

-- a held placement with a byte in its records is one that fits
held_fits : (capacity : ℕ) (p : Placement) (o : ℕ) → held capacity p ≡ true → o < p.layout.length → fits capacity p ≡ true
held_fits capacity p o h lt =
    ⊎_elim (λ gone. absurd (omega (arith, eqb-true p.layout.length 0 gone))) (λ f. f) (or_cases (eqb p.layout.length 0) (fits capacity p) h)

pub row_below : (capacity : ℕ) (p : Placement) (w : Record) → Fitting capacity p → row_number p w < p.rows
row_below capacity p Current f = f.last
row_below capacity p Previous f = omega (arith, f.last, f.first)

module _ (address : Placement → ℕ → ℕ → ℕ) (bytes : List ℕ) (p : Placement) (k o : ℕ) where
  pub some_inside : o < p.layout.length → Some (get_or bytes (address p k o) 0) ≡ slice_get (row_bytes address bytes p k) o
  some_inside h =
      let len = length-map-range_with_len (λ o. get_or bytes (address p k o) 0) 0 p.layout.length in
      sym (slice_get-get_or (row_bytes address bytes p k) o 0 (omega (arith, len)) ∙ ap Some (byte_of_row address bytes p k o h))

  pub none_past : p.layout.length ≤ o → None ≡ slice_get (row_bytes address bytes p k) o
  none_past h =
      let len = length-map-range_with_len (λ o. get_or bytes (address p k o) 0) 0 p.layout.length in
      sym (slice_get_past (row_bytes address bytes p k) o (omega (arith, len)))

-- what a page's code finds at a base, and what it answers from it
module _ (address : Placement → ℕ → ℕ → ℕ) (bytes : List ℕ) (ps : List Placement) (b : ℕ) (w : Record) (o : ℕ) (p : Placement) (e : p ≡ placement ps b) where
  pub answers_none : p.layout.length ≤ o → None ≡ byte_at (page address bytes ps) b w o
  answers_none h = none_past address bytes p (row_number p w) o h ∙ ap (λ (q : Placement). slice_get (row_bytes address bytes q (row_number q w)) o) e

  pub answers_some : (row : ℕ) → row ≡ row_number p w → o < p.layout.length → Some (get_or bytes (address p row o) 0) ≡ byte_at (page address bytes ps) b w o
  answers_some row er h =
      ap (λ k. Some (get_or bytes (address p k o) 0)) er
      ∙ (some_inside address bytes p (row_number p w) o h ∙ ap (λ (q : Placement). slice_get (row_bytes address bytes q (row_number q w)) o) e)

  -- the byte asked for lies inside
  pub found_inside : KeepsInside address → AllHeld (length bytes) ps → (row : ℕ) → row ≡ row_number p w → o < p.layout.length → address p row o < length bytes
  found_inside inside all row er h =
      let fits = held_fits (length bytes) p o (subst (λ q. held (length bytes) q ≡ true) (sym e) (all b)) h in
      inside (length bytes) p row o fits (omega (arith, row_below (length bytes) p w (fitting (length bytes) p fits))) h
