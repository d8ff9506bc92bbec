-- What placing and turning make of a page, from what they make of its placements.
use Rattle.std.proofs.Common.{◌≡◌, ◌&&◌, Ok, ℕ, ◌-◌, ◌<◌, ◌≤◌, true, false, cond, not, eqb, List, [], ◌∷◌, map, length, get_or, set, sym, refl, ap, ◌∙◌, subst, ⊎_elim, arith}
use Rattle.std.specs.List.{range_with_len}
use Rattle.std.proofs.lemmas.List.FromFn.{length-map-range_with_len}
use Rattle.std.proofs.lemmas.List.{get_or-set_same, get_or-set_other, nil_from_length, set_past}
use Rattle.std.proofs.lemmas.Bool.{and_parts, and_from, eqb-true, or_cases, or_right, cond-true, le-leb, lt-ltb, cases_lt, cases_eq, both_ways}
use Rattle.records.specs.declared.layout.Layout.{Layout}
use Rattle.records.specs.declared.record.Record.{Record}
use Rattle.pages.specs.declared.placement.Placement.{Placement}
use Rattle.pages.specs.Refusals.{answer}
use Rattle.pages.specs.Placements.{nowhere, placement, row_lawful, fits, turnable, turned, at_row}
use Rattle.pages.specs.Pages.{by_rows, row_number, row_bytes, page, held, AllHeld}
use Rattle.pages.specs.Tables.{Alike}
use Rattle.pages.specs.Arrangements.{Steady, Reads}
use Rattle.pages.specs.Changes.{Given, Turning}
use Rattle.pages.proofs.Reading.{row_below}
use Rattle.pages.specs.Laws.{fitting, rows_read}

map_same : (f g : ℕ → ℕ) → ((x : ℕ) → f x ≡ g x) → (xs : List ℕ) → map f xs ≡ map g xs
map_same f g h [] = refl
map_same f g h (x ∷ xs) = ap (λ y. y ∷ map f xs) (h x) ∙ ap (λ ys. g x ∷ ys) (map_same f g h xs)

-- the conditions of turning, together
turnable_by : (ps : List Placement) (b r : ℕ) (p : Placement) → p ≡ placement ps b → eqb p.layout.length 0 ≡ false → 1 ≤ r → r < p.rows
    → turnable ps b r ≡ true
turnable_by ps b r p e there first last =
    ap (λ (q : Placement). not (eqb q.layout.length 0) && row_lawful q.rows r) (sym e)
    ∙ and_from _ _ (ap not there) (and_from _ _ (le-leb 1 r first) (lt-ltb r p.rows last))

-- what a page means after one base was set
module _ (address : Placement → ℕ → ℕ → ℕ) (written : ℕ → List (List ℕ) → List ℕ) (reads : Reads address written) (steady : Steady address)
    (bytes : List ℕ) (before after : List Placement) (eight : length before ≡ 8) where
  set_base : (b : ℕ) (p : Placement) → b < 8 → after ≡ set before b p
      → Given (page address bytes before) (page address bytes after) b p.layout (row_bytes address bytes p p.row) (row_bytes address bytes p (p.row - 1))
  set_base b p h e =
      let here : placement after b ≡ p = ap (λ ps. placement ps b) e ∙ get_or-set_same before b p nowhere (omega arith) in
      record {
        layout = ap (λ (p : Placement). p.layout) here;
        now_current = ap (λ (p : Placement). row_bytes address bytes p p.row) here;
        now_previous = ap (λ (p : Placement). row_bytes address bytes p (p.row - 1)) here;
        others = λ q ne.
            let there : placement after q ≡ placement before q = ap (λ ps. placement ps q) e ∙ get_or-set_other before b q p nowhere ne in
            record {
              layouts = ap (λ (p : Placement). p.layout) there;
              records = λ w. ap (λ (p : Placement). row_bytes address bytes p (row_number p w)) there;
            };
      }

  -- the same records, told otherwise
  retold : {b : ℕ} {l : Layout} {c p c' p' : List ℕ} → c ≡ c' → p ≡ p'
      → Given (page address bytes before) (page address bytes after) b l c p → Given (page address bytes before) (page address bytes after) b l c' p'
  retold ec ep g = record { layout = g.layout; now_current = g.now_current ∙ ec; now_previous = g.now_previous ∙ ep; others = g.others }

  -- a base that is there turned to a row of its table
  pub turning : (b r : ℕ) (p : Placement) → p ≡ placement before b → b ≤ 7 → eqb p.layout.length 0 ≡ false → 1 ≤ r → r < p.rows
      → after ≡ set before b (at_row p r) → Turning address written bytes before after b r (Ok tt)
  turning b r p ep low there first last e =
      let p' = placement before b in
      let same : (k : ℕ) → row_bytes address bytes (at_row p' r) k ≡ row_bytes address bytes p' k =
      λ k. map_same _ _ (λ o. ap (λ n. get_or bytes n 0) (steady p' r k o)) (range_with_len 0 p'.layout.length) in
      let t : turnable before b r ≡ true = turnable_by before b r p ep there first last in
      let left : after ≡ set before b (at_row p' r) = e ∙ ap (λ (q : Placement). set before b (at_row q r)) ep in
      let given = retold (same r) (same (r - 1)) (set_base b (at_row p' r) (omega (arith, low)) left) in
      let below : r < p'.rows = subst (λ (q : Placement). r < q.rows) ep last in
      record {
        answered = sym (ap answer t);
        numbered = sym (ap (λ t. cond t 0 9) t);
        left = left ∙ sym (cond-true (turnable before b r) (turned before b r) before t);
        given = λ _. given;
        shows = λ _ table s lies. retold (reads bytes p' table s lies r below) (reads bytes p' table s lies (r - 1) (omega arith)) given;
      }

-- what a page keeps is kept by a placement that fits, at any base
held_set : (capacity : ℕ) (ps : List Placement) (b : ℕ) (p : Placement) → AllHeld capacity ps → held capacity p ≡ true → AllHeld capacity (set ps b p)
held_set capacity ps b p all h q =
    ⊎_elim
    (λ e.
    ⊎_elim
    (λ lt. subst (λ x. held capacity x ≡ true) (sym (ap (λ n. get_or (set ps b p) n nowhere) e ∙ get_or-set_same ps b p nowhere lt)) h)
    (λ le. subst (λ xs. held capacity (placement xs q) ≡ true) (sym (set_past ps b p le)) (all q))
    (cases_lt b (length ps)))
    (λ ne. subst (λ x. held capacity x ≡ true) (sym (get_or-set_other ps b q p nowhere ne)) (all q))
    (cases_eq q b)

pub held_placed : (capacity : ℕ) (ps : List Placement) (b : ℕ) (p : Placement) → AllHeld capacity ps → fits capacity p ≡ true
    → AllHeld capacity (set ps b p)
held_placed capacity ps b p all f = held_set capacity ps b p all (or_right (eqb p.layout.length 0) (fits capacity p) f)

pub held_turned : (capacity : ℕ) (ps : List Placement) (b r : ℕ) (p : Placement) → AllHeld capacity ps → p ≡ placement ps b
    → eqb p.layout.length 0 ≡ false → 1 ≤ r → r < p.rows → AllHeld capacity (set ps b (at_row p r))
held_turned capacity ps b r p all e there first last =
    held_placed capacity ps b (at_row p r) all
    (⊎_elim (λ gone. absurd (both_ways _ there gone))
    (λ f.
    let a = and_parts _ _ f in
    let b = and_parts _ _ a.0 in
    and_from _ _ (and_from _ _ b.0 (and_from _ _ (le-leb 1 r first) (lt-ltb r p.rows last))) a.1)
    (or_cases (eqb p.layout.length 0) (fits capacity p) (subst (λ q. held capacity q ≡ true) (sym e) (all b))))

-- a row page and a page in another arrangement over transposed tables
pub alike : (address : Placement → ℕ → ℕ → ℕ) (written : ℕ → List (List ℕ) → List ℕ) → Reads address written
    → (others : List ℕ) (ps : List Placement) → AllHeld (length others) ps → Alike address written others ps
alike address written reads others ps all rs transposed b = record { layouts = refl; records = same_row }
  where
    none : (address : Placement → ℕ → ℕ → ℕ) (bytes : List ℕ) (k : ℕ) → (placement ps b).layout.length ≡ 0 → row_bytes address bytes (placement ps b) k ≡ []
    none address bytes k e =
        nil_from_length (row_bytes address bytes (placement ps b) k)
        (length-map-range_with_len (λ o. get_or bytes (address (placement ps b) k o) 0) 0 (placement ps b).layout.length ∙ e)

    same_row : (w : Record) → row_bytes by_rows rs (placement ps b) (row_number (placement ps b) w) ≡ row_bytes address others (placement ps b) (row_number (placement ps b) w)
    same_row w =
        let p = placement ps b in
        ⊎_elim
        (λ gone. let e = eqb-true p.layout.length 0 gone in none by_rows rs (row_number p w) e ∙ sym (none address others (row_number p w) e))
        (λ f.
        let t = transposed b (and_parts _ _ (and_parts _ _ (and_parts _ _ f).0).0).0 in
        let below = row_below (length others) p w (fitting (length others) p f) in
        rows_read rs p t.table t.shaped t.rows_lie (row_number p w) below
        ∙ sym (reads others p t.table t.shaped t.others_lie (row_number p w) below))
        (or_cases (eqb p.layout.length 0) (fits (length others) p) (all b))
