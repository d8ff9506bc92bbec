-- Both arrangements keep what an arrangement must: a placement that fits lies inside the page, and a table that is written out is
-- read back.
use Rattle.std.proofs.Common.{◌≡◌, ℕ, zero, suc, ◌+◌, ◌-◌, ◌*◌, ◌<◌, ◌≤◌, true, List, [], ◌∷◌, ◌++◌, length, get_or, drop, sym, ap, ◌∙◌, suc-mul, mul_comm, zero-add, zero-mul, arith}
use Rattle.std.specs.List.{range_with_len, flat_map}
use Rattle.std.proofs.lemmas.Nat.{mul-add-lt}
use Rattle.std.proofs.lemmas.List.{get_or_append_left, get_or-append_right, get_or-take, get_or-drop, length-map, get_or-map, length-append, ext_get_or}
use Rattle.std.proofs.lemmas.List.FromFn.{length-map-range_with_len, get_or-map-range_with_len, get_or-range_with_len, length-range_with_len}
use Rattle.std.proofs.lemmas.Bool.{and_parts, leb-true, ltb-true}
use Rattle.pages.specs.declared.placement.Placement.{Placement}
use Rattle.pages.specs.Placements.{fits}
use Rattle.pages.specs.Pages.{by_rows, by_columns, row_bytes}
use Rattle.pages.specs.Tables.{Shaped, row_after_row, column, column_after_column, Lies}
use Rattle.pages.specs.Arrangements.{KeepsInside, Reads}

-- what a placement that fits says, as numbers
pub record Fitting (capacity : ℕ) (p : Placement) : Type 0 where
  pub first : 1 ≤ p.row
  pub last : p.row < p.rows
  pub room : p.start + p.rows * p.layout.length ≤ capacity

pub fitting : (capacity : ℕ) (p : Placement) → fits capacity p ≡ true → Fitting capacity p
fitting capacity p h =
    let a = and_parts _ _ h in
    let b = and_parts _ _ a.0 in
    let r = and_parts _ _ b.1 in
    record {
      first = leb-true 1 p.row r.0;
      last = ltb-true p.row p.rows r.1;
      room = leb-true (p.start + p.rows * p.layout.length) capacity a.1;
    }

pub rows_inside : KeepsInside by_rows
rows_inside capacity p k o f hk ho = omega (arith, (fitting capacity p f).room, mul-add-lt k p.layout.length o p.rows hk ho)

pub columns_inside : KeepsInside by_columns
columns_inside capacity p k o f hk ho = omega (arith, (fitting capacity p f).room, mul-add-lt o p.rows k p.layout.length ho hk)

pub byte_of_row : (address : Placement → ℕ → ℕ → ℕ) (bytes : List ℕ) (p : Placement) (k o : ℕ)
    → o < p.layout.length → get_or (row_bytes address bytes p k) o 0 ≡ get_or bytes (address p k o) 0
byte_of_row address bytes p k o h = get_or-map-range_with_len (λ o. get_or bytes (address p k o) 0) 0 p.layout.length o o 0 h (zero-add o)

-- parts of one length, joined: how many bytes they have, and byte j of part i
module _ {X : Type 0} (f : X → List ℕ) (d : X) (len : ℕ) where
  pub joined_length : (xs : List X) → ((i : ℕ) → i < length xs → length (f (get_or xs i d)) ≡ len) → length (flat_map f xs) ≡ length xs * len
  joined_length [] h = sym (zero-mul len)
  joined_length (x ∷ xs) h =
      let here : length (f x) ≡ len = h 0 (omega arith) in
      let rest = joined_length xs (λ i lt. h (suc i) (omega arith)) in
      omega (arith, length-append (f x) (flat_map f xs), suc-mul (length xs) len)

  pub part_at : (xs : List X) → ((i : ℕ) → i < length xs → length (f (get_or xs i d)) ≡ len)
      → (i j : ℕ) → i < length xs → j < len → get_or (flat_map f xs) (i * len + j) 0 ≡ get_or (f (get_or xs i d)) j 0
  part_at [] h i j lt hj = absurd (omega arith)
  part_at (x ∷ xs) h zero j lt hj =
      let here : length (f x) ≡ len = h 0 (omega arith) in
      let e : 0 * len + j ≡ j = omega (arith, zero-mul len) in
      ap (λ n. get_or (f x ++ flat_map f xs) n 0) e ∙ get_or_append_left (f x) (flat_map f xs) 0 j (omega arith)
  part_at (x ∷ xs) h (suc i) j lt hj =
      let here : length (f x) ≡ len = h 0 (omega arith) in
      let e : suc i * len + j - len ≡ i * len + j = omega (arith, suc-mul i len) in
      get_or-append_right (f x) (flat_map f xs) len (suc i * len + j) 0 here (omega (arith, suc-mul i len))
      ∙ (ap (λ n. get_or (flat_map f xs) n 0) e ∙ part_at xs (λ n l. h (suc n) (omega arith)) i j (omega arith) hj)

lies_at : (bytes : List ℕ) (start : ℕ) (xs : List ℕ) (i : ℕ) → Lies bytes start xs → i < length xs → get_or bytes (start + i) 0 ≡ get_or xs i 0
lies_at bytes start xs i l h =
    sym (get_or-drop start bytes i 0) ∙ (sym (get_or-take (length xs) (drop start bytes) i 0 h) ∙ ap (λ ys. get_or ys i 0) l)

-- an address reads row k of a table where it finds each byte
reads_by : (address : Placement → ℕ → ℕ → ℕ) (bytes : List ℕ) (p : Placement) (table : List (List ℕ)) (k : ℕ) → Shaped p table → k < p.rows
    → ((o : ℕ) → o < p.layout.length → get_or bytes (address p k o) 0 ≡ get_or (get_or table k []) o 0) → row_bytes address bytes p k ≡ get_or table k []
reads_by address bytes p table k s hk h =
    let len = length-map-range_with_len (λ o. get_or bytes (address p k o) 0) 0 p.layout.length in
    let wide : length (get_or table k []) ≡ p.layout.length = s.wide k (omega (arith, s.tall)) in
    ext_get_or 0 (row_bytes address bytes p k) (get_or table k []) (len ∙ sym wide)
    (λ o lt. let ho : o < p.layout.length = omega (arith, len) in byte_of_row address bytes p k o ho ∙ h o ho)

pub rows_read : Reads by_rows row_after_row
rows_read bytes p table s lies k hk =
    reads_by by_rows bytes p table k s hk
    (λ o ho.
    let e : p.start + k * p.layout.length + o ≡ p.start + (k * p.layout.length + o) = omega arith in
    let size = joined_length (λ row. row) [] p.layout.length table s.wide in
    let within = mul-add-lt k p.layout.length o p.rows hk ho in
    let area : length table * p.layout.length ≡ p.layout.length * p.rows = ap (λ n. n * p.layout.length) s.tall ∙ mul_comm p.rows p.layout.length in
    ap (λ n. get_or bytes n 0) e
    ∙ (lies_at bytes p.start (row_after_row p.layout.length table) (k * p.layout.length + o) lies (omega arith)
    ∙ part_at (λ row. row) [] p.layout.length table s.wide k o (omega (arith, s.tall)) ho))

pub columns_read : Reads by_columns column_after_column
columns_read bytes p table s lies k hk =
    reads_by by_columns bytes p table k s hk
    (λ o ho.
    let len = p.layout.length in
    let tall : (i : ℕ) → i < length (range_with_len 0 len) → length (column table (get_or (range_with_len 0 len) i 0)) ≡ p.rows =
    λ i lt. length-map table (λ row. get_or row (get_or (range_with_len 0 len) i 0) 0) ∙ s.tall in
    let count = length-range_with_len 0 len in
    let e : p.start + o * p.rows + k ≡ p.start + (o * p.rows + k) = omega arith in
    let size = joined_length (column table) 0 p.rows (range_with_len 0 len) tall in
    let within = mul-add-lt o p.rows k len ho hk in
    let area : length (range_with_len 0 len) * p.rows ≡ p.rows * len = ap (λ n. n * p.rows) count ∙ mul_comm len p.rows in
    ap (λ n. get_or bytes n 0) e
    ∙ (lies_at bytes p.start (column_after_column len table) (o * p.rows + k) lies (omega arith)
    ∙ (part_at (column table) 0 p.rows (range_with_len 0 len) tall o k (omega arith) hk
    ∙ (ap (λ n. get_or (column table n) k 0) (get_or-range_with_len 0 len o 0 ho ∙ zero-add o)
    ∙ get_or-map (λ row. get_or row o 0) table k [] 0 (omega (arith, s.tall))))))
