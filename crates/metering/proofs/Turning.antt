-- A table that is turned: its columns, read out of its rows.
use Rattle.std.proofs.Common.{◌≡◌, ℕ, zero, suc, ◌+◌, ◌*◌, ◌/◌, ◌%◌, ◌<◌, ◌≤◌, List, [], ◌∷◌, ◌++◌, map, length, get_or, sym, refl, ap, ◌∙◌, add-zero, suc-mul, zero-add, add-one, length-append, arith}
use Rattle.std.specs.List.{range_with_len, flat_map}
use Rattle.std.proofs.Math.Nat.{div-eq_of_lt}
use Rattle.std.proofs.lemmas.Nat.{div-add-mod', div-mul-add}
use Rattle.std.proofs.lemmas.List.FromFn.{length-map-range_with_len, get_or-map-range_with_len}
use Rattle.std.proofs.lemmas.List.{length-map, get_or-map, ext_get_or, append_assoc, append-nil, get_or-append-add}
use Rattle.std.proofs.Math.ListN.{get_or-append}
use Rattle.pages.specs.declared.placement.Placement.{Placement}
use Rattle.pages.specs.Tables.{Shaped, row_after_row, column, column_after_column}
use Rattle.pages.specs.Laws.{joined_length, part_at}
use Rattle.metering.specs.Transposes.{column_bytes, Transposes}

joined_same : (f g : ℕ → List ℕ) (a n : ℕ) → ((i : ℕ) → a ≤ i → i < a + n → f i ≡ g i) → flat_map f (range_with_len a n) ≡ flat_map g (range_with_len a n)
joined_same f g a zero h = refl
joined_same f g a (suc n) h =
    ap (λ xs. xs ++ flat_map f (range_with_len (a + 1) n)) (h a (omega arith) (omega arith))
    ∙ ap (λ xs. g a ++ xs) (joined_same f g (a + 1) n (λ i lo hi. h i (omega arith) (omega arith)))

module _ (rows : List ℕ) (w : ℕ) (p : Placement) (table : List (List ℕ)) (ew : p.layout.length ≡ w) (s : Shaped p table) (e : rows ≡ row_after_row w table) where
  wide : (k : ℕ) → k < length table → length (get_or table k []) ≡ w
  wide k h = s.wide k h ∙ ew

  count : (o : ℕ) → o < w → length rows / w ≡ length table
  count o h =
      let size : length rows ≡ length table * w + 0 = ap length e ∙ (joined_length (λ row. row) [] w table wide ∙ sym (add-zero (length table * w))) in
      ap (λ n. n / w) size ∙ div-mul-add (length table) w 0 (omega arith)

  column_is : (o : ℕ) → o < w → column_bytes rows w o ≡ column table o
  column_is o h =
      let many = length-map-range_with_len (λ k. get_or rows (k * w + o) 0) 0 (length rows / w) in
      let tall = length-map table (λ row. get_or row o 0) in
      ext_get_or 0 (column_bytes rows w o) (column table o) (many ∙ (count o h ∙ sym tall))
      (λ k lt.
      let below : k < length table = omega (arith, many, count o h) in
      let within : k < length rows / w = omega (arith, many) in
      get_or-map-range_with_len (λ k. get_or rows (k * w + o) 0) 0 (length rows / w) k k 0 within (zero-add k)
      ∙ (ap (λ xs. get_or xs (k * w + o) 0) e
      ∙ (part_at (λ row. row) [] w table wide k o below h
      ∙ sym (get_or-map (λ row. get_or row o 0) table k [] 0 below))))

  every_column : flat_map (column_bytes rows w) (range_with_len 0 w) ≡ column_after_column w table
  every_column = joined_same (column_bytes rows w) (column table) 0 w (λ o lo hi. column_is o (omega arith))

pub turned : (rows : List ℕ) (w : ℕ) (columns : List ℕ) → columns ≡ flat_map (column_bytes rows w) (range_with_len 0 w) → Transposes rows w columns
turned rows w columns e p table ew s er = e ∙ every_column rows w p table ew s er

shifted : (f g : ℕ → ℕ) (a n : ℕ) → ((k : ℕ) → f (k + 1) ≡ g k) → map f (range_with_len (a + 1) n) ≡ map g (range_with_len a n)
shifted f g a zero same = refl
shifted f g a (suc n) same = ap (λ x. x ∷ map f (range_with_len (a + 1 + 1) n)) (same a) ∙ ap (λ xs. g a ∷ xs) (shifted f g (a + 1) n same)

-- the byte of the first row, and the column of the rows after it
pub column_first : (rows row rest : List ℕ) (w o : ℕ) → o < w → rows ≡ row ++ rest → length row ≡ w → column_bytes rows w o ≡ get_or row o 0 ∷ column_bytes rest w o
column_first rows row rest w o ho laid size_of_row =
    let size : length rows ≡ suc (length rest / w) * w + length rest % w =
    omega (arith, ap length laid, length-append row rest, div-add-mod' (length rest) w, suc-mul (length rest / w) w) in
    let count : length rows / w ≡ suc (length rest / w) = ap (λ n. n / w) size ∙ div-mul-add (suc (length rest / w)) w (length rest % w) (omega arith) in
    let first : get_or rows (0 * w + o) 0 ≡ get_or row o 0 =
    ap (λ xs. get_or xs (0 * w + o) 0) laid ∙ (ap (λ i. get_or (row ++ rest) i 0) (omega arith) ∙ get_or-append row rest 0 o (omega arith)) in
    let later : (k : ℕ) → get_or rows ((k + 1) * w + o) 0 ≡ get_or rest (k * w + o) 0 =
    λ k. ap (λ xs. get_or xs ((k + 1) * w + o) 0) laid
    ∙ (ap (λ i. get_or (row ++ rest) i 0) (omega (arith, suc-mul k w)) ∙ get_or-append-add row rest (k * w + o) 0) in
    ap (λ n. map (λ k. get_or rows (k * w + o) 0) (range_with_len 0 n)) count
    ∙ (ap (λ x. x ∷ map (λ k. get_or rows (k * w + o) 0) (range_with_len (0 + 1) (length rest / w))) first
    ∙ ap (λ xs. get_or row o 0 ∷ xs) (shifted (λ k. get_or rows (k * w + o) 0) (λ k. get_or rest (k * w + o) 0) 0 (length rest / w) later))

-- fewer bytes than a row have no column
pub column_none : (rows : List ℕ) (w o : ℕ) → length rows < w → column_bytes rows w o ≡ []
column_none rows w o few = ap (λ n. map (λ k. get_or rows (k * w + o) 0) (range_with_len 0 n)) (div-eq_of_lt few)

joined_from : (f : ℕ → List ℕ) (a n : ℕ) → flat_map f (range_with_len a (suc n)) ≡ flat_map f (range_with_len a n) ++ f (a + n)
joined_from f a zero = append-nil (f a) ∙ ap f (sym (add-zero a))
joined_from f a (suc n) =
    let e : a + 1 + n ≡ a + suc n = omega arith in
    ap (λ xs. f a ++ xs) (joined_from f (a + 1) n ∙ ap (λ i. flat_map f (range_with_len (a + 1) n) ++ f i) e)
    ∙ sym (append_assoc (f a) (flat_map f (range_with_len (a + 1) n)) (f (a + suc n)))

pub columns_more : (f : ℕ → List ℕ) (so_far after : List ℕ) (n : ℕ) → so_far ≡ flat_map f (range_with_len 0 n) → after ≡ so_far ++ f n
    → after ≡ flat_map f (range_with_len 0 (n + 1))
columns_more f so_far after n es ea =
    let one : flat_map f (range_with_len 0 (n + 1)) ≡ flat_map f (range_with_len 0 n) ++ f n =
    ap (λ k. flat_map f (range_with_len 0 k)) (add-one n) ∙ (joined_from f 0 n ∙ ap (λ i. flat_map f (range_with_len 0 n) ++ f i) (zero-add n)) in
    cc
