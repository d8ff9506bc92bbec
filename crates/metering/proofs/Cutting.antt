-- How a text begins with its first line, and a line with its first word.
use Rattle.std.proofs.Common.{◌≡◌, ℕ, zero, suc, ◌+◌, ◌<◌, Bool, true, false, cond, List, [], ◌∷◌, length, get_or, take, drop, refl, ap, ◌∙◌, sym, arith, add-one}
use Rattle.std.proofs.lemmas.List.{nil_from_length, take_all, drop_all, length-take-le}
use Rattle.std.specs.Char.{is_ascii_whitespace}
use Rattle.metering.specs.Texts.{parts, begun_by, newline, lines, words, not_empty}

module _ (p : ℕ → Bool) where
  -- a byte before the first part
  begun_more : (kept : Bool) (b : ℕ) (longer shorter : List ℕ) (rest : List (List ℕ))
      → begun_by b (cond kept longer shorter ∷ rest) ≡ cond kept (b ∷ longer) (b ∷ shorter) ∷ rest
  begun_more true b longer shorter rest = refl
  begun_more false b longer shorter rest = refl

  -- the first part ends at the first byte that passes
  parts_at : (kept : Bool) (xs : List ℕ) (i : ℕ) → i < length xs → p (get_or xs i 0) ≡ true → ((k : ℕ) → k < i → p (get_or xs k 0) ≡ false)
      → parts p kept xs ≡ cond kept (take (suc i) xs) (take i xs) ∷ parts p kept (drop (suc i) xs)
  parts_at kept [] i inside here before = absurd (omega arith)
  parts_at kept (b ∷ bs) zero inside here before = rw here
  parts_at kept (b ∷ bs) (suc i) inside here before =
      let no : p b ≡ false = before 0 (omega arith) in
      let more = parts_at kept bs i (omega arith) here (λ k h. before (suc k) (omega arith)) in
      rw (no, more) (begun_more kept b (take (suc i) bs) (take i bs) (parts p kept (drop (suc i) bs)))

  -- where none passes, all is one part
  parts_none : (kept : Bool) (xs : List ℕ) → 0 < length xs → ((k : ℕ) → k < length xs → p (get_or xs k 0) ≡ false) → parts p kept xs ≡ xs ∷ []
  parts_none kept [] some before = absurd (omega arith)
  parts_none kept (x ∷ []) some before = let no : p x ≡ false = before 0 (omega arith) in rw no
  parts_none kept (x ∷ y ∷ xs) some before =
      let no : p x ≡ false = before 0 (omega arith) in
      let more = parts_none kept (y ∷ xs) (omega arith) (λ k h. before (suc k) (omega arith)) in
      rw no (ap (begun_by x) more)

  -- bytes that pass are in no part that has any
  gap_passed : (xs : List ℕ) (n : ℕ) → ((k : ℕ) → k < n → k < length xs → p (get_or xs k 0) ≡ true) → not_empty (parts p false xs) ≡ not_empty (parts p false (drop n xs))
  gap_passed [] zero all = refl
  gap_passed [] (suc n) all = refl
  gap_passed (b ∷ bs) zero all = refl
  gap_passed (b ∷ bs) (suc n) all =
      let yes : p b ≡ true = all 0 (omega arith) (omega arith) in
      rw yes (gap_passed bs n (λ k h d. all (suc k) (omega arith) (omega arith)))

  not_empty_first : (x : List ℕ) (rest : List (List ℕ)) → 0 < length x → not_empty (x ∷ rest) ≡ x ∷ not_empty rest
  not_empty_first [] rest some = absurd (omega arith)
  not_empty_first (b ∷ x) rest some = refl

-- a line ends after the first newline
pub line_at : (text : List ℕ) (i : ℕ) → i < length text → get_or text i 0 ≡ 10 → ((k : ℕ) → k < i → newline (get_or text k 0) ≡ false)
    → lines text ≡ take (i + 1) text ∷ lines (drop (i + 1) text)
unfolding lines
line_at text i inside here before = rw add-one (parts_at newline true text i inside (ap newline here) before)

-- or with the text
pub line_whole : (text : List ℕ) → 0 < length text → ((k : ℕ) → k < length text → newline (get_or text k 0) ≡ false)
    → lines text ≡ take (length text) text ∷ lines (drop (length text) text)
unfolding lines
line_whole text some none = rw (take_all (length text) text (omega arith), drop_all (length text) text (omega arith)) (parts_none newline true text some none)

-- no bytes are no lines
pub no_line : (text : List ℕ) → length text ≡ 0 → lines text ≡ []
unfolding lines
no_line [] e = refl
no_line (b ∷ bs) e = absurd (omega arith)

-- white space has no words
pub no_word : (line rest : List ℕ) (n : ℕ) → rest ≡ drop n line → length rest ≡ 0 → ((k : ℕ) → k < n → is_ascii_whitespace (get_or line k 0) ≡ true) → words line ≡ []
unfolding words
no_word line rest n left none blank =
    gap_passed is_ascii_whitespace line n (λ k h d. blank k h)
    ∙ ap (λ xs. not_empty (parts is_ascii_whitespace false xs)) (sym left ∙ nil_from_length rest none)

-- and what follows it has the same
pub words_after : (line rest : List ℕ) (n : ℕ) → rest ≡ drop n line → ((k : ℕ) → k < n → is_ascii_whitespace (get_or line k 0) ≡ true) → words line ≡ words rest
unfolding words
words_after line rest n left blank =
    gap_passed is_ascii_whitespace line n (λ k h d. blank k h) ∙ ap (λ xs. not_empty (parts is_ascii_whitespace false xs)) (sym left)

-- a word ends before the first white space, which belongs to none
pub word_at : (line : List ℕ) (i : ℕ) → 0 < i → i < length line → is_ascii_whitespace (get_or line i 0) ≡ true
    → ((k : ℕ) → k < i → is_ascii_whitespace (get_or line k 0) ≡ false) → words line ≡ take i line ∷ words (drop (i + 1) line)
unfolding words
word_at line i some inside here before =
    let begins : 0 < length (take i line) = omega (arith, length-take-le i line (omega arith)) in
    ap not_empty (parts_at is_ascii_whitespace false line i inside here before)
    ∙ (not_empty_first is_ascii_whitespace (take i line) (parts is_ascii_whitespace false (drop (suc i) line)) begins
    ∙ ap (λ n. take i line ∷ not_empty (parts is_ascii_whitespace false (drop n line))) (sym (add-one i)))

-- or with the line
pub word_whole : (line : List ℕ) → 0 < length line → ((k : ℕ) → k < length line → is_ascii_whitespace (get_or line k 0) ≡ false) → words line ≡ line ∷ words []
unfolding words
word_whole line some none = rw (parts_none is_ascii_whitespace false line some none) (not_empty_first is_ascii_whitespace line [] some)
