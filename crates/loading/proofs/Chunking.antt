-- An image taken instruction by instruction.
use Rattle.std.proofs.Common.{◌≡◌, ℕ, ◌+◌, ◌*◌, ◌<◌, ◌≤◌, List, [], ◌∷◌, ◌++◌, length, get_or, take, drop, refl, sym, ap, ◌∙◌, subst, ⊎_elim, arith}
use Rattle.std.proofs.lemmas.List.{length-append, length-drop, get_or-drop, get_or_append_left, get_or-append-add, drop-drop, drop_at, drop-append-le, take-append-le, take_all}
use Rattle.std.proofs.lemmas.Bool.{cases_lt}
use Rattle.loading.specs.Images.{count, opcode_at, operand_bytes}

-- so many instructions were taken, and this is left
pub record Taken (image left : List ℕ) (n : ℕ) : Type 0 where
  pub rest : left ≡ drop (5 * n) image
  pub inside : 5 * n ≤ length image

-- the next one
pub record Next (image bytes rest : List ℕ) (n : ℕ) : Type 0 where
  pub inside : n < count image
  pub opcode : get_or bytes 0 0 ≡ opcode_at image n
  pub operand : drop 1 bytes ≡ operand_bytes image n
  pub taken : Taken image rest (n + 1)

pub start : (image : List ℕ) → Taken image image 0
start image = record { rest = refl; inside = omega arith }

pub next : (image left bytes rest : List ℕ) (n : ℕ) → Taken image left n → left ≡ bytes ++ rest → length bytes ≡ 5 → Next image bytes rest n
next image left bytes rest n t e five =
    let here : drop (5 * n) image ≡ bytes ++ rest = sym t.rest ∙ e in
    let size : length image ≡ 5 * n + 5 + length rest =
    omega (arith, ap length here, length-drop (5 * n) image, length-append bytes rest, t.inside) in
    let first : get_or image (5 * n + 0) 0 ≡ get_or bytes 0 0 =
    sym (get_or-drop (5 * n) image 0 0) ∙ (ap (λ l. get_or l 0 0) here ∙ get_or_append_left bytes rest 0 0 (omega arith)) in
    let after : drop (5 * n + 1) image ≡ drop 1 bytes ++ rest =
    sym (drop-drop 1 (5 * n) image) ∙ (ap (drop 1) here ∙ drop-append-le 1 bytes rest (omega arith)) in
    let beyond : drop (5 * (n + 1)) image ≡ rest =
    ap (λ k. drop k image) (omega arith) ∙ (sym (drop-drop 5 (5 * n) image) ∙ (ap (drop 5) here ∙ drop_at bytes rest 5 five)) in
    record {
      inside = omega (arith, size);
      opcode = sym first ∙ ap (λ k. get_or image k 0) (omega arith);
      operand = sym (ap (take 4) after ∙ (take-append-le 4 (drop 1 bytes) rest (omega (arith, length-drop 1 bytes))
          ∙ take_all 4 (drop 1 bytes) (omega (arith, length-drop 1 bytes))));
      taken = record { rest = sym beyond; inside = omega (arith, size) };
    }

-- nothing whole is left
pub ended : (image left : List ℕ) (n : ℕ) → Taken image left n → length left < 5 → n ≡ count image
ended image left n t few = omega (arith, ap length t.rest, length-drop (5 * n) image, t.inside)

-- what holds of each element holds still after a push
pub pushed : {X : Type 0} (P : ℕ → X → Type 0) (d : X) (xs ys : List X) (x : X) → ys ≡ xs ++ x ∷ []
    → ((k : ℕ) → k < length xs → P k (get_or xs k d)) → P (length xs) x → (k : ℕ) → k < length ys → P k (get_or ys k d)
pushed P d xs ys x e all here k lt =
    ⊎_elim
    (λ below. subst (P k) (sym (ap (λ l. get_or l k d) e ∙ get_or_append_left xs (x ∷ []) d k below)) (all k below))
    (λ past.
    let last : k ≡ length xs = omega (arith, ap length e, length-append xs (x ∷ [])) in
    let it : get_or ys k d ≡ x =
    ap (λ l. get_or l k d) e ∙ (ap (λ j. get_or (xs ++ x ∷ []) j d) (omega (arith, last)) ∙ get_or-append-add xs (x ∷ []) 0 d) in
    subst (λ j. P j (get_or ys k d)) (sym last) (subst (P (length xs)) (sym it) here))
    (cases_lt k (length xs))
