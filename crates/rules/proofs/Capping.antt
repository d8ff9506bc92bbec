-- Weights that are capped as they are made.
use Rattle.std.proofs.Common.{◌≡◌, ℕ, zero, suc, ◌+◌, ◌-◌, ◌<◌, ◌≤◌, max, Bool, List, [], ◌∷◌, ◌++◌, length, get_or, take, set, sym, subst, refl, ap, ◌∙◌, ⊎_elim, zero-add, add-one, arith}
use Rattle.std.specs.List.{list_any, enumerate_from}
use Rattle.std.proofs.Math.Seq.{take-length}
use Rattle.std.proofs.Math.ListN.{replicate}
use Rattle.std.proofs.lemmas.Grind.{common_steps}
use Rattle.std.proofs.lemmas.List.FromFn.{length-enumerate_from, get_or-enumerate_from}
use Rattle.std.proofs.lemmas.List.Folds.{list_any_more}
use Rattle.std.proofs.lemmas.List.{take_all, take_more, length_push, length-take, length-replicate, length-set, get_or_push, get_or-take, get_or-replicate, get_or_past, get_or-set_same, get_or-set_other}
use Rattle.std.proofs.lemmas.Bool.{cases_eq}
use Rattle.control.specs.declared.control.Control.{Control}
use Rattle.control.specs.declared.control.Control.TheVariants.{Plain}
use Rattle.control.specs.Texts.{at}
use Rattle.control.specs.Rules.{address, Inside}
use Rattle.control.specs.Weights.{jumps_back, loops, weigh, weights, weight}
use Rattle.control.proofs.Weighing.{weight_is}
use Rattle.rules.specs.Caps.{capped}

-- a jump that does not go forward is found by a test of each number and its instruction
jump_back : ℕ × Control → Bool
jump_back p = jumps_back p.0 p.1

loops_from : (text : List Control) (n : ℕ) → n ≤ length text → list_any jump_back (take n (enumerate_from 0 text)) ≡ loops text n
unfolding loops jump_back
loops_from text zero h = refl
loops_from text (suc n) h =
    let pairs = enumerate_from 0 text in
    let below : n < length pairs = omega (arith, length-enumerate_from 0 text) in
    rw (← add-one n, list_any_more jump_back pairs n (0, Plain) below, get_or-enumerate_from 0 text n (0, Plain) h, zero-add, loops_from text n (omega arith)) refl

pub loops_is : (text : List Control) → list_any (λ (p : ℕ × Control). jumps_back p.0 p.1) (enumerate_from 0 text) ≡ loops text (length text)
unfolding jump_back
loops_is text =
    let pairs = enumerate_from 0 text in
    ap (list_any jump_back) (sym (take_all (length text) pairs (omega (arith, length-enumerate_from 0 text)))) ∙ loops_from text (length text) (omega arith)

weights_length : (text : List Control) (k : ℕ) → length (weights text k) ≡ k
unfolding weights
weights_length text zero = refl
weights_length text (suc k) = ap suc (weights_length text k)

pub weight_past : (text : List Control) (m : ℕ) → length text ≤ m → weight text m ≡ 0
weight_past text m h = get_or_past (weights text (length text)) m 0 (omega (arith, weights_length text (length text)))

-- capping early changes nothing
cap_weigh : (c : Control) (t n : ℕ) → capped (weigh c (capped t) (capped n)) ≡ capped (weigh c t n)
cap_weigh Plain t n = omega arith
cap_weigh _ t n = omega arith

-- one instruction back
weight_back : (text : List Control) (i target next r : ℕ) → i < length text
    → target ≡ capped (weight text (max (address (at text i)) (i + 1))) → next ≡ capped (weight text (i + 1))
    → r ≡ capped (weigh (at text i) target next) → r ≡ capped (weight text i)
weight_back text i target next r lt et en er =
    let e : max (address (at text i)) (i + 1) ≡ i + 1 + (address (at text i) - (i + 1)) = omega arith in
    rw (er, et, en, cap_weigh, e) (ap capped (sym (weight_is text i lt)))

-- a table that is filled from its end, one entry more
filled_back : (f : ℕ → ℕ) (xs : List ℕ) (i v top : ℕ) → i < length xs → ((m : ℕ) → i + 1 ≤ m → m ≤ top → get_or xs m 0 ≡ f m) → v ≡ f i
    → (m : ℕ) → i ≤ m → m ≤ top → get_or (set xs i v) m 0 ≡ f m
filled_back f xs i v top lt above here m lo hi =
    ⊎_elim (λ (same : m ≡ i). ap (λ k. get_or (set xs i v) k 0) same ∙ (get_or-set_same xs i v 0 lt ∙ (here ∙ ap f (sym same))))
    (λ apart. get_or-set_other xs i m v 0 apart ∙ above m (omega arith) hi) (cases_eq m i)

-- a walk from the back, where the first instructions are left and the weights of the others are at hand
pub record Weighed (text left : List Control) (weights : List ℕ) (next : ℕ) : Type 0 where
  pub first : left ≡ take (length left) text
  pub long : length weights ≡ 1025
  pub table : (m : ℕ) → length left ≤ m → m ≤ 1024 → get_or weights m 0 ≡ capped (weight text m)
  pub near : next ≡ capped (weight text (length left))

pub weighed_start : (text left : List Control) → left ≡ text → Weighed text left (replicate 1025 0) 0
weighed_start text left e =
    let none : (m : ℕ) → length left ≤ m → 0 ≡ capped (weight text m) = λ m lo. sym (ap capped (weight_past text m (omega (arith, ap length e)))) in
    record {
      first = e ∙ (sym (take-length text) ∙ ap (λ xs. take (length xs) text) (sym e));
      long = length-replicate {A = ℕ} 1025 0;
      table = λ m lo hi. get_or-replicate {A = ℕ} 1025 m 0 0 (omega arith) ∙ none m lo;
      near = none (length left) (omega arith);
    }

-- one instruction back, the last of those left, whose target's weight is read from the slot k
pub record Back (text rest : List Control) (weights : List ℕ) (next i k : ℕ) (x : Control) : Type 0 where
  pub inside : k < 1025
  pub low : get_or weights k 0 ≤ 1000001
  pub more : (v : ℕ) → v ≡ capped (weigh x (get_or weights k 0) next) → Weighed text rest (set weights i v) v

module _ (text left rest : List Control) (weights : List ℕ) (next i : ℕ) (w : Weighed text left weights next) (x : Control) (e : left ≡ rest ++ x ∷ []) (ei : i ≡ length rest)
    (few : length text ≤ 1024) (inside : Inside text) where
  many : length left ≡ i + 1
  many = ap length e ∙ (length_push rest x ∙ ap (λ k. k + 1) (sym ei))

  below : i < length text
  below = omega (arith, many, ap length w.first, length-take (length left) text)

  cut : rest ++ x ∷ [] ≡ take (i + 1) text
  cut = sym e ∙ (w.first ∙ ap (λ k. take k text) many)

  is_at : x ≡ at text i
  is_at = sym (get_or_push rest x Plain i (sym ei)) ∙ (ap (λ xs. get_or xs i Plain) cut ∙ get_or-take (i + 1) text i Plain (omega arith))

  -- the slot of its address, or of the next instruction where that is not ahead
  abbrev slot : ℕ
  slot = max (address x) (i + 1)

  slot_inside : slot ≤ 1024
  slot_inside = let here = below in omega (arith, inside i below, ap address is_at)

  target_is : get_or weights slot 0 ≡ capped (weight text slot)
  target_is = w.table slot (omega (arith, many)) slot_inside

  weighed_more : (v : ℕ) → v ≡ capped (weigh x (get_or weights slot 0) next) → Weighed text rest (set weights i v) v
  weighed_more v ev =
      let here : v ≡ capped (weight text i) =
      weight_back text i (get_or weights slot 0) next v below (target_is ∙ ap (λ c. capped (weight text (max (address c) (i + 1)))) is_at)
      (w.near ∙ ap (λ m. capped (weight text m)) many) (ev ∙ ap (λ c. capped (weigh c (get_or weights slot 0) next)) is_at) in
      let inner = below in
      record {
        first = grind (arith, common_steps, cut, take_more text i Plain inner);
        long = length-set weights i v ∙ w.long;
        table = λ m lo hi. filled_back (λ m. capped (weight text m)) weights i v 1024 (omega (arith, w.long)) (λ m lo hi. w.table m (omega (arith, many)) hi) here m (omega arith) hi;
        near = here ∙ ap (λ m. capped (weight text m)) ei;
      }

  back_at : (a k : ℕ) → a ≡ address x → k ≡ max a (i + 1) → Back text rest weights next i k x
  back_at a k ea ek =
      let e : slot ≡ k = ap (λ b. max b (i + 1)) (sym ea) ∙ sym ek in
      subst (λ s. Back text rest weights next i s x) e (record { inside = omega (arith, slot_inside); low = omega (arith, target_is); more = weighed_more })

-- the same as a turn of the walk has it, whose numbers count from 0
pub back : {text left rest : List Control} {weights : List ℕ} {next i first a k : ℕ} {x : Control} → length text ≤ 1024 → Inside text → first ≡ 0 → Weighed text left weights next
    → left ≡ rest ++ x ∷ [] → i ≡ first + length rest → a ≡ address x → k ≡ max a (i + 1) → Back text rest weights next i k x
back few inside ef w e ei ea ek = back_at _ _ _ _ _ _ w _ e (omega (arith, ef, ei)) few inside _ _ ea ek
