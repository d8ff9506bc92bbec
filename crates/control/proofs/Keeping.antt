-- What an instruction that breaks no rule says about where control can go from it.
use Rattle.std.proofs.Common.{◌≡◌, ℕ, zero, suc, ◌+◌, ◌<◌, ◌≤◌, Bool, true, false, cond, not, eqb, List, [], ◌∷◌, length, Some, None, Option, sym, refl, ap, ◌∙◌, subst, add-one, arith}
use Rattle.std.proofs.lemmas.Bool.{eqb-true, eqb-false, leb-false, eq-eqb, or_parts, or_left, or_right, not-false, cond_both}
use Rattle.control.specs.declared.code.LoadingCode.{LoadingCode}
use Rattle.control.specs.declared.control.Control.{Control}
use Rattle.control.specs.declared.control.Control.TheVariants.{Plain, Push, Pop, JumpIf, Jump, Call, Return}
use Rattle.control.specs.Texts.{at, ground, depth, calls, called, starts, section, asked_more, ranks, rank}
use Rattle.control.specs.Rules.{place, Check, first_of, checks, address, broken, KeepsRules}
use Rattle.control.proofs.Sections.{section_goes_on, rank_goes_on, call_from}

-- the checks of an instruction, its kind apart
abbrev pub judged : Control → List Control → ℕ → Option LoadingCode
judged c text n = first_of (checks c (place text n) (depth text (address c)) (section text (address c)))

pub judged_at : (text : List Control) (n : ℕ) (c : Control) → at text n ≡ c → broken text n ≡ None → judged c text n ≡ None
judged_at text n c e h = subst (λ k. judged k text n ≡ None) e h

-- no test of these finds anything
abbrev pub AllPass : List Check → Type 0
AllPass [] = Unit {0}
AllPass (c ∷ cs) = (c.0 ≡ false) × AllPass cs

pass_one : (t : Bool) (code : LoadingCode) (rest : Option LoadingCode) → cond t (Some code) rest ≡ None → (t ≡ false) × (rest ≡ None)
pass_one true code rest h = absurd (cc)
pass_one false code rest h = (refl, h)

pub pass_all : (cs : List Check) → first_of cs ≡ None → AllPass cs
pass_all [] h = tt
pass_all (c ∷ cs) h = let one = pass_one c.0 c.1 (first_of cs) h in (one.0, pass_all cs one.1)

passes : (c : Control) (text : List Control) (n : ℕ) → judged c text n ≡ None → AllPass (checks c (place text n) (depth text (address c)) (section text (address c)))
passes c text n h = pass_all (checks c (place text n) (depth text (address c)) (section text (address c))) h

module _ (text : List Control) (n : ℕ) (inside : n < length text) where
  -- the next instruction is in the text, in the same section
  pub record Follows : Type 0 where
    pub within : suc n < length text
    pub same_section : section text (suc n) ≡ section text n
    pub same_rank : rank text (suc n) ≡ rank text n

  follows : (place text n).last ≡ false → Follows
  follows h =
      let parts = or_parts (eqb (n + 1) (length text)) (starts text (n + 1)) h in
      let ne = eqb-false (n + 1) (length text) parts.0 in
      let none : starts text (suc n) ≡ false = ap (λ k. starts text k) (sym (add-one n)) ∙ parts.1 in
      record {
        within = omega arith;
        same_section = section_goes_on text n none;
        same_rank = rank_goes_on text n none;
      }

  pub plain_keeps : judged Plain text n ≡ None → Follows
  plain_keeps h = follows (passes Plain text n h).0

  pub push_keeps : judged Push text n ≡ None → ((depth text n ≡ ground + 8) → ⊥) × Follows
  push_keeps h = let a = passes Push text n h in (eqb-false (depth text n) (ground + 8) a.0, follows a.1.0)

  pub pop_keeps : judged Pop text n ≡ None → ((depth text n ≡ ground) → ⊥) × Follows
  pop_keeps h = let a = passes Pop text n h in (eqb-false (depth text n) ground a.0, follows a.1.0)

  pub jump_if_keeps : (k : ℕ) → judged (JumpIf k) text n ≡ None → (depth text k ≡ depth text n) × (section text k ≡ section text n) × Follows
  jump_if_keeps k h =
      let a = passes (JumpIf k) text n h in (
        eqb-true (depth text k) (depth text n) (not-false (eqb (depth text k) (depth text n)) a.0),
        eqb-true (section text k) (section text n) (not-false (eqb (section text k) (section text n)) a.1.0),
        follows a.1.1.0,
      )

  pub jump_keeps : (k : ℕ) → judged (Jump k) text n ≡ None → (depth text k ≡ depth text n) × (section text k ≡ section text n)
  jump_keeps k h =
      let a = passes (Jump k) text n h in (
        eqb-true (depth text k) (depth text n) (not-false (eqb (depth text k) (depth text n)) a.0),
        eqb-true (section text k) (section text n) (not-false (eqb (section text k) (section text n)) a.1.0),
      )

  pub record CallsWell (k : ℕ) : Type 0 where
    pub level : depth text n ≡ ground
    pub level_there : depth text k ≡ ground
    pub forward : n < k
    pub shallow : (rank text n ≡ 8) → ⊥
    pub comes_back : Follows

  pub call_keeps : (k : ℕ) → judged (Call k) text n ≡ None → CallsWell k
  call_keeps k h =
      let a = passes (Call k) text n h in
      let levels = or_parts (not (eqb (depth text n) ground)) (not (eqb (depth text k) ground)) a.0 in
      record {
        level = eqb-true (depth text n) ground (not-false (eqb (depth text n) ground) levels.0);
        level_there = eqb-true (depth text k) ground (not-false (eqb (depth text k) ground) levels.1);
        forward = leb-false k n a.1.1.0;
        shallow = eqb-false (rank text n) 8 a.1.1.1.0;
        comes_back = follows a.1.0;
      }

  pub return_keeps : judged Return text n ≡ None → (depth text n ≡ ground) × ((section text n ≡ 0) → ⊥)
  return_keeps h =
      let a = passes Return text n h in
      (eqb-true (depth text n) ground (not-false (eqb (depth text n) ground) a.0), eqb-false (section text n) 0 a.1.0)

-- a called address begins a section
pub called_by : (text : List Control) (n k : ℕ) → n < length text → at text n ≡ Call k → called text k ≡ true
unfolding called
called_by [] n k lt e = absurd (omega arith)
called_by (c ∷ cs) zero k lt e = or_left _ _ (ap (λ x. calls x k) e ∙ eq-eqb k k refl)
called_by (c ∷ cs) (suc n) k lt e = or_right _ _ (called_by cs n k (omega arith) e)

-- no rank passes 8
module _ (text : List Control) (keeps : KeepsRules text) where
  Low : ℕ → Type 0
  Low n = (rank text n ≤ 8) × ((s : ℕ) → (ranks text n).asked s ≤ 8)

  low : (n : ℕ) → n ≤ length text → Low n
  unfolding Low ranks
  low zero h = (omega arith, λ s. omega arith)
  low (suc n) h =
      let below = low n (omega arith) in
      let asked : (s : ℕ) → asked_more (at text n) (ranks text n) s ≤ 8 =
      λ s.
      cond_both (calls (at text n) s) _ _ (λ r. r ≤ 8)
      (λ c.
      let call = call_from (at text n) s c in
      let shallow = (call_keeps text n h s (judged_at text n (Call s) call (keeps n h))).shallow in
      omega (arith, below.0, below.1 s))
      (λ _. omega (arith, below.1 s)) in
      (cond_both (starts text (suc n)) _ _ (λ r. r ≤ 8) (λ _. asked (suc n)) (λ _. below.0), asked)

  pub low_rank : (n : ℕ) → n < length text → rank text n ≤ 8
  unfolding Low
  low_rank n h = (low n (omega arith)).0
