-- Sections and ranks are what the words say.
use Rattle.std.proofs.Common.{◌≡◌, ℕ, zero, suc, ◌+◌, ◌<◌, ◌≤◌, max, true, false, ◌⊎◌, List, sym, refl, ap, ◌∙◌, subst, inl, inr, ⊎_elim, arith}
use Rattle.std.proofs.lemmas.Bool.{cases_Bool, cases_eq, cases_lt, eqb-true, eq-eqb, cond-true, cond-false, cond_both, both_ways}
use Rattle.control.specs.declared.control.Control.{Control}
use Rattle.control.specs.declared.control.Control.TheVariants.{Call}
use Rattle.control.specs.Texts.{at, calls, starts, section, asked_more, ranks, rank}
use Rattle.control.specs.Promises.{Section, Ranked, Words}

-- one instruction on: a section begins there, or goes on
pub section_begins : (text : List Control) (n : ℕ) → starts text n ≡ true → section text n ≡ n
unfolding section
section_begins text zero h = refl
section_begins text (suc n) h = cond-true (starts text (suc n)) (suc n) (section text n) h

pub section_goes_on : (text : List Control) (n : ℕ) → starts text (suc n) ≡ false → section text (suc n) ≡ section text n
unfolding section
section_goes_on text n h = cond-false (starts text (suc n)) (suc n) (section text n) h

pub rank_begins : (text : List Control) (n : ℕ) → starts text (suc n) ≡ true → rank text (suc n) ≡ (ranks text (suc n)).asked (suc n)
unfolding ranks
rank_begins text n h = cond-true (starts text (suc n)) (asked_more (at text n) (ranks text n) (suc n)) (ranks text n).here h

pub rank_goes_on : (text : List Control) (n : ℕ) → starts text (suc n) ≡ false → rank text (suc n) ≡ rank text n
unfolding ranks
rank_goes_on text n h = cond-false (starts text (suc n)) (asked_more (at text n) (ranks text n) (suc n)) (ranks text n).here h

asked_step : (text : List Control) (n s : ℕ) → (ranks text (suc n)).asked s ≡ asked_more (at text n) (ranks text n) s
unfolding ranks
asked_step text n s = refl

pub section_is : (text : List Control) (n : ℕ) → Section text n
section_is text zero =
    let e = section_begins text 0 refl in
    record {
      begins = subst (λ k. starts text k ≡ true) (sym e) refl;
      before = omega (arith, e);
      unbroken = λ k lo hi. absurd (omega (arith, e));
    }
section_is text (suc n) =
    ⊎_elim
    (λ h.
    let e = section_begins text (suc n) h in
    record {
      begins = subst (λ k. starts text k ≡ true) (sym e) h;
      before = omega (arith, e);
      unbroken = λ k lo hi. absurd (omega (arith, e));
    })
    (λ h.
    let e = section_goes_on text n h in
    let s = section_is text n in
    record {
      begins = subst (λ k. starts text k ≡ true) (sym e) s.begins;
      before = omega (arith, e, s.before);
      unbroken = λ k lo hi.
          ⊎_elim (λ (same : k ≡ suc n). subst (λ j. starts text j ≡ false) (sym same) h)
          (λ apart. s.unbroken k (omega (arith, e)) (omega arith)) (cases_eq k (suc n));
    })
    (cases_Bool (starts text (suc n)))

-- an instruction has the rank of its section's start
pub rank_of_section : (text : List Control) (n : ℕ) → rank text n ≡ rank text (section text n)
rank_of_section text zero = ap (λ k. rank text k) (sym (section_begins text 0 refl))
rank_of_section text (suc n) =
    ⊎_elim (λ h. ap (λ k. rank text k) (sym (section_begins text (suc n) h)))
    (λ h. rank_goes_on text n h ∙ (rank_of_section text n ∙ ap (λ k. rank text k) (sym (section_goes_on text n h))))
    (cases_Bool (starts text (suc n)))

pub rank_by_section : (text : List Control) (m n : ℕ) → section text m ≡ section text n → rank text m ≡ rank text n
rank_by_section text m n e = rank_of_section text m ∙ (ap (λ k. rank text k) e ∙ sym (rank_of_section text n))

-- a call of s among the first so many lifts what is asked of s
calls_self : (s : ℕ) → calls (Call s) s ≡ true
calls_self s = eq-eqb s s refl

asked_grows : (text : List Control) (n s : ℕ) → (ranks text n).asked s ≤ (ranks text (suc n)).asked s
asked_grows text n s =
    rw asked_step (cond_both (calls (at text n) s) _ _ (λ r. (ranks text n).asked s ≤ r) (λ _. omega arith) (λ _. omega arith))

pub asked_by_call : (text : List Control) (n s m : ℕ) → n < m → at text n ≡ Call s → rank text n + 1 ≤ (ranks text m).asked s
asked_by_call text n s zero lt e = absurd (omega arith)
asked_by_call text n s (suc m) lt e =
    ⊎_elim
    (λ (same : n ≡ m). rw (← same, asked_step text n s, e, calls_self s) (omega arith))
    (λ apart. omega (arith, asked_by_call text n s m (omega arith) e, asked_grows text m s))
    (cases_eq n m)

-- what is asked of s is 1, or was asked by some call
Asked : List Control → ℕ → ℕ → Type 0
Asked text s m = ((ranks text m).asked s ≡ 1) ⊎ ((n : ℕ) × (n < m) × (at text n ≡ Call s) × ((ranks text m).asked s ≡ rank text n + 1))

pub call_from : (c : Control) (s : ℕ) → calls c s ≡ true → c ≡ Call s
call_from (Call k) s h = ap Call (eqb-true k s h)
call_from _ s h = absurd (both_ways false refl h)

asked_start : (text : List Control) (s : ℕ) → (ranks text 0).asked s ≡ 1
unfolding ranks
asked_start text s = refl

asked_kept : (text : List Control) (s m : ℕ) → (ranks text (suc m)).asked s ≡ (ranks text m).asked s → Asked text s m → Asked text s (suc m)
unfolding Asked
asked_kept text s m e (inl one) = inl (e ∙ one)
asked_kept text s m e (inr (n, lt, c, r)) = inr (n, omega arith, c, e ∙ r)

asked_from : (text : List Control) (s m : ℕ) → Asked text s m
unfolding Asked
asked_from text s zero = inl (asked_start text s)
asked_from text s (suc m) =
    ⊎_elim
    (λ h.
    let now = asked_step text m s ∙ cond-true (calls (at text m) s) (max ((ranks text m).asked s) (1 + (ranks text m).here)) ((ranks text m).asked s) h in
    ⊎_elim
    (λ (more : (ranks text m).asked s < 1 + rank text m). inr (m, omega arith, call_from (at text m) s h, omega arith))
    (λ (less : 1 + rank text m ≤ (ranks text m).asked s). asked_kept text s m (omega arith) (asked_from text s m))
    (cases_lt ((ranks text m).asked s) (1 + rank text m)))
    (λ h.
    asked_kept text s m (asked_step text m s ∙ cond-false (calls (at text m) s) (max ((ranks text m).asked s) (1 + (ranks text m).here)) ((ranks text m).asked s) h)
    (asked_from text s m))
    (cases_Bool (calls (at text m) s))

ranked : (text : List Control) (s : ℕ) → 0 < s → starts text s ≡ true → Ranked text s
unfolding Asked
ranked text zero lt h = absurd (omega arith)
ranked text (suc s) lt h =
    let e = rank_begins text s h in
    record {
      above = λ n below c. omega (arith, e, asked_by_call text n (suc s) (suc s) below c);
      reached =
          ⊎_elim (λ one. inl (e ∙ one)) (λ found. inr (found.0, found.1, found.2, e ∙ found.3)) (asked_from text (suc s) (suc s));
    }

rank_first : (text : List Control) → rank text 0 ≡ 0
unfolding ranks
rank_first text = refl

pub words : (text : List Control) → Words text
words text = record { sections = section_is text; first_rank = rank_first text; same_rank = rank_of_section text; ranks_of = ranked text }
