-- The first instruction at which a test finds something, one instruction after another.
use Rattle.std.proofs.Common.{◌≡◌, ℕ, zero, suc, ◌+◌, ◌-◌, ◌<◌, Some, None, Option, sym, refl, ap, ◌∙◌, ⊎_elim, suc-add, zero-add, add-one, arith}
use Rattle.std.proofs.lemmas.Bool.{cases_eq}
use Rattle.control.specs.declared.code.LoadingCode.{LoadingCode}
use Rattle.control.specs.Rules.{or_else, first_found, Found}

module _ (test : ℕ → Option LoadingCode) where
  pub found_start : first_found test 0 ≡ None
  unfolding first_found
  found_start = refl

  pub found_none : (n : ℕ) → first_found test n ≡ None → test n ≡ None → first_found test (n + 1) ≡ None
  unfolding first_found
  found_none n before here = rw (add-one, before, here) refl

  found_stays : (found : LoadingCode × ℕ) (n k : ℕ) → first_found test n ≡ Some found → first_found test (k + n) ≡ Some found
  unfolding first_found
  found_stays found n zero h = rw zero-add h
  found_stays found n (suc k) h = rw (suc-add, found_stays found n k h) refl

  pub found_here : (n total : ℕ) (code : LoadingCode) → n < total → first_found test n ≡ None → test n ≡ Some code → first_found test total ≡ Some (code, n)
  unfolding first_found
  found_here n total code lt before here =
      let now : first_found test (suc n) ≡ Some (code, n) = rw (before, here) refl in
      let e : total - suc n + suc n ≡ total = omega arith in
      sym (ap (first_found test) e) ∙ found_stays (code, n) (suc n) (total - suc n) now

unfound : (o : Option (LoadingCode × ℕ)) (here : Option LoadingCode) (n : ℕ) → or_else o here n ≡ None → (o ≡ None) × (here ≡ None)
unfound (Some found) here n h = absurd (cc)
unfound None (Some code) n h = absurd (cc)
unfound None None n h = (refl, refl)

-- where nothing is found, no instruction has anything
pub found_nowhere : (test : ℕ → Option LoadingCode) (m : ℕ) → first_found test m ≡ None → (n : ℕ) → n < m → test n ≡ None
unfolding first_found
found_nowhere test zero h n lt = absurd (omega arith)
found_nowhere test (suc m) h n lt =
    let parts = unfound (first_found test m) (test m) m h in
    ⊎_elim (λ (same : n ≡ m). ap test same ∙ parts.1) (λ apart. found_nowhere test m parts.0 n (omega arith)) (cases_eq n m)

-- the first one found is what the words say
module _ (test : ℕ → Option LoadingCode) where
  found_more : (m : ℕ) (o : Option (LoadingCode × ℕ)) (here : Option LoadingCode) → test m ≡ here → Found test m o → Found test (suc m) (or_else o here m)
  found_more m (Some found) here e f = record { inside = omega (arith, f.inside); here = f.here; before = f.before }
  found_more m None (Some code) e f = record { inside = omega arith; here = e; before = f }
  found_more m None None e f = λ k lt. ⊎_elim (λ (same : k ≡ m). ap test same ∙ e) (λ apart. f k (omega arith)) (cases_eq k m)

  pub found_is : (m : ℕ) → Found test m (first_found test m)
  unfolding first_found
  found_is zero = λ k lt. absurd (omega arith)
  found_is (suc m) = found_more m (first_found test m) (test m) refl (found_is m)
