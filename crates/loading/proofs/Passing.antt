-- From instructions that keep their own rules to the verdict on the image.
use Rattle.std.proofs.Common.{MatchResult, IsErrAnd, ◌≡◌, ℕ, zero, suc, ◌+◌, ◌%◌, ◌<◌, ◌≤◌, Bool, true, false, cond, not, ◌&&◌, eqb, ltb, leb, List, map, length, get_or, Some, None, Ok, Err, Option, Result, sym, refl, ap, ◌∙◌, subst, inl, inr, arith}
use Rattle.std.specs.List.{range_with_len}
use Rattle.std.proofs.lemmas.Result.{err_from_is_err_and}
use Rattle.std.proofs.lemmas.List.FromFn.{length-map-range_with_len, fill_by_all}
use Rattle.std.proofs.lemmas.Bool.{and_parts, and_from, leb-true, le-leb, ltb-true, lt-ltb, eqb-true, not-false, cond_both, both_ways}
use Rattle.records.specs.declared.layout.Layout.{Layout}
use Rattle.control.specs.declared.code.LoadingCode.{LoadingCode}
use Rattle.control.specs.declared.control.Control.{Control}
use Rattle.control.specs.declared.control.Control.TheVariants.{Plain}
use Rattle.control.specs.Rules as rules
use Rattle.control.specs.Rules.{broken, FirstAt, Nowhere, Found, first_of, first_found, first_broken}
use Rattle.control.specs.Weights.{bound}
use Rattle.control.specs.Machine.{Outcome, Goes, Ends, Faults, start, run}
use Rattle.control.specs.Promises.{Sound}
use Rattle.control.proofs.Keeping.{pass_all}
use Rattle.control.proofs.Finding.{found_nowhere, found_is}
use Rattle.control.proofs.Sections.{words}
use Rattle.control.proofs.Wording.{weights_follow}
use Rattle.rules.specs.declared.error.TextError.{TextError}
use Rattle.rules.specs.declared.error.TextError.TheVariants.{Malformed, Breaks}
use Rattle.rules.specs.Judgments as judging
use Rattle.rules.specs.Judgments.{all_below, formed, told, judgment, Trusted}
use Rattle.opcodes.specs.Families.{between, known, takes_address}
use Rattle.loading.specs.declared.error.LoadError.TheVariants.{BadLength}
use Rattle.loading.specs.declared.error.LoadError.{LoadError}
use Rattle.loading.specs.declared.error.LoadError as errors
use Rattle.loading.specs.Images.{lawful_length, count, opcode_at, operand_bytes}
use Rattle.loading.specs.Instructions.{address, fits, control_of, checks_alone, answered, alone}
use Rattle.loading.specs.Verdicts.{Verdict, FailsAlone, broken_alone, kind_at, text, second, first, verdict, from_judgment}
use Rattle.loading.specs.Meaning.{Says}
use Rattle.loading.specs.Trust.{StandsWell, TrustedImage}

-- a lawful length
pub record Sized (image : List ℕ) : Type 0 where
  pub some : 0 < count image
  pub few : count image ≤ 1024

pub sized : (image : List ℕ) → lawful_length image ≡ true → Sized image
sized image h =
    let a = and_parts (leb 1 (length image) && leb (length image) 5120) (eqb (length image % 5) 0) h in
    let b = and_parts (leb 1 (length image)) (leb (length image) 5120) a.0 in
    let lo = leb-true 1 (length image) b.0 in
    let hi = leb-true (length image) 5120 b.1 in
    let whole = eqb-true (length image % 5) 0 a.1 in
    record { some = omega arith; few = omega arith }

-- what the answer on an instruction says of it
answered_ok : (o : Option LoadingCode) (c k : Control) → Ok k ≡ answered o c → (o ≡ None) × (k ≡ c)
answered_ok (Some code) c k h = absurd cc
answered_ok None c k h = (refl, cc)

answered_err : (o : Option LoadingCode) (c : Control) (e : LoadingCode) → Err e ≡ answered o c → o ≡ Some e
answered_err (Some code) c e h = cc
answered_err None c e h = absurd cc

module _ (layouts : List Layout) (image : List ℕ) (n x : ℕ) (bytes : List ℕ) (ex : x ≡ opcode_at image n) (eb : bytes ≡ operand_bytes image n) where
  at_image : alone layouts (count image) x bytes ≡ alone layouts (count image) (opcode_at image n) (operand_bytes image n)
  at_image = ap (λ y. alone layouts (count image) y bytes) ex ∙ ap (λ b. alone layouts (count image) (opcode_at image n) b) eb

  pub alone_ok : (k : Control) → Ok k ≡ alone layouts (count image) x bytes → (broken_alone layouts image n ≡ None) × (k ≡ kind_at image n)
  alone_ok k h = answered_ok (broken_alone layouts image n) (kind_at image n) k (h ∙ at_image)

  pub alone_err : (e : LoadingCode) → Err e ≡ alone layouts (count image) x bytes → broken_alone layouts image n ≡ Some e
  alone_err e h = answered_err (broken_alone layouts image n) (kind_at image n) e (h ∙ at_image)

-- the noted kinds are the image's control text
pub kinds_are : (image : List ℕ) (kinds : List Control) → length kinds ≡ count image
    → ((k : ℕ) → k < count image → get_or kinds k Plain ≡ kind_at image k) → kinds ≡ text image
kinds_are image kinds e h = fill_by_all (kind_at image) kinds (count image) Plain e h

text_length : (image : List ℕ) → length (text image) ≡ count image
text_length image = length-map-range_with_len (kind_at image) 0 (count image)

-- what an instruction that keeps its own rules is known for
pub record KeepsOwn (layouts : List Layout) (image : List ℕ) (n : ℕ) : Type 0 where
  pub is_known : known (opcode_at image n) ≡ true
  pub has_operand : fits layouts (opcode_at image n) (operand_bytes image n) ≡ true
  pub address_inside : takes_address (opcode_at image n) ≡ true → address (operand_bytes image n) < count image

and_not : (a b : Bool) → (a && not b) ≡ false → a ≡ true → b ≡ true
and_not true true h t = refl
and_not true false h t = sym h
and_not false b h t = absurd (both_ways false refl t)

pub keeps_own : (layouts : List Layout) (image : List ℕ) (n : ℕ) → broken_alone layouts image n ≡ None → KeepsOwn layouts image n
keeps_own layouts image n h =
    let x = opcode_at image n in
    let bytes = operand_bytes image n in
    let all = pass_all (checks_alone layouts (count image) x bytes) h in
    record {
      is_known = not-false (known x) all.0;
      has_operand = not-false (fits layouts x bytes) all.1.0;
      address_inside = λ t. ltb-true (address bytes) (count image) (and_not (takes_address x) (ltb (address bytes) (count image)) all.1.1.0 t);
    }

-- the address of an instruction's kind is inside
takes_by : (lo hi x : ℕ) → 0x33 ≤ lo → hi ≤ 0x3A → between lo hi x ≡ true → takes_address x ≡ true
takes_by lo hi x a b h =
    let p = and_parts (leb lo x) (leb x hi) h in
    let l = leb-true lo x p.0 in
    let u = leb-true x hi p.1 in
    and_from (leb 0x33 x) (leb x 0x3A) (le-leb 0x33 x (omega arith)) (le-leb x 0x3A (omega arith))

takes_at : (k x : ℕ) → 0x33 ≤ k → k ≤ 0x3A → eqb x k ≡ true → takes_address x ≡ true
takes_at k x a b h =
    let e = eqb-true x k h in
    and_from (leb 0x33 x) (leb x 0x3A) (le-leb 0x33 x (omega arith)) (le-leb x 0x3A (omega arith))

kind_inside : (x t limit : ℕ) → 0 < limit → (takes_address x ≡ true → t < limit) → rules.address (control_of x t) < limit
kind_inside x t limit some h =
    let P : Control → Type 0 = λ c. rules.address c < limit in
    cond_both (between 0x0B 0x0C x) _ _ P (λ _. some)
    (λ _. cond_both (between 0x0D 0x12 x) _ _ P (λ _. some)
    (λ _. cond_both (between 0x33 0x38 x) _ _ P (λ b. h (takes_by 0x33 0x38 x (omega arith) (omega arith) b))
    (λ _. cond_both (eqb x 0x39) _ _ P (λ b. h (takes_at 0x39 x (omega arith) (omega arith) b))
    (λ _. cond_both (eqb x 0x3A) _ _ P (λ b. h (takes_at 0x3A x (omega arith) (omega arith) b))
    (λ _. cond_both (eqb x 0x3B) _ _ P (λ _. some)
    (λ _. cond_both (eqb x 0xFF) _ _ P (λ _. some) (λ _. some)))))))

below_all : (limit : ℕ) (f : ℕ → Control) (a n : ℕ) → ((i : ℕ) → a ≤ i → i < a + n → rules.address (f i) < limit) → all_below limit (map f (range_with_len a n)) ≡ true
below_all limit f a zero h = refl
below_all limit f a (suc n) h =
    and_from (ltb (rules.address (f a)) limit) (all_below limit (map f (range_with_len (a + 1) n))) (lt-ltb (rules.address (f a)) limit (h a (omega arith) (omega arith)))
    (below_all limit f (a + 1) n (λ i lo hi. h i (omega arith) (omega arith)))

module _ (layouts : List Layout) (image : List ℕ) (s : Sized image) (own : first_found (broken_alone layouts image) (count image) ≡ None) where
  each : (n : ℕ) → n < count image → KeepsOwn layouts image n
  each n lt = keeps_own layouts image n (found_nowhere (broken_alone layouts image) (count image) own n lt)

  text_formed : formed (text image) ≡ true
  text_formed =
      let e = text_length image in
      and_from (ltb 0 (length (text image)) && leb (length (text image)) 1024) (all_below (length (text image)) (text image))
      (and_from (ltb 0 (length (text image))) (leb (length (text image)) 1024) (lt-ltb 0 (length (text image)) (omega (arith, s.some))) (le-leb (length (text image)) 1024 (omega (arith, s.few))))
      (subst (λ n. all_below n (text image) ≡ true) (sym e)
      (below_all (count image) (kind_at image) 0 (count image)
      (λ i lo hi. kind_inside (opcode_at image i) (address (operand_bytes image i)) (count image) s.some (each i (omega arith)).address_inside)))

  from_told : (o : Option (LoadingCode × ℕ)) (limit : Option ℕ) → from_judgment (told o limit) ≡ second o limit
  from_told (Some found) limit = refl
  from_told None limit = refl

  verdict_is : lawful_length image ≡ true → from_judgment (judgment (text image)) ≡ verdict layouts image
  unfolding verdict
  verdict_is lawful =
      let t = text image in
      ap (λ b. from_judgment (cond b (told (first_broken t (length t)) (bound t)) (Err Malformed))) text_formed
      ∙ (from_told (first_broken t (length t)) (bound t)
      ∙ (ap (λ n. second (first_broken t n) (bound t)) (text_length image)
      ∙ (sym (ap (λ o. first o (second (first_broken t (count image)) (bound t))) own)
      ∙ sym (ap (λ b. cond b (first (first_found (broken_alone layouts image) (count image)) (second (first_broken t (count image)) (bound t))) (Err BadLength)) lawful))))

  none_alone : Nowhere (broken_alone layouts image) (count image)
  none_alone = found_nowhere (broken_alone layouts image) (count image) own

  says_image : lawful_length image ≡ true → (j : Result (Option ℕ) TextError) → judging.Says (text image) j → Says layouts image (from_judgment j)
  says_image lawful (Err Malformed) says = absurd (both_ways _ says text_formed)
  says_image lawful (Err (Breaks code n)) says = record {
    lawful = lawful;
    first = inr (none_alone, subst (λ total. FirstAt (broken (text image)) total code n) (text_length image) says.0);
    words = says.1;
    weights = says.2;
    numbered = refl;
  }
  says_image lawful (Ok limit) says = record {
    lawful = lawful;
    alone = none_alone;
    together = λ n lt. says.0 n (omega (arith, text_length image));
    bounded = says.1;
    words = says.2;
    weights = says.3;
    numbered = refl;
  }

  stands_well : (o : Outcome) → Sound (text image) o → StandsWell layouts image o
  stands_well (Goes st) h =
      let inside : st.pc < count image = omega (arith, text_length image) in
      let k = each st.pc inside in
      (inside, k.is_known, k.has_operand)
  stands_well Ends h = tt
  stands_well (Faults e) h = h

  trusted_image : (j : Result (Option ℕ) TextError) → Trusted (text image) j → TrustedImage layouts image (from_judgment j)
  trusted_image (Err Malformed) h = tt
  trusted_image (Err (Breaks code n)) h = tt
  trusted_image (Ok limit) h = ((λ cs. stands_well (run (text image) (Goes start) cs) (h.0 cs)), h.1)

-- the verdict on an image that breaks a rule of one instruction alone
refused_alone : (layouts : List Layout) (image : List ℕ) (code : LoadingCode) (n : ℕ) → lawful_length image ≡ true
    → first_found (broken_alone layouts image) (count image) ≡ Some (code, n) → Err (errors.TheVariants.Breaks code n) ≡ verdict layouts image
unfolding verdict
refused_alone layouts image code n lawful h =
    sym (ap (λ b. cond b (first (first_found (broken_alone layouts image) (count image)) (second (first_broken (text image) (count image)) (bound (text image)))) (Err BadLength)) lawful
    ∙ ap (λ o. first o (second (first_broken (text image) (count image)) (bound (text image)))) h)

says_alone : (layouts : List Layout) (image : List ℕ) (code : LoadingCode) (n : ℕ) → lawful_length image ≡ true
    → first_found (broken_alone layouts image) (count image) ≡ Some (code, n) → Says layouts image (Err (errors.TheVariants.Breaks code n))
says_alone layouts image code n lawful h = record {
  lawful = lawful;
  first = inl (subst (Found (broken_alone layouts image) (count image)) h (found_is (broken_alone layouts image) (count image)));
  words = words (text image);
  weights = weights_follow (text image);
  numbered = refl;
}

-- what is due of a verdict
pub record Told (layouts : List Layout) (image : List ℕ) (v : Verdict) : Type 0 where
  pub value : v ≡ verdict layouts image
  pub says : Says layouts image v
  pub trusted : TrustedImage layouts image v

pub refused_as : (layouts : List Layout) (image : List ℕ) (e : LoadError) → lawful_length image ≡ true → FailsAlone layouts image e
    → Told layouts image (Err e)
refused_as layouts image BadLength lawful h = absurd h
refused_as layouts image (errors.TheVariants.Breaks code n) lawful h = record {
  value = refused_alone layouts image code n lawful h;
  says = says_alone layouts image code n lawful h;
  trusted = tt;
}

-- and where none does, by what the control text is told
pub judged_as : (layouts : List Layout) (image : List ℕ) (kinds : List Control) (j : Result (Option ℕ) TextError) → lawful_length image ≡ true
    → first_found (broken_alone layouts image) (count image) ≡ None → kinds ≡ text image
    → j ≡ judgment kinds → judging.Says kinds j → Trusted kinds j → Told layouts image (from_judgment j)
judged_as layouts image kinds j lawful own e value says trusted =
    let s = sized image lawful in
    record {
      value = ap from_judgment (value ∙ ap judgment e) ∙ verdict_is layouts image s own lawful;
      says = says_image layouts image s own lawful j (subst (λ t. judging.Says t j) e says);
      trusted = trusted_image layouts image s own j (subst (λ t. Trusted t j) e trusted);
    }

-- where `map_err` gives an error, what it was made of
pub mapped_err : {X E F : Type 0} (r : Result X E) (s : Result X F) (f : F) (Q : E → F → Type 0)
    → MatchResult r (λ x. s ≡ Ok x) (λ e. IsErrAnd s (Q e)) → s ≡ Err f → (e : E) × (r ≡ Err e) × Q e f
mapped_err (Ok x) s f Q h e = absurd cc
mapped_err (Err d) s f Q h e = let p = err_from_is_err_and s h in (d, refl, subst (Q d) (let same : p.0 ≡ f = cc in same) p.2)
