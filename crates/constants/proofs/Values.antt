-- A constant that is not zero is the decimal number that its bytes write, rounded once; and it is clean.
use Rattle.std.proofs.Common.{◌≡◌, ℕ, zero, suc, ◌+◌, ◌-◌, ◌*◌, ◌/◌, ◌%◌, ◌^◌, ◌<◌, ◌≤◌, Bool, true, false, not, T, eqb, leb, pos, Some, Option, sym, refl, ap, ◌∙◌, subst, inl, inr, le_trans, le_of_eq, le_of_lt, mul-le-mul_right, mul_assoc, add-sub_of_le, mul-le-mul, mul-le-mul_left, mul-pos, one-mul, mul-one, sub-add_cancel, arith, lit<, lit≤, pow-add}
use native.Mathlib.Nat.{pow-le-pow_right}
use lib.Ieee.{Float, nan, inf, fin, binary64, of_int, round, mul, div, neg}
use lib.Ieee.Back.{round_whole}
use lib.Ieee.Exact.{HasValue}
use lib.Ieee.Order.{round_mono}
use lib.Ieee.Positive.{positive, positive-finite, positive_of_value, mul_at, between}
use lib.Ieee.Scale.{round_same}
use Rattle.std.specs.Bool.{then_some}
use Rattle.std.proofs.lemmas.Bool.{and_parts, not-true, leb-true, leb-false, eqb-false, cond-true, cond-false, cases_Bool}
use Rattle.constants.specs.declared.exponent.Exponent.{Exponent}
use Rattle.constants.specs.declared.exponent.Exponent.TheVariants.{Plus, Minus}
use Rattle.constants.specs.Digits.{digits, decimal, digits_lawful, whole_number}
use Rattle.constants.specs.Exponents.{exponent, exponent_lawful}
use Rattle.constants.specs.Powers.{power}
use Rattle.constants.specs.Constants.{lawful, scaled, negative, signed, nonzero}
use Rattle.constants.specs.Decimals.{numerator, denominator, Nearest, RoundedOnce}
use Rattle.constants.specs.Cleanness.{clean, GivesClean}
use Rattle.constants.proofs.Tens.{exact}
use Rattle.constants.proofs.Rounding.{neg_round, round_nearest, div_at}

ten_pos : (k : ℕ) → 0 < 10 ^ k
ten_pos k = pow-le-pow_right {n = 10} (lit< tt) {i = 0} {j = k} (omega arith)

-- every whole number of five digits is a binary64 number
whole_value : (m : ℕ) → m < 10 ^ 5 → HasValue (of_int binary64 (pos m)) false m 1
unfolding of_int
whole_value m h = round_whole binary64 false m (le_trans (le_of_lt h) (lit≤ tt))

-- ---- one fraction in two ways: as it is computed, and as the decimal number
divided : (m e : ℕ) → m * 1 * (10 ^ 5 * 10 ^ e) ≡ m * (10 ^ (5 + e) * 1)
divided m e = ap (λ (x : ℕ). x * (10 ^ 5 * 10 ^ e)) (mul-one m) ∙ ap (λ (x : ℕ). m * x) (sym (pow-add 10 5 e) ∙ sym (mul-one (10 ^ (5 + e))))

multiplied : (m e : ℕ) → 5 ≤ e → m * 10 ^ (e - 5) * 10 ^ 5 ≡ m * 10 ^ e * (1 * 1)
multiplied m e h =
    mul_assoc m (10 ^ (e - 5)) (10 ^ 5) ∙ ap (λ (x : ℕ). m * x) (sym (pow-add 10 (e - 5) 5) ∙ ap (λ (x : ℕ). 10 ^ x) (sub-add_cancel h)) ∙ sym (mul-one (m * 10 ^ e))

pointed : (m e : ℕ) → e < 5 → m * 1 * 10 ^ 5 ≡ m * 10 ^ e * (10 ^ (5 - e) * 1)
pointed m e h =
    ap (λ (x : ℕ). x * 10 ^ 5) (mul-one m)
    ∙ ap (λ (x : ℕ). m * x) (ap (λ (x : ℕ). 10 ^ x) (sym (add-sub_of_le (le_of_lt h))) ∙ pow-add 10 e (5 - e))
    ∙ sym (mul_assoc m (10 ^ e) (10 ^ (5 - e)))
    ∙ ap (λ (x : ℕ). m * 10 ^ e * x) (sym (mul-one (10 ^ (5 - e))))

denominator_pos : (e : Exponent) → 0 < denominator e
denominator_pos (Plus e) = lit< tt
denominator_pos (Minus e) = mul-pos (lit< tt) (ten_pos e)

-- ---- a sign on a size
signed_round : (s : Bool) (a c : ℕ) → signed s (round binary64 false a c) ≡ round binary64 s a c
signed_round true a c = neg_round binary64 a c
signed_round false a c = refl

positive_clean : (s : Bool) (x : Float) → T (positive x) → clean (signed s x) ≡ true
unfolding neg
positive_clean s nan p = absurd p
positive_clean s (inf t) p = absurd p
positive_clean s (fin true m e) p = absurd p
positive_clean s (fin false zero e) p = absurd p
positive_clean true (fin false (suc m) e) p = refl
positive_clean false (fin false (suc m) e) p = refl

-- ---- the size of a constant with the number m, which one multiplication or one division gives
module _ (m : ℕ) (some : 0 < m) (few : m < 10 ^ 5) where
  product : (k : ℕ) → k ≤ 22 → mul binary64 (of_int binary64 (pos m)) (power k) ≡ round binary64 false (m * 10 ^ k) (1 * 1)
  product k h =
      mul_at binary64 (of_int binary64 (pos m)) (power k) m 1 (10 ^ k) 1 (positive_of_value (of_int binary64 (pos m)) m 1 (whole_value m few) some)
      (positive_of_value (power k) (10 ^ k) 1 (exact k h) (ten_pos k)) (lit< tt) (lit< tt) (whole_value m few) (exact k h)

  quotient : (k : ℕ) → k ≤ 22 → div binary64 (of_int binary64 (pos m)) (power k) ≡ round binary64 false (m * 1) (10 ^ k * 1)
  quotient k h =
      div_at binary64 (of_int binary64 (pos m)) (power k) m 1 (10 ^ k) 1 (positive_of_value (of_int binary64 (pos m)) m 1 (whole_value m few) some)
      (positive_of_value (power k) (10 ^ k) 1 (exact k h) (ten_pos k)) (lit< tt) (lit< tt) (whole_value m few) (exact k h)

  -- the size is the decimal number, rounded once
  size_rounded : (e : Exponent) → exponent_lawful e ≡ true → scaled m e ≡ round binary64 false (numerator m e) (denominator e)
  size_rounded (Minus e) h =
      quotient (5 + e) (omega (arith, leb-true e 17 h))
      ∙ round_same binary64 false (m * 1) (10 ^ (5 + e) * 1) m (10 ^ 5 * 10 ^ e) (mul-pos (ten_pos (5 + e)) (lit< tt)) (mul-pos (lit< tt) (ten_pos e)) (divided m e)
  size_rounded (Plus e) h =
      let small = leb-true e 27 h in
      elim (cases_Bool (leb 5 e)) [
        | inl t ↦
            let high = leb-true 5 e t in
            cond-true (leb 5 e) _ _ t
            ∙ product (e - 5) (omega arith)
            ∙ round_same binary64 false (m * 10 ^ (e - 5)) (1 * 1) (m * 10 ^ e) (10 ^ 5) (lit< tt) (lit< tt) (multiplied m e high)
        | inr t ↦
            let low = leb-false 5 e t in
            cond-false (leb 5 e) _ _ t
            ∙ quotient (5 - e) (omega arith)
            ∙ round_same binary64 false (m * 1) (10 ^ (5 - e) * 1) (m * 10 ^ e) (10 ^ 5) (mul-pos (ten_pos (5 - e)) (lit< tt)) (lit< tt) (pointed m e low)
      ]

  -- it lies between ten to the power -22 and ten to the power 27
  least : (e : Exponent) → exponent_lawful e ≡ true → 1 * denominator e ≤ numerator m e * 10 ^ 22
  least (Plus e) h = omega (arith, mul-pos some (ten_pos e))
  least (Minus e) h =
      le_trans (le_of_eq (one-mul (10 ^ 5 * 10 ^ e)))
      (le_trans (mul-le-mul_left (10 ^ 5) (pow-le-pow_right (lit< tt) (leb-true e 17 h))) (le_trans (le_of_eq (one-mul (10 ^ 22))) (mul-le-mul_right (10 ^ 22) some)))

  most : (e : Exponent) → exponent_lawful e ≡ true → numerator m e * 1 ≤ 10 ^ 27 * denominator e
  most (Plus e) h = le_trans (le_of_eq (mul-one (m * 10 ^ e))) (le_trans (mul-le-mul (le_of_lt few) (pow-le-pow_right (lit< tt) (leb-true e 27 h))) (lit≤ tt))
  most (Minus e) h = omega (arith, ten_pos e)

  size_positive : (e : Exponent) → exponent_lawful e ≡ true → T (positive (round binary64 false (numerator m e) (denominator e)))
  unfolding round
  size_positive e h =
      between (round binary64 false 1 (10 ^ 22)) (round binary64 false (numerator m e) (denominator e)) (round binary64 false (10 ^ 27) 1) tt tt
      (round_mono binary64 1 (10 ^ 22) (numerator m e) (denominator e) (lit< tt) (denominator_pos e) (least e h))
      (round_mono binary64 (numerator m e) (denominator e) (10 ^ 27) 1 (denominator_pos e) (lit< tt) (most e h))

  signed_rounded : (s : Bool) (e : Exponent) → exponent_lawful e ≡ true → signed s (scaled m e) ≡ round binary64 s (numerator m e) (denominator e)
  signed_rounded s e h = ap (signed s) (size_rounded e h) ∙ signed_round s (numerator m e) (denominator e)

  signed_nearest : (s : Bool) (e : Exponent) → exponent_lawful e ≡ true
      → Nearest binary64 (round binary64 s (numerator m e) (denominator e)) (numerator m e) (denominator e)
  signed_nearest s e h = round_nearest binary64 s (numerator m e) (denominator e) (denominator_pos e) (positive-finite _ (size_positive e h))

  signed_clean : (s : Bool) (e : Exponent) → exponent_lawful e ≡ true → clean (signed s (scaled m e)) ≡ true
  signed_clean s e h = ap (λ (x : Float). clean (signed s x)) (size_rounded e h) ∙ positive_clean s _ (size_positive e h)

-- ---- the number of five decimal digits
number_some : (p2 p3 p4 : ℕ) → digits_lawful p2 p3 p4 ≡ true → (0 < whole_number p2 p3 p4) × (whole_number p2 p3 p4 < 10 ^ 5)
number_some p2 p3 p4 t =
    let first = and_parts (not (eqb (p4 / 16) 0)) (decimal (digits p2 p3 p4)) t in
    let d1 = and_parts (leb (p4 / 16) 9) _ first.1 in
    let d2 = and_parts (leb (p3 / 16) 9) _ d1.1 in
    let d3 = and_parts (leb (p3 % 16) 9) _ d2.1 in
    let d4 = and_parts (leb (p2 / 16) 9) _ d3.1 in
    let d5 = and_parts (leb (p2 % 16) 9) _ d4.1 in
    let some : p4 / 16 ≡ 0 → ⊥ = eqb-false (p4 / 16) 0 (not-true (eqb (p4 / 16) 0) first.0) in
    let h1 = leb-true (p4 / 16) 9 d1.0 in
    let h2 = leb-true (p3 / 16) 9 d2.0 in
    let h3 = leb-true (p3 % 16) 9 d3.0 in
    let h4 = leb-true (p2 / 16) 9 d4.0 in
    let h5 = leb-true (p2 % 16) 9 d5.0 in
    (omega arith, omega arith)

-- ---- the value
same_some : {x y : Float} → ◌≡◌ {A = Option Float} (Some x) (Some y) → x ≡ y
same_some e = cc

when_true : {b : Bool} (x : Float) → b ≡ true → then_some b x ≡ Some x
when_true x t = ap (λ (b : Bool). then_some b x) t

module _ (p1 p2 p3 p4 : ℕ) (t : lawful p1 p2 p3 p4 ≡ true) where
  parts : (digits_lawful p2 p3 p4 ≡ true) × (exponent_lawful (exponent p1 p4) ≡ true)
  parts = and_parts (digits_lawful p2 p3 p4) (exponent_lawful (exponent p1 p4)) t

  number : (0 < whole_number p2 p3 p4) × (whole_number p2 p3 p4 < 10 ^ 5)
  number = number_some p2 p3 p4 parts.0

  pub rounded_once : (r : Option Float) → r ≡ nonzero p1 p2 p3 p4 → RoundedOnce p1 p2 p3 p4 r
  rounded_once r e =
      let is = e ∙ when_true (signed (negative p1) (scaled (whole_number p2 p3 p4) (exponent p1 p4))) t ∙ ap Some (signed_rounded (whole_number p2 p3 p4) number.0 number.1 (negative p1) (exponent p1 p4) parts.1) in
      record {
        rounded = is;
        nearest = λ x given.
            subst (λ y. Nearest binary64 y (numerator (whole_number p2 p3 p4) (exponent p1 p4)) (denominator (exponent p1 p4))) (same_some (sym is ∙ given))
            (signed_nearest (whole_number p2 p3 p4) number.0 number.1 (negative p1) (exponent p1 p4) parts.1);
      }

  clean_here : clean (signed (negative p1) (scaled (whole_number p2 p3 p4) (exponent p1 p4))) ≡ true
  clean_here = signed_clean (whole_number p2 p3 p4) number.0 number.1 (negative p1) (exponent p1 p4) parts.1

clean_when : (b : Bool) (x : Float) → (b ≡ true → clean x ≡ true) → GivesClean (then_some b x)
clean_when true x h = h refl
clean_when false x h = tt

pub gives_clean : (p1 p2 p3 p4 : ℕ) (r : Option Float) → r ≡ nonzero p1 p2 p3 p4 → GivesClean r
gives_clean p1 p2 p3 p4 r e = subst GivesClean (sym e) (clean_when (lawful p1 p2 p3 p4) _ (clean_here p1 p2 p3 p4))
