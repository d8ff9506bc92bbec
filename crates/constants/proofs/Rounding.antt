-- Rounding a fraction: no number of the format is nearer, a sign goes through it, and a quotient of two numbers is one rounding of the exact quotient.
use Rattle.std.proofs.Common.{◌≡◌, ℕ, zero, suc, ◌+◌, ◌-◌, ◌*◌, ◌/◌, ◌%◌, ◌^◌, ◌<◌, ◌≤◌, Bool, true, false, cond, ◌&&◌, T, eqb, ltb, leb, ◌⊎◌, ℤ, pos, negsuc, sym, refl, ap, ◌∙◌, subst, inl, inr, le_trans, le_of_eq, le_of_lt, mul-le-mul_right, mod-lt, mul_assoc, suc-mul, mul_comm, add-mul, mul-pos, div-add-mod', zero-mul, mul-one, sub-add_cancel, mul_right_comm, not-le_of_lt, div-mul-le_self, le_of_mul-le-mul_right, mul_left_comm, arith, ltb→lt, leb→le, pow_pos, pow_mono, pow-add}
use Prim.Native.Nat.{compare, Ordering}
use native.Mathlib.Nat.{mul-sub, mul-mul-mul_comm}
use native.Mathlib.Omega.{compare-lt, compare-eq, compare-gt}
use lib.Dec.{eqb-suc-zero}
use lib.Pow.{pow-lt}
use lib.Ieee.{Float, nan, inf, fin, Format, prec, emax, low, up, down, nearest, odd, units, round, neg, div, fits}
use lib.Ieee.Digits.{size_reaches}
use lib.Ieee.Exact.{HasValue}
use lib.Ieee.Fits.{two, two-le_pos, round_is, and_l, and_r}
use lib.Ieee.Nearest.{closest}
use lib.Ieee.Order.{drop, kept}
use lib.Ieee.Positive.{num, den, den_pos, positive, value→cross, own_value, value_pos}
use lib.Ieee.Scale.{finite, grid, round_val, round_under, round_same}
use Rattle.std.proofs.lemmas.Bool.{cases_lt, cond-false}
use Rattle.constants.specs.Decimals.{gap, distance, Nearest}

-- ---- a sign goes through
neg_odd : (d q k l : ℕ) → neg (odd d false q k l) ≡ odd d true q k l
unfolding neg odd
neg_odd d zero k l = refl
neg_odd d (suc q) k l = refl

neg_units : (f : Format) (q k : ℕ) → neg (units f false q k) ≡ units f true q k
unfolding neg units
neg_units f q k = either (ltb (q * 2 ^ k) (2 ^ (low f + suc (emax f))))
  where
    either : (b : Bool) → neg (cond b (odd (suc (prec f)) false q k (low f)) (inf false)) ≡ cond b (odd (suc (prec f)) true q k (low f)) (inf true)
    either true = neg_odd (suc (prec f)) q k (low f)
    either false = refl

pub neg_round : (f : Format) (a c : ℕ) → neg (round f false a c) ≡ round f true a c
neg_round f a c = ap neg (round_is f false a c) ∙ neg_units f _ _ ∙ sym (round_is f true a c)

-- ---- of the whole numbers z, the closest to n / u is the nearest
lower_near : (w u r z n : ℕ) → n ≡ w * u + r → r * 2 ≤ u → gap (w * u) n ≤ gap (z * u) n
lower_near w u r z n e h =
    elim (cases_lt w z) [
      | inl l ↦ omega (arith, mul-le-mul_right u l, suc-mul w u)
      | inr g ↦ omega (arith, mul-le-mul_right u g)
    ]

upper_near : (w u r z n : ℕ) → n ≡ w * u + r → r < u → u ≤ r * 2 → gap (suc w * u) n ≤ gap (z * u) n
upper_near w u r z n e b h =
    elim (cases_lt w z) [
      | inl l ↦ omega (arith, mul-le-mul_right u l, suc-mul w u)
      | inr g ↦ omega (arith, mul-le-mul_right u g, suc-mul w u)
    ]

parity : (w : ℕ) → (w + w % 2 ≡ w) ⊎ (w + w % 2 ≡ suc w)
parity w = elim (cases_lt (w % 2) 1) [ inl l ↦ inl (omega arith) | inr g ↦ inr (omega arith) ]

nearest_near : (w u r z n : ℕ) (o : Ordering) → compare (r * 2) u ≡ o → n ≡ w * u + r → r < u → gap (nearest w o * u) n ≤ gap (z * u) n
nearest_near w u r z n Ordering.lt q e b = lower_near w u r z n e (le_of_lt (compare-lt (r * 2) u q))
nearest_near w u r z n Ordering.gt q e b = upper_near w u r z n e b (le_of_lt (compare-gt (r * 2) u q))
nearest_near w u r z n Ordering.eq q e b =
    elim (parity w) [
      | inl p ↦ subst (λ (v : ℕ). gap (v * u) n ≤ gap (z * u) n) (sym p) (lower_near w u r z n e (le_of_eq (compare-eq (r * 2) u q)))
      | inr p ↦ subst (λ (v : ℕ). gap (v * u) n ≤ gap (z * u) n) (sym p) (upper_near w u r z n e b (le_of_eq (sym (compare-eq (r * 2) u q))))
    ]

closest_near : (n u z : ℕ) → 0 < u → gap (closest n u * u) n ≤ gap (z * u) n
closest_near n u z U = nearest_near (n / u) u (n % u) z n (compare (n % u * 2) u) refl (sym (div-add-mod' n u)) (mod-lt n U)

-- ---- of the numbers q * 2 ^ j that the format has digits for, in units of its smallest
module _ (p n c : ℕ) (P : 0 < p) (C : 0 < c) where
  kept_near : (z : ℕ) → gap (kept p n c * 2 ^ drop p n c * c) n ≤ gap (z * (c * 2 ^ drop p n c)) n
  kept_near z =
      let k = drop p n c in
      let moved : kept p n c * (c * 2 ^ k) ≡ kept p n c * 2 ^ k * c = ap (λ (v : ℕ). kept p n c * v) (mul_comm c (2 ^ k)) ∙ sym (mul_assoc (kept p n c) (2 ^ k) c) in
      subst (λ (v : ℕ). gap v n ≤ gap (z * (c * 2 ^ k)) n) moved (closest_near n (c * 2 ^ k) z (mul-pos C (pow_pos k)))

  -- one with as many zeros at its end is a multiple of the unit
  coarse : (q j : ℕ) → drop p n c ≤ j → q * 2 ^ j * c ≡ q * 2 ^ (j - drop p n c) * (c * 2 ^ drop p n c)
  coarse q j h =
      let k = drop p n c in
      let apart : 2 ^ j ≡ 2 ^ (j - k) * 2 ^ k = ap (λ (x : ℕ). 2 ^ x) (omega arith) ∙ pow-add 2 (j - k) k in
      ap (λ (x : ℕ). q * x * c) apart ∙ simp (mul_assoc, mul_comm, mul_left_comm)

  -- one with fewer is below a multiple of the unit that is at most n / c
  fine : (q j : ℕ) → q < 2 ^ p → j < drop p n c → (q * 2 ^ j * c ≤ 2 ^ (p - 1) * (c * 2 ^ drop p n c)) × (2 ^ (p - 1) * (c * 2 ^ drop p n c) ≤ n)
  fine q j small h =
      let k = drop p n c in
      let same : 2 ^ (p - 1) * (c * 2 ^ k) ≡ 2 ^ (p - 1 + k) * c =
      mul_left_comm (2 ^ (p - 1)) c (2 ^ k) ∙ ap (λ (x : ℕ). c * x) (sym (pow-add 2 (p - 1) k)) ∙ mul_comm c (2 ^ (p - 1 + k)) in
      let under : q * 2 ^ j ≤ 2 ^ (p - 1 + k) =
      le_trans (mul-le-mul_right (2 ^ j) (le_of_lt small)) (le_trans (le_of_eq (sym (pow-add 2 p j))) (pow_mono (omega arith))) in
      let reach : 2 ^ (p - 1 + k) ≤ n / c = size_reaches (n / c) (p - 1 + k) (omega arith) in
      (le_trans (mul-le-mul_right c under) (le_of_eq (sym same)), le_trans (le_of_eq same) (le_trans (mul-le-mul_right c reach) (div-mul-le_self n c)))

  grid_near : (q j : ℕ) → q < 2 ^ p → gap (kept p n c * 2 ^ drop p n c * c) n ≤ gap (q * 2 ^ j * c) n
  grid_near q j small =
      elim (cases_lt j (drop p n c)) [
        | inl l ↦ omega (arith, kept_near (2 ^ (p - 1)), (fine q j small l).0, (fine q j small l).1)
        | inr g ↦ le_trans (kept_near (q * 2 ^ (j - drop p n c))) (le_of_eq (ap (λ (x : ℕ). gap x n) (sym (coarse q j g))))
      ]

-- ---- any finite number of the format is such a q * 2 ^ j
abbrev Units : Format → Float → Type 0
Units f y = (q : ℕ) × (j : ℕ) × (q < 2 ^ prec f) × (num y * 2 ^ low f ≡ q * 2 ^ j * den y)

-- what it takes to fit: few enough digits, and an exponent that is not too low
fits_parts : (f : Format) (s : Bool) (m : ℕ) (e : ℤ) → T (fits f (fin s (suc m) e)) → (suc m < 2 ^ prec f) × (down e ≤ 2 ^ low f)
unfolding fits
fits_parts f s m e t =
    let odd_digits : Bool = eqb (suc m % 2) 1 in
    let few : Bool = ltb (suc m) (2 ^ prec f) in
    let deep : Bool = leb (down e) (2 ^ low f) in
    let rest = and_l (odd_digits && few && deep) (ltb (suc m * up e) (2 ^ suc (emax f) * down e)) t in
    (ltb→lt (suc m) (2 ^ prec f) (and_r odd_digits few (and_l (odd_digits && few) deep rest)), leb→le (down e) (2 ^ low f) (and_r (odd_digits && few) deep rest))

exponent_le : (i l : ℕ) → 2 ^ i ≤ 2 ^ l → i ≤ l
exponent_le i l h = elim (cases_lt l i) [ inl g ↦ absurd (not-le_of_lt (pow-lt g) h) | inr g ↦ g ]

in_units : (f : Format) (y : Float) → T (fits f y) → T (finite y) → Units f y
in_units f nan t u = absurd u
in_units f (inf s) t u = absurd u
in_units f (fin s zero e) t u =
    (0, 0, pow_pos (prec f), ap (λ (x : ℕ). x * 2 ^ low f) (zero-mul (up e)) ∙ zero-mul (2 ^ low f) ∙ sym (zero-mul (down e)))
in_units f (fin s (suc m) (pos k)) t u = (
  suc m,
  k + low f,
  (fits_parts f s m (pos k) t).0,
  mul_assoc (suc m) (2 ^ k) (2 ^ low f) ∙ ap (λ (x : ℕ). suc m * x) (sym (pow-add 2 k (low f))) ∙ sym (mul-one (suc m * 2 ^ (k + low f))),
)
in_units f (fin s (suc m) (negsuc k)) t u =
    let deep : suc k ≤ low f = exponent_le (suc k) (low f) (fits_parts f s m (negsuc k) t).1 in
    let split : 2 ^ low f ≡ 2 ^ (low f - suc k) * 2 ^ suc k = ap (λ (x : ℕ). 2 ^ x) (sym (sub-add_cancel deep)) ∙ pow-add 2 (low f - suc k) (suc k) in (
      suc m,
      low f - suc k,
      (fits_parts f s m (negsuc k) t).0,
      ap (λ (x : ℕ). x * 2 ^ low f) (mul-one (suc m)) ∙ ap (λ (x : ℕ). suc m * x) split ∙ sym (mul_assoc (suc m) (2 ^ (low f - suc k)) (2 ^ suc k)),
    )

-- ---- from units to fractions
gap_times : (a b t : ℕ) → gap a b * t ≡ gap (a * t) (b * t)
gap_times a b t =
    add-mul (a - b) (b - a) t ∙ ap (λ (x : ℕ). x + (b - a) * t) (sub_times a b) ∙ ap (λ (x : ℕ). (a * t - b * t) + x) (sub_times b a)
  where
    sub_times : (x y : ℕ) → (x - y) * t ≡ x * t - y * t
    sub_times x y = mul_comm (x - y) t ∙ mul-sub t x y ∙ ap (λ (z : ℕ). z - t * y) (mul_comm t x) ∙ ap (λ (z : ℕ). x * t - z) (mul_comm t y)

-- x is w / l in size, so its distance from a / c, times l, is that of w * c from a * l, times x's denominator
distance_in_units : (x : Float) (w l a c : ℕ) → num x * l ≡ w * den x → distance x a c * l ≡ gap (w * c) (a * l) * den x
distance_in_units x w l a c e =
    gap_times (num x * c) (a * den x) l
    ∙ ap (λ (z : ℕ). gap z (a * den x * l)) (mul_right_comm (num x) c l ∙ ap (λ (z : ℕ). z * c) e ∙ mul_right_comm w (den x) c)
    ∙ ap (λ (z : ℕ). gap (w * c * den x) z) (mul_right_comm a (den x) l)
    ∙ sym (gap_times (w * c) (a * l) (den x))

nearest_size : (f : Format) (a c : ℕ) → 0 < c → T (finite (round f false a c)) → Nearest f (round f false a c) a c
nearest_size f a c C t y fit u =
    let l = 2 ^ low f in
    let x = round f false a c in
    let mine : distance x a c * l ≡ gap (grid f a c * c) (a * l) * den x =
    distance_in_units x (grid f a c) l a c (value→cross x (grid f a c) l (round_val f a c (round_under f a c t))) in
    let d = in_units f y fit u in
    let its : distance y a c * l ≡ gap (d.0 * 2 ^ d.1 * c) (a * l) * den y = distance_in_units y (d.0 * 2 ^ d.1) l a c d.3 in
    let near = grid_near (prec f) (a * l) c (two-le_pos (prec f) (two f)) C d.0 d.1 d.2 in
    le_of_mul-le-mul_right
    (le_trans (le_of_eq (mul_right_comm (distance x a c) (den y) l ∙ ap (λ (z : ℕ). z * den y) mine))
    (le_trans (mul-le-mul_right (den y) (mul-le-mul_right (den x) near))
    (le_of_eq (mul_right_comm (gap (d.0 * 2 ^ d.1 * c) (a * l)) (den x) (den y) ∙ ap (λ (z : ℕ). z * den x) (sym its) ∙ mul_right_comm (distance y a c) l (den x)))))
    (pow_pos (low f))

-- the size of a number stays under its sign
nearest_neg : (f : Format) (x : Float) (a c : ℕ) → Nearest f x a c → Nearest f (neg x) a c
unfolding neg
nearest_neg f nan a c n = n
nearest_neg f (inf s) a c n = n
nearest_neg f (fin s m e) a c n = n

pub round_nearest : (f : Format) (s : Bool) (a c : ℕ) → 0 < c → T (finite (round f false a c)) → Nearest f (round f s a c) a c
round_nearest f false a c C t = nearest_size f a c C t
round_nearest f true a c C t = subst (λ (x : Float). Nearest f x a c) (neg_round f a c) (nearest_neg f (round f false a c) a c (nearest_size f a c C t))

-- ---- a quotient
div_is : (f : Format) (x y : Float) → T (positive x) → T (positive y) → div f x y ≡ round f false (num x * den y) (num y * den x)
unfolding div
div_is f nan y p q = absurd p
div_is f (inf s) y p q = absurd p
div_is f (fin true m e) y p q = absurd p
div_is f (fin false m e) nan p q = absurd q
div_is f (fin false m e) (inf t) p q = absurd q
div_is f (fin false m e) (fin true n d) p q = absurd q
div_is f (fin false m e) (fin false zero d) p q = absurd q
div_is f (fin false m e) (fin false (suc n) d) p q = cond-false (eqb (suc n) 0) _ _ (eqb-suc-zero n)

-- by any fractions a / c and b / d that the two equal
pub div_at : (f : Format) (x y : Float) (a c b d : ℕ) → T (positive x) → T (positive y) → 0 < c → 0 < d → HasValue x false a c → HasValue y false b d
    → div f x y ≡ round f false (a * d) (b * c)
div_at f x y a c b d p q C D h k =
    let mine : num x * c ≡ a * den x = value→cross x a c h in
    let its : num y * d ≡ b * den y = value→cross y b d k in
    div_is f x y p q
    ∙ round_same f false (num x * den y) (num y * den x) (a * d) (b * c) (mul-pos (value_pos y (num y) (den y) q (den_pos y) (own_value y q)) (den_pos x))
    (mul-pos (value_pos y b d q D k) C)
    (ap (λ (z : ℕ). num x * den y * z) (mul_comm b c)
    ∙ mul-mul-mul_comm (num x) (den y) c b
    ∙ ap (λ (z : ℕ). z * (den y * b)) mine
    ∙ ap (λ (z : ℕ). a * den x * z) (mul_comm (den y) b ∙ sym its)
    ∙ ap (λ (z : ℕ). a * den x * z) (mul_comm (num y) d)
    ∙ mul-mul-mul_comm a (den x) d (num y)
    ∙ ap (λ (z : ℕ). a * d * z) (mul_comm (den x) (num y)))
