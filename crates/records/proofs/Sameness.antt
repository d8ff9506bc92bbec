-- When two lawful meanings are the same: from what their sources answer.
use Rattle.std.proofs.Common.{ℕ, ◌<◌, ◌≤◌, ◌↔◌, IsTrue, Bool, true, false, length, MatchBool, refl, sym, ap, ◌∙◌, subst, ⊎_elim, zero-add, arith}
use Rattle.std.specs.List.{range_with_len, AllWithin, HoldsAt}
use Rattle.std.proofs.lemmas.List.{nil_from_length}
use Rattle.std.proofs.lemmas.List.FromFn.{get_or-range_with_len, length-range_with_len}
use Rattle.std.proofs.lemmas.Bool.{false≢true, cases_lt}
use Rattle.records.specs.declared.layout.Layout.{Layout}
use Rattle.records.specs.Meaning.{Meaning, Lawful, SameBase, Same}

-- what `all` answers of the numbers below n, from what its closure answers of each
pub decided_below : (n : ℕ) (P : ℕ → Type 0) (r : Bool)
    → MatchBool r (AllWithin P (range_with_len 0 n) 0 (length (range_with_len 0 n)))
    ((k : ℕ) × (k < length (range_with_len 0 n)) × HoldsAt (λ x. P x → ⊥) (range_with_len 0 n) k)
    → IsTrue r ↔ ((k : ℕ) → k < n → P k)
decided_below n P true h = (
  (λ _ k lt.
      let e = get_or-range_with_len 0 n k 0 lt ∙ zero-add k in
      subst P e (h k 0 (omega arith) (omega (arith, length-range_with_len 0 n)))),
  λ _. refl,
)
decided_below n P false h = (
  (λ e. absurd (false≢true e)),
  λ all.
      let lt : h.0 < n = omega (arith, h.1, length-range_with_len 0 n) in
      let e = get_or-range_with_len 0 n h.0 0 lt ∙ zero-add h.0 in
      absurd (h.2 0 (subst P (sym e) (all h.0 lt))),
)

module _ {m n : Meaning} (hm : Lawful m) (hn : Lawful n) where
  -- no base above 7 tells them apart
  same_past : (b : ℕ) → 8 ≤ b → SameBase m n b
  same_past b h =
      let e = hm.eight b h in
      let f = hn.eight b h in
      record {
        layouts = e ∙ sym f;
        records = λ w.
            nil_from_length (m.bytes b w) (hm.exact b w ∙ ap (λ (l : Layout). l.length) e)
            ∙ sym (nil_from_length (n.bytes b w) (hn.exact b w ∙ ap (λ (l : Layout). l.length) f));
      }

  -- so the eight bases decide
  pub same_everywhere : (r : Bool) → IsTrue r ↔ ((b : ℕ) → b < 8 → SameBase m n b) → IsTrue r ↔ Same m n
  same_everywhere r d = ((λ t b. ⊎_elim (d.0 t b) (same_past b) (cases_lt b 8)), λ s. d.1 (λ b _. s b))
