-- A sum that wraps at each step.
use Rattle.std.proofs.Common.{◌≡◌, ℕ, ◌+◌, ◌%◌, List, [], ◌∷◌, sum, refl, ap, sym, ◌∙◌}
use Rattle.std.specs.List.{fold}
use Rattle.std.proofs.Math.Nat.{mod-add-mod}

-- it is the sum that wraps once
wrapped : (xs : List ℕ) (a : ℕ) → fold (λ a x. (a + x) % 256) (a % 256) xs ≡ fold (λ a x. a + x) a xs % 256
wrapped [] a = refl
wrapped (x ∷ xs) a = ap (λ b. fold (λ a x. (a + x) % 256) b xs) (mod-add-mod a 256 x) ∙ wrapped xs (a + x)

pub wrapped_sum : (xs : List ℕ) → sum xs % 256 ≡ fold (λ a x. (a + x) % 256) 0 xs
wrapped_sum xs = sym (wrapped xs 0)
