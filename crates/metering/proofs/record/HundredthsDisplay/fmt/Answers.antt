use Rattle.std.proofs.Common.{◌≡◌, ℕ, ◌+◌, ◌/◌, ◌%◌, ◌<◌, false, [], ◌∷◌, ◌++◌, subst, ap, ◌∙◌, arith}
use Rattle.std.specs.Fmt.{decimal, styled_decimal, format_spec, padded_integral, char_count, HasWritten}
use Rattle.std.proofs.lemmas.Bool.{cases_lt}
use Rattle.std.proofs.lemmas.Fmt.{decimal_digit, decimal_step}
use Rattle.metering.proofs.record.HundredthsDisplay.fmt.Goals as goal
use mathlib.Core.Logic.{⊎_elim}

-- `{n:02}` of a number below 100 is its two digits
two_wide : (n : ℕ) → n < 100 → styled_decimal (format_spec 32 0 4 2 18446744073709551615) n ≡ (48 + n / 10) ∷ (48 + n % 10) ∷ []
unfolding padded_integral char_count
two_wide n small =
    let wide = padded_integral (format_spec 32 0 4 2 18446744073709551615) false [] in
    ⊎_elim
    (λ low. let no_tens : 48 ≡ 48 + n / 10 = omega arith in let ones : 48 + n ≡ 48 + n % 10 = omega arith in
    ap wide (decimal_digit n low) ∙ (ap (λ x. 48 ∷ x ∷ []) ones ∙ ap (λ x. x ∷ (48 + n % 10) ∷ []) no_tens))
    (λ high. ap wide (decimal_step n high (omega arith) ∙ ap (λ xs. xs ++ (48 + n % 10) ∷ []) (decimal_digit (n / 10) (omega arith))))
    (cases_lt n 10)

pub returns-clause-writes : goal.returns-clause-writes
returns-clause-writes g c =
    let n = c.args.self.now.0 in
    let same : n % 100 % 10 ≡ n % 10 = omega arith in
    let rest = ap (λ s. styled_decimal s (n % 100)) c.laid_out.ensures ∙ (two_wide (n % 100) (omega arith) ∙ ap (λ x. (48 + n % 100 / 10) ∷ (48 + x) ∷ []) same) in
    λ plain ok. subst (λ xs. HasWritten g.W.Write.write_str_gives c.args.f.now (decimal (n / 100) ++ 46 ∷ xs) c.write.new.self) rest (c.write.ensures.writes plain ok)
