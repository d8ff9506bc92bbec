-- What a judgment says of its text.
use Rattle.std.proofs.Common.{◌≡◌, ℕ, ◌<◌, ◌≤◌, Bool, ◌&&◌, ltb, leb, List, length, Some, None, Option, sym, refl, ap, ◌∙◌}
use Rattle.std.proofs.lemmas.Bool.{and_from, lt-ltb, le-leb}
use Rattle.control.specs.declared.code.LoadingCode.{LoadingCode}
use Rattle.control.specs.declared.control.Control.{Control}
use Rattle.control.specs.Rules.{Inside, Found, broken, first_broken}
use Rattle.control.specs.Weights.{bound}
use Rattle.control.proofs.Finding.{found_is}
use Rattle.control.proofs.Safety.{never_faults}
use Rattle.control.proofs.Sections.{words}
use Rattle.control.proofs.Weighing.{within_bound}
use Rattle.control.proofs.Wording.{weights_follow}
use Rattle.rules.specs.Judgments.{all_below, formed, told, Says, Trusted}

-- a text is formed, or not, by its addresses alone where its length is right
pub formed_by : (text : List Control) (b : Bool) → 1 ≤ length text → length text ≤ 1024 → b ≡ all_below (length text) text → b ≡ formed text
formed_by text b lo hi e =
    e ∙ sym (ap (λ x. x && all_below (length text) text) (and_from (ltb 0 (length text)) (leb (length text) 1024) (lt-ltb 0 (length text) lo) (le-leb (length text) 1024 hi)))

module _ (text : List Control) where
  says_by : (found : Option (LoadingCode × ℕ)) → Found (broken text) (length text) found → Says text (told found (bound text))
  says_by (Some found) f = (f, words text, weights_follow text)
  says_by None f = (f, refl, words text, weights_follow text)

  pub says_told : Says text (told (first_broken text (length text)) (bound text))
  says_told = says_by (first_broken text (length text)) (found_is (broken text) (length text))

  trusted_by : 0 < length text → Inside text → (found : Option (LoadingCode × ℕ)) → Found (broken text) (length text) found → Trusted text (told found (bound text))
  trusted_by some inside (Some found) f = tt
  trusted_by some inside None f = (never_faults text inside f some, within_bound text some inside f, words text)

  pub trusted_told : 0 < length text → Inside text → Trusted text (told (first_broken text (length text)) (bound text))
  trusted_told some inside = trusted_by some inside (first_broken text (length text)) (found_is (broken text) (length text))
