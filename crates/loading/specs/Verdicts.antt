-- The verdict of loading on an image and eight layouts.
use Rattle.std.specs.Prelude.{◌≡◌, ℕ, cond, List, map, Some, None, Option, Ok, Err, Result}
use Rattle.std.specs.List.{range_with_len}
use Rattle.arrayvec.specs.ArrayVec.{ArrayVec}
use Rattle.records.specs.declared.layout.Layout.{Layout}
use Rattle.control.specs.declared.code.LoadingCode.{LoadingCode}
use Rattle.control.specs.declared.control.Control.{Control}
use Rattle.control.specs.Rules.{first_of, first_found, first_broken}
use Rattle.control.specs.Weights.{bound}
use Rattle.rules.specs.declared.error.TextError.{TextError}
use Rattle.rules.specs.declared.error.TextError.TheVariants.{Malformed}
use Rattle.rules.specs.declared.error.TextError as texts
use Rattle.loading.specs.declared.error.LoadError.{LoadError}
use Rattle.loading.specs.declared.error.LoadError.TheVariants.{BadLength, Breaks}
use Rattle.loading.specs.Images.{lawful_length, count, opcode_at, operand_bytes}
use Rattle.loading.specs.Instructions.{address, control_of, checks_alone}

-- accepted, with the step bound where there is one, or why it is refused
abbrev pub Verdict : Type 0
Verdict = Result (Option ℕ) LoadError

-- the first rule that an instruction breaks by itself
abbrev pub broken_alone : List Layout → List ℕ → ℕ → Option LoadingCode
broken_alone layouts image n = first_of (checks_alone layouts (count image) (opcode_at image n) (operand_bytes image n))

-- the control text of an image
abbrev pub kind_at : List ℕ → ℕ → Control
kind_at image n = control_of (opcode_at image n) (address (operand_bytes image n))

abbrev pub text : List ℕ → List Control
text image = map (kind_at image) (range_with_len 0 (count image))

-- what the rules among instructions say, once each keeps its own
abbrev pub second : Option (LoadingCode × ℕ) → Option ℕ → Verdict
second (Some found) limit = Err (Breaks found.0 found.1)
second None limit = Ok limit

abbrev pub first : Option (LoadingCode × ℕ) → Verdict → Verdict
first (Some found) rest = Err (Breaks found.0 found.1)
first None rest = rest

unfoldable pub verdict : List Layout → List ℕ → Verdict
verdict layouts image =
    cond (lawful_length image)
    (first (first_found (broken_alone layouts image) (count image)) (second (first_broken (text image) (count image)) (bound (text image))))
    (Err BadLength)

-- why a text is refused, as why its image is
abbrev pub from_text_error : TextError → LoadError
from_text_error Malformed = BadLength
from_text_error (texts.TheVariants.Breaks code n) = Breaks code n

-- a judgment on the control text as a verdict
abbrev pub from_judgment : Result (Option ℕ) TextError → Verdict
from_judgment (Ok limit) = Ok limit
from_judgment (Err e) = Err (from_text_error e)

-- every instruction keeps the rules that it keeps by itself, and this is the control text
pub record Passes (layouts : List Layout) (image : List ℕ) (kinds : ArrayVec Control) : Type 0 where
  pub alone : first_found (broken_alone layouts image) (count image) ≡ None
  pub kinds_are : kinds.items ≡ text image

-- the first instruction that breaks such a rule
abbrev pub FailsAlone : List Layout → List ℕ → LoadError → Type 0
FailsAlone layouts image BadLength = ⊥
FailsAlone layouts image (Breaks code n) = first_found (broken_alone layouts image) (count image) ≡ Some (code, n)
