-- What a verdict says of its image, in words and in numbers.
use Rattle.std.specs.Prelude.{◌≡◌, ℕ, true, false, ◌⊎◌, List, Option, Ok, Err}
use Rattle.records.specs.declared.layout.Layout.{Layout}
use Rattle.control.specs.declared.code.LoadingCode.{LoadingCode}
use Rattle.control.specs.Codes.{number}
use Rattle.control.specs.Rules.{broken, FirstAt, Nowhere}
use Rattle.control.specs.Weights.{bound}
use Rattle.control.specs.Promises.{Words, WeightsFollow}
use Rattle.loading.specs.declared.error.LoadError.TheVariants.{BadLength, Breaks}
use Rattle.loading.specs.Images.{lawful_length, count}
use Rattle.loading.specs.Verdicts.{Verdict, broken_alone, text}

-- no refusal, refusal 2 or refusal 3; and of refusal 3 the loading code and the instruction
abbrev pub numbers : Verdict → ℕ × ℕ × ℕ
numbers (Ok limit) = (0, 0, 0)
numbers (Err BadLength) = (2, 0, 0)
numbers (Err (Breaks code n)) = (3, number code, n)

-- it is none: empty, too long, or no whole number of instructions
pub record NoImage (image : List ℕ) : Type 0 where
  pub unlawful : lawful_length image ≡ false
  pub numbered : numbers (Err BadLength) ≡ (2, 0, 0)

-- The first broken rule, at the first instruction that breaks one: of those that an instruction keeps by itself, or, where
-- every instruction keeps these, of those among instructions. The words that the rules use mean what they say.
pub record Broken (layouts : List Layout) (image : List ℕ) (code : LoadingCode) (n : ℕ) : Type 0 where
  pub lawful : lawful_length image ≡ true
  pub first : FirstAt (broken_alone layouts image) (count image) code n
      ⊎ (Nowhere (broken_alone layouts image) (count image) × FirstAt (broken (text image)) (count image) code n)
  pub words : Words (text image)
  pub weights : WeightsFollow (text image)
  pub numbered : numbers (Err (Breaks code n)) ≡ (3, number code, n)

-- every instruction keeps every rule
pub record Kept (layouts : List Layout) (image : List ℕ) (limit : Option ℕ) : Type 0 where
  pub lawful : lawful_length image ≡ true
  pub alone : Nowhere (broken_alone layouts image) (count image)
  pub together : Nowhere (broken (text image)) (count image)
  pub bounded : limit ≡ bound (text image)
  pub words : Words (text image)
  pub weights : WeightsFollow (text image)
  pub numbered : numbers (Ok limit) ≡ (0, 0, 0)

abbrev pub Says : List Layout → List ℕ → Verdict → Type 0
Says layouts image (Err BadLength) = NoImage image
Says layouts image (Err (Breaks code n)) = Broken layouts image code n
Says layouts image (Ok limit) = Kept layouts image limit
