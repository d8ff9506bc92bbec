-- The rules that a text must keep, instruction by instruction, and the first one that it breaks.
use Rattle.std.specs.Prelude.{◌≡◌, ℕ, zero, suc, ◌+◌, ◌<◌, Bool, cond, not, ◌||◌, List, [], ◌∷◌, length, Some, None, Option, ◌==◌, nat_le}
use Rattle.control.specs.declared.code.LoadingCode.{LoadingCode}
use Rattle.control.specs.declared.code.LoadingCode.TheVariants.{PushAtEight, PopAtZero, CallTooDeep, ReturnOutside, DepthDiffers, LeavesSection, SectionRunsOn, CallsBack}
use Rattle.control.specs.declared.control.Control.{Control}
use Rattle.control.specs.declared.control.Control.TheVariants.{Plain, Push, Pop, JumpIf, Jump, Call, Return, End}
use Rattle.control.specs.declared.place.Place.{Place}
use Rattle.control.specs.Texts.{at, ground, depth, starts, section, rank}

-- where an instruction stands, as the rules ask for it
abbrev pub place : List Control → ℕ → Place
place text n = record {
  number = n;
  depth = depth text n;
  section = section text n;
  rank = rank text n;
  last = n + 1 == length text || starts text (n + 1);
}

-- a test, and the code of what it finds
abbrev pub Check : Type 0
Check = Bool × LoadingCode

abbrev pub first_of : List Check → Option LoadingCode
first_of [] = None
first_of (c ∷ cs) = cond c.0 (Some c.1) (first_of cs)

-- In the order of the codes' list: 03, 04, 11, 12, 13, 14, 05, 06. `d` and `s` are the depth and the section at an
-- instruction's address.
abbrev pub checks : Control → Place → ℕ → ℕ → List Check
checks Push p d s = ((p.depth == ground + 8), PushAtEight) ∷ (p.last, SectionRunsOn) ∷ []
checks Pop p d s = ((p.depth == ground), PopAtZero) ∷ (p.last, SectionRunsOn) ∷ []
checks Plain p d s = (p.last, SectionRunsOn) ∷ []
checks (JumpIf k) p d s =
    (not (d == p.depth), DepthDiffers) ∷ (not (s == p.section), LeavesSection) ∷ (p.last, SectionRunsOn) ∷ []
checks (Jump k) p d s = (not (d == p.depth), DepthDiffers) ∷ (not (s == p.section), LeavesSection) ∷ []
checks (Call k) p d s =
    (not (p.depth == ground) || not (d == ground), DepthDiffers) ∷ (p.last, SectionRunsOn) ∷ (nat_le k p.number, CallsBack)
    ∷ ((p.rank == 8), CallTooDeep) ∷ []
checks Return p d s = (not (p.depth == ground), DepthDiffers) ∷ ((p.section == 0), ReturnOutside) ∷ []
checks End p d s = []

abbrev pub address : Control → ℕ
address (JumpIf k) = k
address (Jump k) = k
address (Call k) = k
address Plain = 0
address Push = 0
address Pop = 0
address Return = 0
address End = 0

-- the first rule that an instruction breaks
abbrev pub broken : List Control → ℕ → Option LoadingCode
broken text n =
    first_of (checks (at text n) (place text n) (depth text (address (at text n))) (section text (address (at text n))))

-- what was found before comes first
abbrev pub or_else : Option (LoadingCode × ℕ) → Option LoadingCode → ℕ → Option (LoadingCode × ℕ)
or_else (Some found) here n = Some found
or_else None (Some code) n = Some (code, n)
or_else None None n = None

-- the first of so many instructions at which a test finds a code
unfoldable pub first_found : (ℕ → Option LoadingCode) → ℕ → Option (LoadingCode × ℕ)
first_found test zero = None
first_found test (suc n) = or_else (first_found test n) (test n) n

-- the same in words: a test finds a code at an instruction and nothing before it, or nothing anywhere
pub record FirstAt (test : ℕ → Option LoadingCode) (total : ℕ) (code : LoadingCode) (n : ℕ) : Type 0 where
  pub inside : n < total
  pub here : test n ≡ Some code
  pub before : (k : ℕ) → k < n → test k ≡ None

abbrev pub Nowhere : (ℕ → Option LoadingCode) → ℕ → Type 0
Nowhere test total = (n : ℕ) → n < total → test n ≡ None

abbrev pub Found : (ℕ → Option LoadingCode) → ℕ → Option (LoadingCode × ℕ) → Type 0
Found test total (Some found) = FirstAt test total found.0 found.1
Found test total None = Nowhere test total

abbrev pub first_broken : List Control → ℕ → Option (LoadingCode × ℕ)
first_broken text n = first_found (broken text) n

abbrev pub KeepsRules : List Control → Type 0
KeepsRules text = (n : ℕ) → n < length text → broken text n ≡ None

-- every address is that of an instruction
abbrev pub Inside : List Control → Type 0
Inside text = (n : ℕ) → n < length text → address (at text n) < length text
