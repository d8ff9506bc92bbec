-- What a record source means: a layout for each base, and for each base its current and its previous record.
use Rattle.std.specs.Prelude.{◌≡◌, ℕ, ◌<◌, ◌≤◌, true, ◌⊎◌, List, length, Option}
use Rattle.std.specs.List.{slice_get}
use Rattle.records.specs.declared.layout.Layout.{Layout}
use Rattle.records.specs.declared.record.Record.{Record}
use Rattle.records.specs.Layouts.{absent, lawful}

pub record Meaning : Type 0 where
  pub layout : ℕ → Layout
  pub bytes : ℕ → Record → List ℕ

-- what every meaning keeps: eight bases, each lawful or absent, and records exactly as long as their layout
pub record Lawful (m : Meaning) : Type 0 where
  pub eight : (b : ℕ) → 8 ≤ b → m.layout b ≡ absent
  pub each : (b : ℕ) → (m.layout b ≡ absent) ⊎ (lawful (m.layout b) ≡ true)
  pub exact : (b : ℕ) (w : Record) → length (m.bytes b w) ≡ (m.layout b).length

-- one byte of a record, given exactly when the offset is below the length
abbrev pub byte_at : Meaning → ℕ → Record → ℕ → Option ℕ
byte_at m b w o = slice_get (m.bytes b w) o

-- both give the same byte at each of so many offsets
abbrev pub Answers : Meaning → Meaning → ℕ → Record → ℕ → Type 0
Answers m n b w len = (k : ℕ) → k < len → byte_at m b w k ≡ byte_at n b w k

-- two sources mean the same at a base: its layout, and its two records
pub record SameBase (m n : Meaning) (b : ℕ) : Type 0 where
  pub layouts : m.layout b ≡ n.layout b
  pub records : (w : Record) → m.bytes b w ≡ n.bytes b w

-- two sources mean the same
abbrev pub Same : Meaning → Meaning → Type 0
Same m n = (b : ℕ) → SameBase m n b
