-- An archive as text: in each line that is not passed over, the 100 bytes of a record; 2 to 65,535 records.
use Rattle.std.specs.Prelude.{◌≡◌, ℕ, ◌+◌, ◌-◌, ◌*◌, ◌/◌, ◌≤◌, cond, List, [], ◌∷◌, length, Ok, Err, Result, ◌==◌, nat_le, nat_lt}
use Rattle.metering.specs.declared.fault.ArchiveFault.{ArchiveFault}
use Rattle.metering.specs.declared.fault.ArchiveFault.TheVariants.{WrongLength, WrongCount}
use Rattle.metering.specs.Texts.{lines, words, passed_over, byte_of, then, with_byte}

-- the bytes so far and those of a line that must have just so many more
abbrev pub with_record : ℕ → ℕ → List ℕ → List (List ℕ) → Result (List ℕ) ArchiveFault
with_record number left so_far [] = cond (left == 0) (Ok so_far) (Err (WrongLength number))
with_record number left so_far (w ∷ ws) =
    cond (left == 0) (Err (WrongLength number))
    (then (with_byte number so_far (byte_of w)) (λ xs. with_record number (left - 1) xs ws))

-- records one after another
pub record Gathered : Type 0 where
  pub records : ℕ
  pub bytes : List ℕ

abbrev pub gathered : ℕ → List ℕ → Gathered
gathered n xs = record { records = n; bytes = xs }

-- so many records as the bytes make
abbrev pub records_in : List ℕ → Gathered
records_in xs = gathered (length xs / 100) xs

-- whole records, and no more than an archive may have
abbrev pub IsWhole : List ℕ → Type 0
IsWhole xs = (length xs / 100 * 100 ≡ length xs) × (length xs / 100 ≤ 65535)

-- no fewer than an archive must have
abbrev pub IsEnough : List ℕ → Type 0
IsEnough xs = 2 ≤ length xs / 100

-- a record too many is told before its line is looked at
abbrev pub with_record_line : ℕ → Gathered → List ℕ → Result Gathered ArchiveFault
with_record_line number g line =
    cond (passed_over line) (Ok g)
    (cond (nat_le 65535 g.records) (Err (WrongCount 65536))
    (then (with_record number 100 g.bytes (words line)) (λ xs. Ok (gathered (g.records + 1) xs))))

-- lines from that number on
abbrev pub with_record_lines : ℕ → Gathered → List (List ℕ) → Result Gathered ArchiveFault
with_record_lines number g [] = Ok g
with_record_lines number g (l ∷ ls) = then (with_record_line number g l) (λ h. with_record_lines (number + 1) h ls)

abbrev pub if_enough : Gathered → Result Gathered ArchiveFault
if_enough g = cond (nat_lt g.records 2) (Err (WrongCount g.records)) (Ok g)

abbrev pub archive_of : List ℕ → Result Gathered ArchiveFault
archive_of text = then (with_record_lines 1 (gathered 0 []) (lines text)) if_enough
