-- Fields, bytes and whole records as operands.
use Rattle.std.specs.Prelude.{ℕ, ◌+◌, ◌/◌, ◌%◌, Bool, cond, ◌&&◌, List, Some, None, Option, ◌==◌, nat_le, nat_lt, slice_index_or}
use Rattle.records.specs.declared.layout.Layout.{Layout}
use Rattle.records.specs.declared.record.Record.{Record}
use Rattle.records.specs.declared.record.Record.TheVariants.{Current, Previous}
use Rattle.records.specs.Layouts.{absent}
use Rattle.operands.specs.declared.operand.Format.{Format}
use Rattle.operands.specs.declared.operand.Format.TheVariants.{Bcd, Unsigned, Signed}
use Rattle.operands.specs.declared.operand.Field.{Field}
use Rattle.operands.specs.declared.operand.MaskedByte.{MaskedByte}
use Rattle.operands.specs.declared.base_record.BaseRecord.{BaseRecord}

-- first bytes come in eights, one for each base: eights with an even number mean the current record, odd ones the previous
abbrev pub which_of : ℕ → Record
which_of first = cond (first / 8 % 2 == 0) Current Previous

-- and each of an eight one base
abbrev pub base_record : ℕ → BaseRecord
base_record first = record { base = first % 8; which = which_of first }

-- the base is present, and so many bytes from the offset on are inside its records
abbrev pub inside : List Layout → ℕ → ℕ → ℕ → Bool
inside layouts base offset count = nat_lt 0 (slice_index_or layouts base absent).length && nat_le (offset + count) (slice_index_or layouts base absent).length

abbrev pub format : ℕ → Option Format
format code = cond (code == 0x0) (Some Bcd) (cond (code == 0x4) (Some Unsigned) (cond (code == 0xC) (Some Signed) None))

abbrev pub field_as : Option Format → List Layout → ℕ → ℕ → ℕ → Option Field
field_as None layouts first offset length = None
field_as (Some f) layouts first offset length =
    cond ((nat_le 1 length && nat_le length 4) && inside layouts (first % 8) offset length)
    (Some (record { from = base_record first; offset = offset; format = f; length = length })) None

-- the last byte has the format in its high half and the length in its low half
abbrev pub field : List Layout → ℕ → ℕ → ℕ → Option Field
field layouts first offset kind = field_as (format (kind / 16)) layouts first offset (kind % 16)

abbrev pub masked_byte : List Layout → ℕ → ℕ → ℕ → Option MaskedByte
masked_byte layouts first offset mask = cond (inside layouts (first % 8) offset 1) (Some (record { from = base_record first; offset = offset; mask = mask })) None

abbrev pub whole : List Layout → ℕ → Option BaseRecord
whole layouts first = cond (inside layouts (first % 8) 0 0) (Some (base_record first)) None
