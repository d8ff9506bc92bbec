-- Operands as text, as the recorder's maker writes them.
use Rattle.std.specs.Prelude.{ℕ, true, List, [], ◌++◌, codes, Some, None, Option}
use Rattle.std.specs.Fmt.{decimal, digits}
use Rattle.records.specs.declared.record.Record.{Record}
use Rattle.records.specs.declared.record.Record.TheVariants.{Current, Previous}
use Rattle.operands.specs.declared.base_record.BaseRecord.{BaseRecord}
use Rattle.operands.specs.declared.cell.Cell.{Cell}
use Rattle.operands.specs.declared.cell.Cell.TheVariants.{Event, Definite, Marker, Register, Counter, Activity}
use Rattle.operands.specs.declared.operand.Format.{Format}
use Rattle.operands.specs.declared.operand.Format.TheVariants.{Bcd, Unsigned, Signed}
use Rattle.operands.specs.declared.operand.Field.{Field}
use Rattle.operands.specs.declared.operand.MaskedByte.{MaskedByte}
use Rattle.operands.specs.declared.operand.Operand.{Operand}
use Rattle.operands.specs.declared.operand.Operand.TheVariants as operand

-- in hexadecimal, with capital letters
abbrev pub hexadecimal : ℕ → List ℕ
hexadecimal n = digits 16 true n

-- the record's letter, which ends the name of an operand's kind
abbrev pub letter : Record → List ℕ
letter Current = codes "C"
letter Previous = codes "P"

-- the record's letter, and the base
abbrev pub base_text : BaseRecord → List ℕ
base_text from = letter from.which ++ codes "." ++ decimal from.base

abbrev pub cell_text : Cell → List ℕ
cell_text (Event which n) = codes "~E" ++ letter which ++ codes "." ++ decimal n
cell_text (Definite which n) = codes "~D" ++ letter which ++ codes "." ++ decimal n
cell_text (Marker n) = codes "~M." ++ decimal n
cell_text (Register n) = codes "~R." ++ decimal n
cell_text (Counter n) = codes "~CT." ++ decimal n
cell_text (Activity base) = codes "~BF." ++ decimal base

abbrev pub format_text : Format → List ℕ
format_text Bcd = codes "b"
format_text Unsigned = codes "u"
format_text Signed = codes "s"

abbrev pub field_text : Field → List ℕ
field_text f = codes "~F" ++ base_text f.from ++ codes "." ++ hexadecimal f.offset ++ codes "." ++ format_text f.format ++ decimal f.length

abbrev pub byte_text : MaskedByte → List ℕ
byte_text b = codes "~B" ++ base_text b.from ++ codes "." ++ hexadecimal b.offset ++ codes "&" ++ hexadecimal b.mask

-- of a constant, how its number is written is the library's
abbrev pub operand_text : Operand → Option (List ℕ)
operand_text operand.Nothing = Some []
operand_text (operand.Address n) = Some (decimal n)
operand_text (operand.Cell c) = Some (cell_text c)
operand_text (operand.Field f) = Some (field_text f)
operand_text (operand.Byte b) = Some (byte_text b)
operand_text (operand.Constant x) = None
operand_text (operand.Whole from) = Some (codes "~P" ++ base_text from)
