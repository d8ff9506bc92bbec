-- The operand that four bytes stand for, if they fit: by their first byte.
use Rattle.std.specs.Prelude.{ℕ, ◌+◌, ◌*◌, Bool, cond, ◌&&◌, List, None, Option, nat_le, slice_index}
use Rattle.std.specs.Option.{option_map}
use Rattle.records.specs.declared.layout.Layout.{Layout}
use Rattle.constants.specs.Constants.{value}
use Rattle.operands.specs.declared.operand.Operand.{Operand}
use Rattle.operands.specs.declared.operand.Operand.TheVariants.{Cell, Field, Byte, Constant, Whole}
use Rattle.operands.specs.Cells.{cell}
use Rattle.operands.specs.Parts.{field, masked_byte, whole}

abbrev pub among : ℕ → ℕ → ℕ → Bool
among low high p = nat_le low p && nat_le p high

-- cells from 00 on, fields from 40, bytes from 50, constants from C0, whole records from D0
abbrev pub operand_of : List Layout → ℕ → ℕ → ℕ → ℕ → Option Operand
operand_of layouts p1 p2 p3 p4 =
    cond (among 0x00 0x3F p1) (option_map Cell (cell p1 p2))
    (cond (among 0x40 0x4F p1) (option_map Field (field layouts p1 (p2 + 256 * p3) p4))
    (cond (among 0x50 0x5F p1) (option_map Byte (masked_byte layouts p1 (p2 + 256 * p3) p4))
    (cond (among 0xC0 0xCF p1) (option_map Constant (value p1 p2 p3 p4))
    (cond (among 0xD0 0xDF p1) (option_map Whole (whole layouts p1)) None))))

abbrev pub operand : List Layout → List ℕ → Option Operand
operand layouts bytes = operand_of layouts (slice_index bytes 0) (slice_index bytes 1) (slice_index bytes 2) (slice_index bytes 3)
