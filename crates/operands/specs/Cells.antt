-- The cells that an operand's first two bytes name.
use Rattle.std.specs.Prelude.{ℕ, ◌-◌, cond, ◌&&◌, Some, None, Option, ◌==◌, nat_le}
use Rattle.records.specs.declared.record.Record.TheVariants.{Current, Previous}
use Rattle.operands.specs.declared.cell.Cell.{Cell}
use Rattle.operands.specs.declared.cell.Cell.TheVariants.{Event, Definite, Marker, Register, Counter, Activity}

-- EC, EP, DC, DP, M, R and CT have one first byte each and a number; BF has one for each base
abbrev pub cell : ℕ → ℕ → Option Cell
cell first n =
    cond (first == 0x00) (Some (Event Current n))
    (cond (first == 0x08) (Some (Event Previous n))
    (cond (first == 0x10) (Some (Definite Current n))
    (cond (first == 0x18) (Some (Definite Previous n))
    (cond (first == 0x20) (Some (Marker n))
    (cond (first == 0x28) (Some (Register n))
    (cond (first == 0x30) (Some (Counter n))
    (cond (nat_le 0x38 first && nat_le first 0x3F) (Some (Activity (first - 0x38))) None)))))))
