-- A row of the operand table, as a mask with a bit for each of the 32 columns.
use Rattle.std.specs.Prelude.{◌≡◌, ℕ, ◌/◌, ◌%◌, ◌^◌, ◌<◌, not, ◌&&◌, ◌==◌, nat_eq}
use Rattle.opcodes.specs.Families.{known, admitted, takes_operand}

pub record RowRight (x mask : ℕ) : Type 0 where
  pub columns : (c : ℕ) → c < 32 → (mask / 2 ^ c % 2 == 1) ≡ admitted x c
  pub none : nat_eq mask 0 ≡ not (known x)
  pub all : nat_eq mask 0xFFFFFFFF ≡ (known x && not (takes_operand x))
