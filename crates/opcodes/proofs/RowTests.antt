-- The operand table, tested at every row and column by computation, and what the test says of each row.
use Rattle.std.proofs.Common.{◌≡◌, ℕ, ◌/◌, ◌%◌, ◌^◌, ◌<◌, Bool, true, not, ◌&&◌, eqb, get_or, refl, arith}
use Rattle.std.proofs.lemmas.Bool.{and_parts, agree_below, agree_below_at}
use Rattle.opcodes.specs.declared.table.TheConstants.{MASKS}
use Rattle.opcodes.specs.Families.{known, admitted, takes_operand}
use Rattle.opcodes.specs.Rows.{RowRight}

-- two tests with one answer
abbrev agrees : Bool → Bool → Bool
agrees a b = agree_below (λ _. a) (λ _. b) 1

agrees_is : (a b : Bool) → agrees a b ≡ true → a ≡ b
agrees_is a b h = agree_below_at (λ _. a) (λ _. b) 1 0 h (omega arith)

-- the bit of a column
abbrev bit : ℕ → ℕ → Bool
bit mask c = eqb (mask / 2 ^ c % 2) 1

abbrev is_right : ℕ → ℕ → Bool
is_right x mask =
    agree_below (bit mask) (admitted x) 32 && (agrees (eqb mask 0) (not (known x)) && agrees (eqb mask 0xFFFFFFFF) (known x && not (takes_operand x)))

right_if : (x mask : ℕ) → is_right x mask ≡ true → RowRight x mask
right_if x mask h =
    let a = and_parts (agree_below (bit mask) (admitted x) 32) _ h in
    let b = and_parts (agrees (eqb mask 0) (not (known x))) _ a.1 in
    record {
      columns = λ c lt. agree_below_at (bit mask) (admitted x) 32 c a.0 lt;
      none = agrees_is _ _ b.0;
      all = agrees_is _ _ b.1;
    }

pub row_right : (x : ℕ) → x < 256 → RowRight x (get_or MASKS x 0)
row_right x lt = right_if x (get_or MASKS x 0) (agree_below_at (λ n. is_right n (get_or MASKS n 0)) (λ _. true) 256 x refl lt)
