-- Images: 1 to 1,024 instructions of five bytes, an opcode and four operand bytes each.
use Rattle.std.specs.Prelude.{ℕ, ◌+◌, ◌*◌, ◌/◌, ◌%◌, Bool, ◌&&◌, List, length, take, drop, ◌==◌, nat_le, slice_index}

abbrev pub lawful_length : List ℕ → Bool
lawful_length image = nat_le 1 (length image) && nat_le (length image) 5120 && length image % 5 == 0

abbrev pub count : List ℕ → ℕ
count image = length image / 5

abbrev pub opcode_at : List ℕ → ℕ → ℕ
opcode_at image n = slice_index image (5 * n)

abbrev pub operand_bytes : List ℕ → ℕ → List ℕ
operand_bytes image n = take 4 (drop (5 * n + 1) image)
