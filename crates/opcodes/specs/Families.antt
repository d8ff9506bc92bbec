-- The families of opcodes, by the operand that they take, and the operands of each family.
use Rattle.std.specs.Prelude.{ℕ, Bool, cond, ◌&&◌, ◌||◌, ◌==◌, nat_le}

abbrev pub between : ℕ → ℕ → ℕ → Bool
between low high x = nat_le low x && nat_le x high

abbrev pub one_of : ℕ → ℕ → ℕ → Bool
one_of a b x = x == a || x == b

-- opcodes that read an operand
abbrev pub takes_source : ℕ → Bool
takes_source x =
    one_of 0x01 0x02 x || between 0x05 0x0C x || one_of 0x19 0x1A x || between 0x1D 0x20 x || between 0x25 0x30 x || one_of 0x46 0x47 x

-- opcodes that write one
abbrev pub takes_destination : ℕ → Bool
takes_destination x = one_of 0x03 0x04 x || between 0x16 0x18 x || one_of 0x1B 0x1C x || one_of 0x22 0x24 x

-- the two divisions of whole parts
abbrev pub takes_whole : ℕ → Bool
takes_whole x = one_of 0x44 0x45 x

abbrev pub takes_counter : ℕ → Bool
takes_counter x = one_of 0x31 0x32 x

abbrev pub takes_record : ℕ → Bool
takes_record x = x == 0x3D

-- the jumps and the call
abbrev pub takes_address : ℕ → Bool
takes_address x = between 0x33 0x3A x

abbrev pub known : ℕ → Bool
known x = between 0x00 0x3B x || x == 0x3D || between 0x41 0x47 x || x == 0xFF

abbrev pub takes_operand : ℕ → Bool
takes_operand x = takes_source x || takes_destination x || takes_whole x || takes_counter x || takes_record x

-- Operands by the column of their first byte, which is the byte divided by 8. In order from column 0: EC, EP, DC, DP, M, R,
-- CT, BF, FC, FP, BC, BP; C in columns 24 and 25, PC in 26 and PP in 27.
abbrev pub source_column : ℕ → Bool
source_column c = between 0 11 c || one_of 24 25 c

abbrev pub destination_column : ℕ → Bool
destination_column c = between 0 7 c

abbrev pub whole_column : ℕ → Bool
whole_column c = c == 5 || between 8 11 c || one_of 24 25 c

abbrev pub counter_column : ℕ → Bool
counter_column c = c == 6

abbrev pub record_column : ℕ → Bool
record_column c = one_of 26 27 c

-- a known opcode with no operand or an address admits every column, an unknown one none
abbrev pub admitted : ℕ → ℕ → Bool
admitted x c =
    cond (takes_source x) (source_column c)
    (cond (takes_destination x) (destination_column c)
    (cond (takes_whole x) (whole_column c)
    (cond (takes_counter x) (counter_column c)
    (cond (takes_record x) (record_column c) (known x)))))
