-- Texts of hexadecimal bytes: lines, words, the bytes that the words stand for, and the first fault in the text's order.
use Rattle.std.specs.Prelude.{◌≡◌, ℕ, ◌+◌, ◌*◌, Bool, true, false, cond, ◌&&◌, ◌||◌, ◌⊎◌, List, [], ◌∷◌, ◌++◌, length, Some, None, Ok, Err, Option, Result, ◌==◌, nat_lt, slice_index}
use Rattle.std.specs.Char.{is_ascii_whitespace, digit_value}
use Rattle.metering.specs.declared.fault.ArchiveFault.{ArchiveFault}
use Rattle.metering.specs.declared.fault.ArchiveFault.TheVariants.{Memory, NotAByte}

abbrev pub begun_by : ℕ → List (List ℕ) → List (List ℕ)
begun_by b [] = (b ∷ []) ∷ []
begun_by b (p ∷ ps) = (b ∷ p) ∷ ps

-- The parts of a text: a byte that passes the test ends a part, and belongs to it where such bytes are kept, else to none. The last
-- part may end with the text.
abbrev pub parts : (ℕ → Bool) → Bool → List ℕ → List (List ℕ)
parts ends kept [] = []
parts ends kept (b ∷ bs) = cond (ends b) (cond kept (b ∷ []) [] ∷ parts ends kept bs) (begun_by b (parts ends kept bs))

abbrev pub newline : ℕ → Bool
newline b = b == 10

-- each with its newline
unfoldable pub lines : List ℕ → List (List ℕ)
lines text = parts newline true text

abbrev pub not_empty : List (List ℕ) → List (List ℕ)
not_empty [] = []
not_empty ([] ∷ ps) = not_empty ps
not_empty ((b ∷ p) ∷ ps) = (b ∷ p) ∷ not_empty ps

unfoldable pub words : List ℕ → List (List ℕ)
words line = not_empty (parts is_ascii_whitespace false line)

-- a line is passed over if it has nothing before its end (a newline, or a carriage return, 13, and a newline), or begins with # (35)
abbrev pub passed_over : List ℕ → Bool
passed_over line = newline (slice_index line 0) || (slice_index line 0 == 13 && newline (slice_index line 1)) || slice_index line 0 == 35

abbrev pub hex_digit : ℕ → Option ℕ
hex_digit b = cond (nat_lt (digit_value b) 16) (Some (digit_value b)) None

abbrev pub two_digits : Option ℕ → Option ℕ → Option ℕ
two_digits (Some high) (Some low) = Some (high * 16 + low)
two_digits (Some high) None = None
two_digits None low = None

-- a word of two hexadecimal digits is a byte
abbrev pub byte_of : List ℕ → Option ℕ
byte_of word = cond (length word == 2) (two_digits (hex_digit (slice_index word 0)) (hex_digit (slice_index word 1))) None

-- the reading goes on with what was read, and ends at a fault
abbrev pub then : {X Y : Type 0} → Result X ArchiveFault → (X → Result Y ArchiveFault) → Result Y ArchiveFault
then (Ok x) next = next x
then (Err fault) next = Err fault

-- the bytes so far and one more, if the word in that line is one
abbrev pub with_byte : ℕ → List ℕ → Option ℕ → Result (List ℕ) ArchiveFault
with_byte number so_far (Some b) = Ok (so_far ++ b ∷ [])
with_byte number so_far None = Err (NotAByte number)

abbrev pub with_words : ℕ → List ℕ → List (List ℕ) → Result (List ℕ) ArchiveFault
with_words number so_far [] = Ok so_far
with_words number so_far (w ∷ ws) = then (with_byte number so_far (byte_of w)) (λ xs. with_words number xs ws)

abbrev pub with_line : ℕ → List ℕ → List ℕ → Result (List ℕ) ArchiveFault
with_line number so_far line = cond (passed_over line) (Ok so_far) (with_words number so_far (words line))

-- lines from that number on
abbrev pub with_lines : ℕ → List ℕ → List (List ℕ) → Result (List ℕ) ArchiveFault
with_lines number so_far [] = Ok so_far
with_lines number so_far (l ∷ ls) = then (with_line number so_far l) (λ xs. with_lines (number + 1) xs ls)

-- a text that is no archive: any number of bytes in a line
abbrev pub bytes_of : List ℕ → Result (List ℕ) ArchiveFault
bytes_of text = with_lines 1 [] (lines text)

-- the answer is the defined one, or tells that an allocation failed
abbrev pub AsDefined : {X Y : Type 0} → Result Y ArchiveFault → (X → Y) → Result X ArchiveFault → Type 0
AsDefined defined read (Ok x) = defined ≡ Ok (read x)
AsDefined defined read (Err fault) = (fault ≡ Memory) ⊎ (defined ≡ Err fault)
