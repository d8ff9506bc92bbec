-- The five decimal digits of a constant, and the whole number that they make.
use Rattle.std.specs.Prelude.{ℕ, ◌+◌, ◌*◌, ◌/◌, ◌%◌, Bool, true, not, ◌&&◌, List, [], ◌∷◌, ◌==◌, nat_le}

-- a byte holds two digits
abbrev pub high_half : ℕ → ℕ
high_half b = b / 16

abbrev pub low_half : ℕ → ℕ
low_half b = b % 16

-- from the first to the last: the last byte's high half, and then the two bytes before it
abbrev pub digits : ℕ → ℕ → ℕ → List ℕ
digits p2 p3 p4 = high_half p4 ∷ high_half p3 ∷ low_half p3 ∷ high_half p2 ∷ low_half p2 ∷ []

abbrev pub decimal : List ℕ → Bool
decimal [] = true
decimal (d ∷ ds) = nat_le d 9 && decimal ds

-- each is a decimal digit, and the first is not 0
abbrev pub digits_lawful : ℕ → ℕ → ℕ → Bool
digits_lawful p2 p3 p4 = not (high_half p4 == 0) && decimal (digits p2 p3 p4)

-- what stands after n is read on from the left
abbrev pub read_on : ℕ → List ℕ → ℕ
read_on n [] = n
read_on n (d ∷ ds) = read_on (10 * n + d) ds

abbrev pub whole_number : ℕ → ℕ → ℕ → ℕ
whole_number p2 p3 p4 = read_on 0 (digits p2 p3 p4)
