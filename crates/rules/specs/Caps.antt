-- Numbers that are only told apart up to a limit.
use Rattle.std.specs.Prelude.{ℕ, ◌+◌, min}
use Rattle.control.specs.Weights.{limit}

-- above the limit, one more than the limit
abbrev pub capped : ℕ → ℕ
capped n = min n (limit + 1)
