-- A machine that only follows control: it holds how many bits are on the bit stack and the return addresses, and
-- whether a condition holds is free at each step.
use Rattle.std.specs.Prelude.{ℕ, ◌+◌, ◌-◌, Bool, cond, List, [], ◌∷◌, length, ◌==◌, nat_lt}
use Rattle.control.specs.declared.control.Control.{Control}
use Rattle.control.specs.declared.control.Control.TheVariants.{Plain, Push, Pop, JumpIf, Jump, Call, Return, End}
use Rattle.control.specs.Texts.{at}

pub record State : Type 0 where
  -- the instruction that comes next
  pub pc : ℕ
  -- how many bits are held
  pub held : ℕ
  -- return addresses, the newest first
  pub returns : List ℕ

abbrev pub start : State
start = record { pc = 0; held = 0; returns = [] }

pub data Outcome : Type 0 where
  Goes : State → Outcome
  Ends : Outcome
  -- with the fault's number
  Faults : ℕ → Outcome

abbrev pub goto : State → ℕ → State
goto s n = record { pc = n; held = s.held; returns = s.returns }

abbrev pub back : State → List ℕ → Outcome
back s [] = Faults 0x06
back s (r ∷ rs) = Goes (record { pc = r; held = s.held; returns = rs })

-- one instruction; both stacks have eight places
abbrev pub moved : Control → Bool → State → Outcome
moved Plain c s = Goes (goto s (s.pc + 1))
moved Push c s = cond (s.held == 8) (Faults 0x03) (Goes (record { pc = s.pc + 1; held = s.held + 1; returns = s.returns }))
moved Pop c s = cond (s.held == 0) (Faults 0x04) (Goes (record { pc = s.pc + 1; held = s.held - 1; returns = s.returns }))
moved (JumpIf k) c s = Goes (goto s (cond c k (s.pc + 1)))
moved (Jump k) c s = Goes (goto s k)
moved (Call k) c s =
    cond (length s.returns == 8) (Faults 0x05) (Goes (record { pc = k; held = s.held; returns = (s.pc + 1) ∷ s.returns }))
moved Return c s = back s s.returns
moved End c s = Ends

unfoldable pub move : List Control → Bool → State → Outcome
move text c s = cond (nat_lt s.pc (length text)) (moved (at text s.pc) c s) (Faults 0x08)

-- where a machine is after so many conditions, and how many instructions it has begun
unfoldable pub run : List Control → Outcome → List Bool → Outcome
run text o [] = o
run text (Goes s) (c ∷ cs) = run text (move text c s) cs
run text Ends (c ∷ cs) = Ends
run text (Faults e) (c ∷ cs) = Faults e

unfoldable pub steps : List Control → Outcome → List Bool → ℕ
steps text o [] = 0
steps text (Goes s) (c ∷ cs) = 1 + steps text (move text c s) cs
steps text Ends (c ∷ cs) = 0
steps text (Faults e) (c ∷ cs) = 0
