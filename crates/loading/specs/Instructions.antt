-- Instructions by themselves: whether one keeps the rules that need no other, and what it does to the flow of control.
use Rattle.std.specs.Prelude.{ℕ, ◌+◌, ◌*◌, ◌/◌, Bool, true, cond, not, ◌&&◌, List, [], ◌∷◌, is_some, Some, None, Ok, Err, Option, Result, ◌==◌, nat_lt, slice_index}
use Rattle.records.specs.declared.layout.Layout.{Layout}
use Rattle.control.specs.declared.code.LoadingCode.{LoadingCode}
use Rattle.control.specs.declared.code.LoadingCode.TheVariants.{UnknownOpcode, BadOperand, BadAddress}
use Rattle.control.specs.declared.control.Control.{Control}
use Rattle.control.specs.declared.control.Control.TheVariants.{Plain, Push, Pop, JumpIf, Jump, Call, Return, End}
use Rattle.control.specs.Rules.{Check, first_of}
use Rattle.opcodes.specs.Families.{between, known, admitted, takes_operand, takes_address}
use Rattle.operands.specs.Operands.{operand}

-- an address is two bytes, the low one first
abbrev pub address : List ℕ → ℕ
address bytes = slice_index bytes 0 + 256 * slice_index bytes 1

-- the opcode admits what begins with this byte, and where it takes an operand the bytes are one
abbrev pub fits : List Layout → ℕ → List ℕ → Bool
fits layouts x bytes = admitted x (slice_index bytes 0 / 8) && cond (takes_operand x) (is_some (operand layouts bytes)) true

-- what an instruction does to the flow of control
abbrev pub control_of : ℕ → ℕ → Control
control_of x target =
    cond (between 0x0B 0x0C x) Push
    (cond (between 0x0D 0x12 x) Pop
    (cond (between 0x33 0x38 x) (JumpIf target)
    (cond (x == 0x39) (Jump target)
    (cond (x == 0x3A) (Call target)
    (cond (x == 0x3B) Return
    (cond (x == 0xFF) End Plain))))))

-- in the order of the codes: 01, 02, 08
abbrev pub checks_alone : List Layout → ℕ → ℕ → List ℕ → List Check
checks_alone layouts count x bytes =
    (not (known x), UnknownOpcode) ∷ (not (fits layouts x bytes), BadOperand) ∷ (takes_address x && not (nat_lt (address bytes) count), BadAddress) ∷ []

abbrev pub answered : Option LoadingCode → Control → Result Control LoadingCode
answered (Some code) c = Err code
answered None c = Ok c

abbrev pub alone : List Layout → ℕ → ℕ → List ℕ → Result Control LoadingCode
alone layouts count x bytes = answered (first_of (checks_alone layouts count x bytes)) (control_of x (address bytes))
