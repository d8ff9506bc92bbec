-- Decoded instructions, and the bytes that they stand for.
use Rattle.std.specs.Prelude.{◌≡◌, ℕ, ◌<◌, true, cond, List, length, Ok, Err, slice_index_or}
use Rattle.std.specs.Option.{unwrap_or}
use Rattle.records.specs.declared.layout.Layout.{Layout}
use Rattle.opcodes.specs.declared.opcode.Opcode.TheVariants.{Nop}
use Rattle.opcodes.specs.Families.{known, takes_operand, takes_address}
use Rattle.opcodes.specs.Numbers.{number}
use Rattle.operands.specs.declared.operand.Operand.{Operand}
use Rattle.operands.specs.declared.operand.Operand.TheVariants.{Nothing, Address}
use Rattle.operands.specs.Operands.{operand}
use Rattle.loading.specs.declared.instruction.Instruction.{Instruction}
use Rattle.loading.specs.declared.program.Program.{Program}
use Rattle.loading.specs.Verdicts.{Verdict}
use Rattle.loading.specs.Images.{count, opcode_at, operand_bytes}
use Rattle.loading.specs.Instructions.{address}

-- the operand of an opcode: what its bytes stand for, an address, or nothing
abbrev pub operand_for : List Layout → ℕ → List ℕ → Operand
operand_for layouts x bytes = cond (takes_operand x) (unwrap_or (operand layouts bytes) Nothing) (cond (takes_address x) (Address (address bytes)) Nothing)

abbrev pub nothing : Instruction
nothing = record { opcode = Nop; operand = Nothing }

-- an instruction stands for those of the image at that number
abbrev pub StandsFor : List Layout → List ℕ → ℕ → Instruction → Type 0
StandsFor layouts image n i =
    (known (opcode_at image n) ≡ true → number i.opcode ≡ opcode_at image n) × (i.operand ≡ operand_for layouts (opcode_at image n) (operand_bytes image n))

-- as many instructions as the image has, each standing for those of the image at its number
pub record Decodes (layouts : List Layout) (image : List ℕ) (instructions : List Instruction) : Type 0 where
  pub all : length instructions ≡ count image
  pub decoded : (n : ℕ) → n < count image → StandsFor layouts image n (slice_index_or instructions n nothing)

-- a program after a verdict: the image's if it is accepted, else the one before
abbrev pub Loaded : List Layout → List ℕ → Program → Program → Verdict → Type 0
Loaded layouts image before after (Err e) = after ≡ before
Loaded layouts image before after (Ok limit) = (after.bound ≡ limit) × Decodes layouts image after.instructions.items
