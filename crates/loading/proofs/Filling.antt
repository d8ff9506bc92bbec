-- A decoded instruction, and the bytes that it stands for.
use Rattle.std.proofs.Common.{◌≡◌, ℕ, true, false, leb, List, Ok, Err, Result, sym, ap, ◌∙◌, subst, ⊎_elim, arith}
use Rattle.std.proofs.lemmas.Bool.{cases_Bool, both_ways, and_parts, and_from, le-leb, leb-true, or_left}
use Rattle.records.specs.declared.layout.Layout.{Layout}
use Rattle.loading.specs.declared.instruction.Instruction.{Instruction}
use Rattle.std.specs.Result.{result_unwrap_or}
use Rattle.opcodes.specs.declared.naming.UnknownOpcode.{UnknownOpcode}
use Rattle.opcodes.specs.Named.{Decodes}
use Rattle.opcodes.specs.declared.opcode.Opcode.{Opcode}
use Rattle.opcodes.specs.declared.opcode.Opcode.TheVariants.{Nop}
use Rattle.opcodes.specs.Families.{known, between, takes_address}
use Rattle.opcodes.specs.Numbers.{number}
use Rattle.loading.specs.Images.{opcode_at, operand_bytes}
use Rattle.loading.specs.Decoded.{operand_for, StandsFor}

pub stands : (layouts : List Layout) (image : List ℕ) (n x : ℕ) (bytes : List ℕ) (i : Instruction) → x ≡ opcode_at image n → bytes ≡ operand_bytes image n
    → (known x ≡ true → number i.opcode ≡ x) → i.operand ≡ operand_for layouts x bytes → StandsFor layouts image n i
stands layouts image n x bytes i ex eb named operand = (
  subst (λ y. known y ≡ true → number i.opcode ≡ y) ex named,
  operand ∙ (ap (λ y. operand_for layouts y bytes) ex ∙ ap (λ b. operand_for layouts (opcode_at image n) b) eb),
)

-- a known opcode's own name, whatever stands in for an unknown one
pub named_or : (r : Result Opcode UnknownOpcode) (x : ℕ) (other : Opcode) → Decodes x r → known x ≡ true → number (result_unwrap_or r other) ≡ x
named_or (Ok p) x other h t = h.1
named_or (Err e) x other h t = absurd (both_ways _ h.0 t)

-- an unknown opcode takes no address
unaddressed : (x : ℕ) → known x ≡ false → takes_address x ≡ false
unaddressed x h =
    ⊎_elim
    (λ t.
    let p : (leb 0x33 x ≡ true) × (leb x 0x3A ≡ true) = and_parts (leb 0x33 x) (leb x 0x3A) t in
    let low : between 0x00 0x3B x ≡ true =
    and_from _ _ (le-leb 0 x (omega arith)) (le-leb x 0x3B (omega (arith, leb-true x 0x3A p.1))) in
    absurd (both_ways _ h (or_left _ _ (or_left _ _ (or_left _ _ low)))))
    (λ f. f)
    (cases_Bool (takes_address x))

-- so what stands in for it, a NOP, takes none either
pub addressed_or : (r : Result Opcode UnknownOpcode) (x : ℕ) → Decodes x r → takes_address (number (result_unwrap_or r Nop)) ≡ takes_address x
addressed_or (Ok p) x h = ap takes_address h.1
addressed_or (Err e) x h = sym (unaddressed x h.0)
