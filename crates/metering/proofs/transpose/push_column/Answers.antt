use Rattle.std.proofs.Common.{◌∷◌, [], ◌++◌, sym, ap, ◌∙◌, append_assoc, arith, rules}
use Rattle.std.specs.Slice.Iter.{chunks_exact_rest}
use Rattle.metering.specs.Transposes.{column_bytes}
use Rattle.metering.proofs.Turning.{column_first, column_none}
use Rattle.metering.proofs.transpose.push_column.Goals as goal

pub loop-row-preserved : goal.loop-row-preserved
loop-row-preserved c =
    let steps = c.in-Some.ensures.steps in
    let before = c.loop-row.out.items in
    let later = column_bytes (chunks_exact_rest c.next.new.self) c.args.width c.args.offset in
    let first =
    column_first (chunks_exact_rest c.loop-row.row-iterator) c.in-Some.row.now (chunks_exact_rest c.next.new.self) c.args.width c.args.offset c.requires
    steps.1.0 (steps.1.1 ∙ c.loop-row.invariant.1) in (
      ap (λ xs. xs ++ later) c.in_ok-push.ensures.items ∙ (append_assoc before (_ ∷ []) later ∙ (ap (λ xs. before ++ xs) (sym first) ∙ c.loop-row.invariant.0)),
      steps.0 ∙ c.loop-row.invariant.1,
    )

pub returns : goal.returns
returns c =
    let steps = c.in-None.ensures.steps in
    let none = column_none (chunks_exact_rest c.loop-row.row-iterator) c.args.width c.args.offset (omega arith) in
    search rules
