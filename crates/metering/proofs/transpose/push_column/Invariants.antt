use Rattle.std.proofs.Common.{◌≡◌, ◌++◌, vec_items}
use Rattle.std.specs.Slice.Iter.{chunks_exact_rest, chunks_exact_size}
use Rattle.metering.specs.Transposes.{column_bytes}
use Rattle.metering.proofs.transpose.push_column.Given as goal

-- with the bytes of the rows to come it is the whole column
abbrev pub invariant-loop-row : goal.invariant-loop-row
invariant-loop-row l =
    (vec_items l.out ++ column_bytes (chunks_exact_rest l.row-iterator) l.width l.offset ≡ vec_items l.initial.out ++ column_bytes l.rows l.width l.offset)
    × (chunks_exact_size l.row-iterator ≡ l.width)
