use Rattle.std.proofs.Common.{◌≡◌, vec_items}
use Rattle.std.specs.List.{range_with_len, flat_map}
use Rattle.metering.specs.Transposes.{column_bytes}
use Rattle.metering.proofs.transpose.columns.Given as goal

-- the columns so far
abbrev pub invariant-loop-offset : goal.invariant-loop-offset
invariant-loop-offset l = vec_items l.out ≡ flat_map (column_bytes l.rows l.width) (range_with_len 0 l.offset)
