use Rattle.std.proofs.Common.{◌≡◌, ◌-◌, ◌≤◌, length, take, vec_items, vec_len}
use Rattle.metering.proofs.copy.copy_record.Given as goal

-- the record so far
abbrev pub invariant-loop-byte : goal.invariant-loop-byte
invariant-loop-byte g l =
    let record_bytes = (g.S.Source.meaning l.source).bytes l.base l.which in
    (vec_items l.bytes ≡ take (vec_len l.bytes) record_bytes) × (vec_len l.bytes ≤ length record_bytes)

abbrev pub decreases-loop-byte : goal.decreases-loop-byte
decreases-loop-byte g l = length ((g.S.Source.meaning l.source).bytes l.base l.which) - vec_len l.bytes
