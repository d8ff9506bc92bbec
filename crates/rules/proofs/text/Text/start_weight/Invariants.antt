use Rattle.std.proofs.Common.{◌≡◌}
use Rattle.std.specs.Iterator.Adapters.{rev_source, enumerate_source, enumerate_count}
use Rattle.std.specs.Slice.Iter.{iter_rest}
use Rattle.rules.proofs.Capping.{Weighed}
use Rattle.rules.proofs.text.Text.start_weight.Given as goal

-- the first instructions are left, and the weights of the others are at hand
abbrev pub invariant-loop-i : goal.invariant-loop-i
invariant-loop-i l =
    let numbered = rev_source l.i-iterator in
    (goal.iterator-loop-i).can_next l.i-iterator × (goal.iterator-loop-i).is_finite l.i-iterator
    × (enumerate_count numbered ≡ 0) × Weighed l.self.kinds.now (iter_rest (enumerate_source numbered)) l.weights l.next
