use Rattle.std.proofs.Common.{◌≡◌, ◌+◌, [], vec_items}
use Rattle.std.specs.Iterator.Adapters.{enumerate_source, enumerate_count}
use Rattle.metering.specs.Parts.{lines_left}
use Rattle.metering.specs.Texts.{lines, with_lines}
use Rattle.metering.proofs.reading.parse_bytes.Given as goal

-- from here it ends as from the start
abbrev pub invariant-loop-index : goal.invariant-loop-index
invariant-loop-index l =
    with_lines 1 [] (lines l.text) ≡ with_lines (enumerate_count l.index-iterator + 1) (vec_items l.bytes) (lines_left (enumerate_source l.index-iterator))
