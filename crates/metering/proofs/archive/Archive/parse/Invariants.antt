use Rattle.std.proofs.Common.{◌≡◌, ◌+◌, [], vec_items}
use Rattle.std.specs.Iterator.Adapters.{enumerate_source, enumerate_count}
use Rattle.metering.specs.Archives.{gathered, records_in, with_record_lines, IsWhole}
use Rattle.metering.specs.Parts.{lines_left}
use Rattle.metering.specs.Texts.{lines}
use Rattle.metering.proofs.archive.Archive.parse.Given as goal

-- from here it ends as from the start; whole records so far
abbrev pub invariant-loop-index : goal.invariant-loop-index
invariant-loop-index l =
    (with_record_lines 1 (gathered 0 []) (lines l.text)
    ≡ with_record_lines (enumerate_count l.index-iterator + 1) (records_in (vec_items l.bytes)) (lines_left (enumerate_source l.index-iterator)))
    × IsWhole (vec_items l.bytes)
