use Rattle.std.proofs.Common.{◌≡◌, ◌+◌, ◌-◌, vec_items, vec_len}
use Rattle.metering.specs.Archives.{with_record}
use Rattle.metering.specs.Texts.{words}
use Rattle.metering.specs.Parts.{words_left}
use Rattle.metering.proofs.archive.push_record.Given as goal

-- from here it ends as from the start
abbrev pub invariant-loop : goal.invariant-loop
invariant-loop l =
    (with_record l.number 100 (vec_items l.initial.bytes) (words l.line) ≡ with_record l.number (100 - l.counter) (vec_items l.bytes) (words_left l.words))
    × (vec_len l.bytes ≡ vec_len l.initial.bytes + l.counter)
