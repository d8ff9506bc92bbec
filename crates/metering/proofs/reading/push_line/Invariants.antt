use Rattle.std.proofs.Common.{◌≡◌, vec_items}
use Rattle.metering.specs.Parts.{words_left}
use Rattle.metering.specs.Texts.{words, with_words}
use Rattle.metering.proofs.reading.push_line.Given as goal

-- from here it ends as from the start
abbrev pub invariant-loop-word : goal.invariant-loop-word
invariant-loop-word l = with_words l.number (vec_items l.initial.bytes) (words l.line) ≡ with_words l.number (vec_items l.bytes) (words_left l.word-iterator)
