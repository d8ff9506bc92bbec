-- What the iterators over lines and words have left to give.
use Rattle.std.specs.Prelude.{ℕ, List}
use Rattle.metering.specs.declared.parts.TextLines.{TextLines}
use Rattle.metering.specs.declared.parts.LineWords.{LineWords}
use Rattle.metering.specs.Texts.{lines, words}

abbrev pub lines_left : TextLines → List (List ℕ)
lines_left it = lines it.rest.now

abbrev pub words_left : LineWords → List (List ℕ)
words_left it = words it.rest.now
