use Rattle.std.proofs.Common.{◌≡◌, ℕ, ◌<◌, length, get_or, Some, None, slice_get}
use Rattle.std.specs.Bool.{then_some}
use Rattle.control.specs.Texts.{called, ranks}
use Rattle.control.specs.Rules.{place}
use Rattle.rules.proofs.Measuring.{Stands}
use Rattle.rules.proofs.text.Text.fill_places.Given as goal

-- the places so far, that of the next instruction, and what is asked of the sections
abbrev pub invariant-loop-n : goal.invariant-loop-n
invariant-loop-n l = record {
  long : length l.places ≡ 1024;
  table : (k : ℕ) → k < l.n → slice_get l.places k ≡ Some (place l.self.kinds.now k);
  stands : Stands l.self.kinds.now l.n l.place;
  asked : (s : ℕ) → s < 1025 → get_or l.asked s None ≡ then_some (called l.self.kinds.now s) ((ranks l.self.kinds.now l.n).asked s);
}
