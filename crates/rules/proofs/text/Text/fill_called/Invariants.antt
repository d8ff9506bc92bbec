use Rattle.std.proofs.Common.{◌≡◌, ℕ, ◌<◌, None, length, get_or, take}
use Rattle.std.specs.Bool.{then_some}
use Rattle.std.specs.List.{list_any}
use Rattle.control.specs.Texts.{calls}
use Rattle.rules.proofs.text.Text.fill_called.Given as goal

-- the addresses that the instructions so far call
abbrev pub invariant-loop-kind : goal.invariant-loop-kind
invariant-loop-kind l =
    (length l.asked ≡ 1025) × ((s : ℕ) → s < 1025 → get_or l.asked s None ≡ then_some (list_any (λ c. calls c s) (take l.kind-index l.self.kinds.now)) 1)
