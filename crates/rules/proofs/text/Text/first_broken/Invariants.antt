use Rattle.std.proofs.Common.{◌≡◌, length, None}
use Rattle.control.specs.Rules.{first_broken}
use Rattle.rules.proofs.text.Text.first_broken.Given as goal

-- no rule is broken so far
abbrev pub invariant-loop-kind : goal.invariant-loop-kind
invariant-loop-kind l = first_broken l.self.kinds.now (length l.yielded) ≡ None
