-- The blocks of a squeeze are all alike, so that undoing one leaves those from the next on.
use mathlib.Core.Path.{◌≡◌}
use lib.ListN.{drop}
use Rattle.laws.specs.Blocks.{sizes}
use Rattle.xoodyak.specs.Cyclist.{squeeze_rate}
use Rattle.walkback.specs.Steps.{undone, next_steps}
use Rattle.walkback.proofs.steps.Undo.squeeze_more.Given as goal

abbrev pub invariant-loop : goal.invariant-loop
invariant-loop l =
    undone (next_steps (drop l.counter (sizes (squeeze_rate l.initial.self.mode) l.n))) l.self ≡ undone (next_steps (sizes (squeeze_rate l.initial.self.mode) l.n)) l.initial.self
