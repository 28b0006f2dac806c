-- The blocks of a squeeze are all alike, so that undoing one leaves those from the next on.
use mathlib.Core.Path.{◌≡◌, sym, ap, ◌∙◌}
use native.Mathlib.Omega.{arith}
use lib.ListN.{length}
use Rattle.std.specs.Int.{div_ceil}
use Rattle.laws.specs.Blocks.{sizes}
use Rattle.xoodyak.specs.Cyclist.{squeeze_rate}
use Rattle.walkback.specs.Steps.{squeeze_more_steps}
use Rattle.walkback.proofs.Undoing.{more-turn, more-turned, more-count}
use Rattle.walkback.proofs.steps.Undo.squeeze_more.Goals as goal

pub loop-preserved : goal.loop-preserved
loop-preserved c =
    let m = c.args.self.now.mode in
    let n = c.args.n in
    let count : c.div_ceil-end.result ≡ length (sizes (squeeze_rate m) n) = c.div_ceil-end.ensures ∙ ap (div_ceil n) c.squeeze_rate.ensures ∙ more-count m n in
    more-turn c.loop.counter (sizes (squeeze_rate m) n) c.loop.self _ _ (omega arith) c.up.ensures c.down.ensures ∙ c.loop.invariant

pub returns : goal.returns
unfolding squeeze_more_steps
returns c =
    let m = c.args.self.now.mode in
    let n = c.args.n in
    let count : c.div_ceil-end.result ≡ length (sizes (squeeze_rate m) n) = c.div_ceil-end.ensures ∙ ap (div_ceil n) c.squeeze_rate.ensures ∙ more-count m n in
    sym (more-turned c.loop.counter (sizes (squeeze_rate m) n) c.loop.self (omega arith)) ∙ c.loop.invariant
