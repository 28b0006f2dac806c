-- The definition's first two steps, and its last three at once.
use mathlib.Core.Path.{◌≡◌, sym, ap, ap₂, ◌∙◌}
use Rattle.laws.specs.Words.{rotl}
use Rattle.xoodoo.specs.Xoodoo.{each, ◌⊞◌, up, ups, step}
use Rattle.xoodoo.proofs.Known.{known-plane}
use Rattle.xoodoo.proofs.Theta.{five, unparity-five}
use Rattle.xoodoo.proofs.unround.unparity.Goals as goal

pub returns : goal.returns
unfolding step ups
returns c =
    let p = c.args.p in
    let a = c.bitxor-a.result in
    let b = c.bitxor-b.result in
    let d = c.bitxor-c.result in
    let ea : a ≡ step 1 5 14 p = c.bitxor-a.ensures ∙ ap (λ q. p ⊞ q) (c.up.ensures ∙ ap up c.spread.ensures) in
    let eb : b ≡ step 2 10 28 a =
    c.bitxor-b.ensures
    ∙ ap (λ q. a ⊞ q)
    (c.up-3.ensures ∙ ap up (c.up-2.ensures ∙ ap up c.spread-2.ensures)) in
    let ed : d ≡ b ⊞ each (rotl 4) b = c.bitxor-c.ensures ∙ ap (λ q. b ⊞ q) c.rotate_left.ensures in
    let ee : c.bitxor-d.result ≡ d ⊞ each (rotl 8) d = c.bitxor-d.ensures ∙ ap (λ q. d ⊞ q) c.rotate_left-2.ensures in
    c.bitxor.ensures
    ∙ ap₂ ◌⊞◌ (ee ∙ ap (λ q. q ⊞ each (rotl 8) q) ed) c.rotate_left-3.ensures
    ∙ ap five (eb ∙ ap (step 2 10 28) ea)
    ∙ sym (unparity-five (known-plane p _ c.well_formed.0))
