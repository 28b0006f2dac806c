-- Theta done 32 times changes nothing: done twice it is one step twice as far, so five doublings reach 32 columns and rotations by 0.
use mathlib.Core.Path.{◌≡◌, sym, ap, ◌∙◌}
use Prim.Native.Nat.{ℕ, zero, suc, ◌+◌}
use native.Mathlib.Nat.{add-zero, add-suc}
use Rattle.xoodoo.specs.declared.round.State.{State}
use Rattle.xoodoo.specs.Xoodoo.{theta}
use Rattle.xoodoo.proofs.Planes.{Good}
use Rattle.xoodoo.proofs.Theta.{by, by-by, by-same, parity-words, more, more-more, more-32, theta-is, theta-good}

-- f done n times
unfoldable pub times : ℕ → (State → State) → State → State
times zero f s = s
times (suc n) f s = f (times n f s)

times-times : (n k : ℕ) (f : State → State) (s : State) → times n f (times k f s) ≡ times (k + n) f s
unfolding times
times-times zero k f s = rw add-zero
times-times (suc n) k f s = rw add-suc (ap f (times-times n k f s))

times-good : (n : ℕ) {s : State} → Good s → Good (times n theta s)
unfolding times
times-good zero g = g
times-good (suc n) g = theta-good (times-good n g)

-- theta done n times is one step by (m, i, j)
Is : ℕ → ℕ → ℕ → ℕ → Type 0
Is n m i j = (s : State) → Good s → times n theta s ≡ by (more m i j) s

once : Is 1 1 5 14
unfolding Is times
once = theta-is

double : (n m i j : ℕ) → Is n m i j → Is (n + n) (m + m) (i + i) (j + j)
unfolding Is
double n m i j e s g =
    sym (times-times n n theta s) ∙ e (times n theta s) (times-good n g) ∙ ap (by (more m i j)) (e s g)
    ∙ by-by (more m i j) (more m i j) s ∙ (λ t. by (λ p. more-more m i j p t) s)

-- theta applied 32 times changes nothing
pub theta-32-times : (s : State) → Good s → times 32 theta s ≡ s
unfolding Is
theta-32-times s g =
    double 16 16 80 224 (double 8 8 40 112 (double 4 4 20 56 (double 2 2 10 28 (double 1 1 5 14 once)))) s g
    ∙ by-same (more 32 160 448) s (more-32 (parity-words g))
