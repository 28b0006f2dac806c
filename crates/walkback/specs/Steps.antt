-- The Up and Down steps that a call is made of, run forward, and undone last to first.
use Rattle.std.specs.Prelude.{List, [], ◌∷◌, ◌++◌, ℕ, suc, ◌-◌}
use Rattle.laws.specs.Blocks.{blocks, sizes}
use Rattle.xoodoo.specs.Xoodoo.{inverse}
use Rattle.xoodyak.specs.declared.cyclist.Mode.{Mode}
use Rattle.xoodyak.specs.declared.cyclist.Phase.{Phase}
use Rattle.xoodyak.specs.declared.cyclist.Phase.TheVariants.{Up, Down}
use Rattle.walkback.specs.declared.steps.Undo.{Undo}
use Rattle.xoodyak.specs.Cyclist.{squeeze_rate, up_colour, up_bytes, down_bytes}

-- Up with cu, Down with x and cd
pub data Step : Type 0 where
  up_step : ℕ → Step
  down_step : List ℕ → ℕ → Step

-- one step on the 48 bytes, and undone: Up by the inverse permutation and the colour again, Down by itself
unfoldable pub does : Mode → Step → List ℕ → List ℕ
does m (up_step cu) st = up_bytes m cu st
does m (down_step x cd) st = down_bytes m x cd st

unfoldable pub undoes : Mode → Step → List ℕ → List ℕ
undoes m (up_step cu) st = up_colour m cu (inverse st)
undoes m (down_step x cd) st = down_bytes m x cd st

-- all steps, the first one first; and undone, the last one first
unfoldable pub run : Mode → List Step → List ℕ → List ℕ
run m [] st = st
run m (s ∷ ss) st = run m ss (does m s st)

unfoldable pub undo : Mode → List Step → List ℕ → List ℕ
undo m [] st = st
undo m (s ∷ ss) st = undoes m s (undo m ss st)

-- the same of 48 bytes with their mode, which stays
abbrev pub undone : List Step → Undo → Undo
undone ss u = record { st = undo u.mode ss u.st; mode = u.mode }

-- the number of Up steps: the permutations that they cost, forward or back
unfoldable pub ups : List Step → ℕ
ups [] = 0
ups (up_step cu ∷ ss) = suc (ups ss)
ups (down_step x cd ∷ ss) = ups ss

-- per block Up and Down with the block; cu for the first block, 00 after
unfoldable pub block_steps : ℕ → List (List ℕ) → List Step
block_steps cu [] = []
block_steps cu (b ∷ bs) = up_step cu ∷ down_step b 0 ∷ block_steps 0 bs

-- Up with 00 if the phase isn't Up
abbrev pub ready_steps : Phase → List Step
ready_steps Up = []
ready_steps Down = up_step 0 ∷ []

-- absorb: Down with the first block and cd, then Up and Down with 00 for each other block
unfoldable pub absorb_block_steps : Phase → ℕ → List (List ℕ) → List Step
absorb_block_steps p cd [] = []
absorb_block_steps p cd (b ∷ bs) = ready_steps p ++ (down_step b cd ∷ block_steps 0 bs)

unfoldable pub absorb_steps : Phase → ℕ → ℕ → List ℕ → List Step
absorb_steps p r cd x = absorb_block_steps p cd (blocks r x)

-- squeeze_more: Down(empty, 00) and Up with 00 for each block
unfoldable pub next_steps : List ℕ → List Step
next_steps [] = []
next_steps (k ∷ ks) = down_step [] 0 ∷ up_step 0 ∷ next_steps ks

unfoldable pub squeeze_more_steps : Mode → ℕ → List Step
squeeze_more_steps m n = next_steps (sizes (squeeze_rate m) n)

-- squeeze: Up with cu, even for no bytes, then more while bytes are wanted
unfoldable pub squeeze_steps : Mode → ℕ → ℕ → List Step
squeeze_steps m cu n = up_step cu ∷ squeeze_more_steps m (n - squeeze_rate m)
