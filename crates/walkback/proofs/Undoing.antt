-- Steps undone, as the loops undo them: blocks from the last, a squeeze by its length alone.
use denote.Ref.{Bor}
use mathlib.Core.Path.{◌≡◌, refl, sym, ap, ◌∙◌}
use mathlib.Core.Bool.{Bool, true, false}
use mathlib.Core.List.{List, [], ◌∷◌, ◌++◌}
use Prim.Native.Nat.{ℕ, zero, suc, ◌+◌, ◌-◌, ◌/◌, ◌*◌, ◌%◌, ◌<◌, ◌≤◌, min}
use native.Mathlib.Nat.{not-suc-le-zero, le_refl, div-add-mod', div-eq_of_lt, div-eq-sub-div, mod-eq_of_lt, mod-eq-sub-mod}
use native.Mathlib.Omega.{arith}
use lib.Dec.{ltb}
use lib.ListN.{length, get_or, take, drop, length-append}
use lib.Seq.{take_all, take-append_seam, drop-append_seam}
use borrow.Author.Tests.{ltb-true, ltb-false}
use Rattle.std.proofs.lemmas.List.{drop_more, drop_all}
use Rattle.std.specs.Prelude.{Option, None}
use Rattle.std.specs.Bool.{then_some}
use Rattle.std.specs.Int.{div_ceil}
use Rattle.std.specs.Slice.Iter.{chunk_count}
use Rattle.laws.specs.Blocks.{cuts, sizes, block_count}
use Rattle.laws.proofs.Blocks.{cuts-step, cuts-nil, blocks_step, sizes-count, count-step}
use Rattle.laws.proofs.BlocksBack.{turn-back}
use Rattle.xoodyak.specs.declared.cyclist.Mode.{Mode}
use Rattle.xoodyak.specs.declared.cyclist.Phase.{Phase}
use Rattle.xoodyak.specs.Cyclist.{squeeze_rate, chosen}
use Rattle.xoodyak.proofs.Turns.{rate-pos}
use Rattle.walkback.specs.declared.steps.Undo.{Undo}
use Rattle.walkback.specs.Steps.{Step, up_step, down_step, undo, undone, block_steps, ready_steps, absorb_block_steps, absorb_steps, next_steps}
use Rattle.walkback.specs.Walk.{given_steps, key_run, key_steps}

-- what comes later is undone first
undone-append : (ss ts : List Step) (u : Undo) → undone (ss ++ ts) u ≡ undone ss (undone ts u)
unfolding undo
undone-append [] ts u = refl
undone-append (s ∷ ss) ts u = ap (undone (s ∷ [])) (undone-append ss ts u)

pub append-undone : (ss ts : List Step) (u b a : Undo) → b ≡ undone ts u → a ≡ undone ss b → a ≡ undone (ss ++ ts) u
append-undone ss ts u b a eb ea = ea ∙ ap (undone ss) eb ∙ sym (undone-append ss ts u)

-- ---- blocks
-- the colour of the block after bs: cu where it is the first
abbrev pub colour_after : ℕ → List (List ℕ) → ℕ
colour_after cu [] = cu
colour_after cu (b ∷ bs) = 0

after-zero : (bs : List (List ℕ)) → colour_after 0 bs ≡ 0
after-zero [] = refl
after-zero (b ∷ bs) = refl

blocks_last : (cu : ℕ) (bs : List (List ℕ)) (b : List ℕ) (u : Undo)
    → undone (block_steps cu (bs ++ (b ∷ []))) u ≡ undone (block_steps cu bs) (undone (block_steps (colour_after cu bs) (b ∷ [])) u)
unfolding undo block_steps
blocks_last cu [] b u = refl
blocks_last cu (a ∷ bs) b u =
    ap (undone (up_step cu ∷ down_step a 0 ∷ []))
    (blocks_last 0 bs b u ∙ ap (λ c. undone (block_steps 0 bs) (undone (block_steps c (b ∷ [])) u)) (after-zero bs))

-- the block that i blocks stand before is the first where i is 0
module _ (cu r i : ℕ) (front : List ℕ) (p : 0 < r) (e : i ≡ chunk_count (length front) r) where
  pub colour-first : i ≡ 0 → cu ≡ colour_after cu (cuts r front)
  colour-first h = split (length front) refl where
    split : (n : ℕ) → length front ≡ n → cu ≡ colour_after cu (cuts r front)
    split zero z = rw (cuts-nil r front (omega arith))
    split (suc n) z =
        let a = length front + r - 1 in
        let d : a / r ≡ (a - r) / r + 1 = div-eq-sub-div p (omega arith) in
        absurd (omega arith)

  pub colour-other : 0 < i → 0 ≡ colour_after cu (cuts r front)
  colour-other h = rw (cuts-step r front (min r (length front)) p (omega arith) refl)

-- the last block starts at the last multiple of the rate below the length
cuts-last : (r : ℕ) (front x : List ℕ) → 0 < r → 0 < length (front ++ x) → length front ≡ (length (front ++ x) - 1) / r * r
    → cuts r (front ++ x) ≡ cuts r front ++ (x ∷ [])
cuts-last r front x p h q =
    let e = length (front ++ x) in
    let i = length front in
    let d : (e - 1) / r * r + (e - 1) % r ≡ e - 1 = div-add-mod' (e - 1) r in
    let l : e ≡ i + length x = length-append front x in
    let k : e - i ≡ length x = omega arith in
    ap (cuts r) (sym (take_all e (front ++ x) (le_refl e)))
    ∙ turn-back r i e (front ++ x) p h (le_refl e) (omega arith)
    ∙ rw (take-append_seam front x, drop-append_seam front x, k, take_all (length x) x (le_refl _))

-- a turn of the loop takes the last block of what is left
pub blocks-turn : (cu r colour : ℕ) (left front x : List ℕ) (u after : Undo) → 0 < r → left ≡ front ++ x → 0 < length left
    → length front ≡ (length left - 1) / r * r
    → colour ≡ colour_after cu (cuts r front)
    → after ≡ undone (block_steps colour (x ∷ [])) u
    → undone (block_steps cu (cuts r front)) after ≡ undone (block_steps cu (cuts r left)) u
blocks-turn cu r colour left front x u after p e h q c a =
    let h' : 0 < length (front ++ x) = rw (← e) h in
    let q' : length front ≡ (length (front ++ x) - 1) / r * r = rw (← e) q in
    rw (a, c, e, cuts-last r front x p h' q') (sym (blocks_last cu (cuts r front) x u))

pub blocks-turned : (cu r : ℕ) (left : List ℕ) (u : Undo) → length left ≡ 0 → undone (block_steps cu (cuts r left)) u ≡ u
unfolding undo block_steps
blocks-turned cu r left u h = rw (cuts-nil r left (omega arith))

-- ---- absorb
pub absorb-undone : (p : Phase) (r k cd : ℕ) (x : List ℕ) (u b d a : Undo) → 0 < r → k ≡ min r (length x)
    → b ≡ undone (block_steps 0 (cuts r (drop k x))) u
    → d ≡ undone (down_step (take k x) cd ∷ []) b
    → a ≡ undone (ready_steps p) d
    → a ≡ undone (absorb_steps p r cd x) u
unfolding absorb_steps absorb_block_steps undo
absorb-undone p r k cd x u b d a q e eb ed ea =
    ea ∙ rw (ed, eb, blocks_step r k x q e)
    (sym (undone-append (ready_steps p) (down_step (take k x) cd ∷ block_steps 0 (cuts r (drop k x))) u))

-- ---- squeeze
-- all blocks of a squeeze are alike, so that any of them may be undone first
next-first : (k : ℕ) (ks : List ℕ) (u : Undo) → undone (next_steps ks) (undone (next_steps (k ∷ [])) u) ≡ undone (next_steps (k ∷ ks)) u
unfolding undo next_steps
next-first k [] u = refl
next-first k (j ∷ ks) u = ap (undone (down_step [] 0 ∷ up_step 0 ∷ [])) (next-first k ks u)

-- a turn of the loop undoes the block at i
pub more-turn : (i : ℕ) (ks : List ℕ) (u b a : Undo) → i < length ks
    → b ≡ undone (up_step 0 ∷ []) u
    → a ≡ undone (down_step [] 0 ∷ []) b
    → undone (next_steps (drop (i + 1) ks)) a ≡ undone (next_steps (drop i ks)) u
unfolding undo next_steps
more-turn i ks u b a h eb ea =
    ap (undone (next_steps (drop (i + 1) ks))) (ea ∙ ap (undone (down_step [] 0 ∷ [])) eb)
    ∙ next-first (get_or ks i 0) (drop (i + 1) ks) u
    ∙ ap (λ l. undone (next_steps l) u) (sym (drop_more ks i 0 h))

pub more-turned : (i : ℕ) (ks : List ℕ) (u : Undo) → length ks ≤ i → undone (next_steps (drop i ks)) u ≡ u
unfolding undo next_steps
more-turned i ks u h = ap (λ l. undone (next_steps l) u) (drop_all i ks h)

-- how many blocks they are
ceil-step : (r n : ℕ) → 0 < r → 0 < n → div_ceil n r ≡ suc (div_ceil (n - r) r)
ceil-step r n p h = split (ltb n r) refl where
  split : (b : Bool) → ltb n r ≡ b → div_ceil n r ≡ suc (div_ceil (n - r) r)
  split true e =
      let l : n < r = ltb-true n r e in
      let z : n - r ≡ 0 = omega arith in
      rw (z, div-eq_of_lt l, mod-eq_of_lt l, div-eq_of_lt p, mod-eq_of_lt p) (omega arith)
  split false e =
      let l : r ≤ n = ltb-false n r e in
      let d : n / r ≡ (n - r) / r + 1 = div-eq-sub-div p l in
      let m : n % r ≡ (n - r) % r = mod-eq-sub-mod l in
      omega arith

ceil-count : (f r n : ℕ) → 0 < r → n ≤ f → div_ceil n r ≡ block_count r n
unfolding block_count
ceil-count f r zero p h = rw (div-eq_of_lt p, mod-eq_of_lt p)
ceil-count zero r (suc n) p h = absurd (not-suc-le-zero h)
ceil-count (suc f) r (suc n) p h = ceil-step r (suc n) p (omega arith) ∙ ap suc (ceil-count f r (suc n - r) p (omega arith) ∙ count-step r n p)

pub more-count : (m : Mode) (n : ℕ) → div_ceil n (squeeze_rate m) ≡ length (sizes (squeeze_rate m) n)
more-count m n = let p = rate-pos m in ceil-count n (squeeze_rate m) n p (le_refl n) ∙ sym (sizes-count (squeeze_rate m) n p)

-- ---- the key call
pub given-none : (r : ℕ) (x : Option (Bor (List ℕ))) (u : Undo) → x ≡ None → u ≡ undone (given_steps r x) u
unfolding undo
given-none r x u e = rw e refl

-- the flags and slices of a key call, as its parts hold them: t, and the nonce and counter where they are absorbed
module _ (p : Phase) (key : List ℕ) (has_id : Bool) (id nonce : Bor (List ℕ)) (has_counter : Bool) (counter : Bor (List ℕ))
    {t : List ℕ} {beside count : Option (Bor (List ℕ))} (et : t ≡ chosen has_id id.now nonce.now) (eb : beside ≡ then_some has_id nonce) (ec : count ≡ then_some has_counter counter)
  where
    pub key-parts : absorb_steps p 44 2 (key_run key t) ++ (given_steps 44 beside ++ given_steps 1 count) ≡ key_steps p key has_id id.now nonce.now has_counter counter.now
    unfolding key_steps
    key-parts = rw (et, eb, ec) (by-case has_id has_counter) where
      by-case : (f g : Bool) → absorb_steps p 44 2 (key_run key (chosen f id.now nonce.now)) ++ (given_steps 44 (then_some f nonce) ++ given_steps 1 (then_some g counter))
          ≡ key_steps p key f id.now nonce.now g counter.now
      by-case true true = refl
      by-case true false = refl
      by-case false true = refl
      by-case false false = refl

pub chosen-length : (f : Bool) (x y : List ℕ) → length (chosen f x y) ≤ length x + length y
chosen-length true x y = omega arith
chosen-length false x y = omega arith
