-- One turn of each loop over blocks, and its end: the definition applied to what is left stays the same.
use mathlib.Core.Path.{◌≡◌, refl, sym, ap, ◌∙◌}
use mathlib.Core.List.{List, [], ◌∷◌, ◌++◌, append_assoc, append-nil}
use Prim.Native.Nat.{ℕ, ◌+◌, ◌-◌, ◌<◌, ◌≤◌, min}
use native.Mathlib.Omega.{arith}
use lib.Dec.{lit<, lit≤}
use lib.ListN.{length, set, take, drop, length-append, length-drop}
use lib.Seq.{take_all, take_at, drop_at, take-suc-set}
use native.Mathlib.Numerals.{add-one}
use borrow.Rule.Slice.PartMut.{put_mid, drop_put, same_len_mid}
use Rattle.laws.specs.Lists.{add_front, add_at}
use Rattle.laws.specs.Blocks.{cuts, sizes}
use Rattle.laws.proofs.Lists.{length-add_front, length-mid, take-put-end}
use Rattle.laws.proofs.Blocks.{cuts-step, cuts-nil, turn, turned, blocks_step, sizes_step, turn-sizes, sizes-zero, sub-min}
use Rattle.xoodoo.specs.Xoodoo.{xoodoo}
use Rattle.xoodyak.specs.declared.cyclist.Mode.{Mode}
use Rattle.xoodyak.specs.declared.cyclist.Mode.TheVariants.{Hash, Keyed}
use Rattle.xoodyak.specs.declared.cyclist.Phase.TheVariants.{Up, Down}
use Rattle.xoodyak.specs.declared.cyclist.Duplex.{Duplex}
use Rattle.xoodyak.specs.Cyclist.{squeeze_rate, up_colour, up, down, ready, absorb_blocks, absorb, more_blocks, next, nexts_end, nexts_out, squeeze_more_end, squeeze_more_out, squeeze_end, squeeze_out, enc_end, enc_out, dec_end, dec_out}
use Rattle.xoodyak.proofs.BlockWords.{held, up_is, down_is, down-up, up-coloured}

-- ---- the block that an iterator takes off the front
cuts-front : (r : ℕ) (x y z : List ℕ) → 0 < r → x ≡ y ++ z → length y ≡ min r (length x) → 0 < length x → cuts r x ≡ y ∷ cuts r z
cuts-front r x y z p e l h = cuts-step r x (length y) p h l ∙ rw (e, take_at y z (length y) refl, drop_at y z (length y) refl) refl

-- ---- absorb_more
pub more-start : (r : ℕ) (x : List ℕ) (d : Duplex) → 0 < r → 0 < length x → more_blocks (cuts r x) (held Down d.mode d.st) ≡ more_blocks (cuts r x) d
unfolding more_blocks up
more-start r x d h l = rw (cuts-step r x _ h l refl)

pub more_turn : (r : ℕ) (m : Mode) (x y z s t : List ℕ) → 0 < r → x ≡ y ++ z → length y ≡ min r (length x) → 0 < length x
    → t ≡ add_at (add_front (xoodoo s) y) (length y) 1
    → more_blocks (cuts r z) (held Down m t) ≡ more_blocks (cuts r x) (held Down m s)
unfolding more_blocks
more_turn r m x y z s t p e l h et =
    rw (cuts-front r x y z p e l h) (ap (more_blocks (cuts r z)) (sym (down-up m s y t et)))

pub more-done : (r : ℕ) (x : List ℕ) (s : Duplex) → length x ≤ 0 → more_blocks (cuts r x) s ≡ s
unfolding more_blocks
more-done r x s h = rw (cuts-nil r x h)

-- ---- absorb: the first block, then the rest as absorb_more
more-is : (bs : List (List ℕ)) (s : Duplex) → s.phase ≡ Down → absorb_blocks bs 0 s ≡ more_blocks bs s
unfolding absorb_blocks more_blocks ready down
more-is [] s e = refl
more-is (b ∷ bs) s e = more-is bs (down (ready s) b 0) refl ∙ rw e

pub absorb-is : (r k cd : ℕ) (s : Duplex) (x : List ℕ) → 0 < r → k ≡ min r (length x)
    → more_blocks (cuts r (drop k x)) (down (ready s) (take k x) cd) ≡ absorb r cd s x
unfolding absorb absorb_blocks down
absorb-is r k cd s x p e = rw (blocks_step r k x p e) (sym (more-is (cuts r (drop k x)) _ refl))

-- ---- squeeze_more
pub nexts-start-end : (r n : ℕ) (d : Duplex) → 0 < r → 0 < n → nexts_end (sizes r n) (held Up d.mode d.st) ≡ nexts_end (sizes r n) d
unfolding nexts_end next up down
nexts-start-end r n d h l = rw (sizes_step r n _ h l refl)

pub nexts-start-out : (r n : ℕ) (d : Duplex) → 0 < r → 0 < n → nexts_out (sizes r n) (held Up d.mode d.st) ≡ nexts_out (sizes r n) d
unfolding nexts_out next up down
nexts-start-out r n d h l = rw (sizes_step r n _ h l refl)

module _ (r n i e : ℕ) (x y : List ℕ) (s t : Duplex) (p : 0 < r) (ln : length x ≡ n) (h : i < n) (q : e ≡ i + min r (n - i)) (et : t ≡ next s) (ey : y ≡ take (e - i) t.st) (ly : length y ≡ e - i) where
  pub nexts-turn-end : nexts_end (sizes r (n - e)) t ≡ nexts_end (sizes r (n - i)) s
  unfolding nexts_end
  nexts-turn-end = rw (et, turn-sizes r i e n p h q)

  pub nexts-turn-out : take e (put_mid i (e - i) x y) ++ nexts_out (sizes r (n - e)) t ≡ take i x ++ nexts_out (sizes r (n - i)) s
  unfolding nexts_out
  nexts-turn-out = rw (take-put-end i e x y (omega arith) (omega arith) ly, turn-sizes r i e n p h q, append_assoc, ey, et)

pub nexts-done-end : (r n i : ℕ) (s : Duplex) → n ≤ i → nexts_end (sizes r (n - i)) s ≡ s
unfolding nexts_end
nexts-done-end r n i s h = rw (sizes-zero r (n - i) (omega arith))

pub nexts-done-out : (r n i : ℕ) (x : List ℕ) (s : Duplex) → n ≤ i → length x ≡ n → take i x ++ nexts_out (sizes r (n - i)) s ≡ x
unfolding nexts_out
nexts-done-out r n i x s h g = let l : length x ≤ i = omega arith in rw (sizes-zero r (n - i) (omega arith), append-nil, take_all)

pub rate-pos : (m : Mode) → 0 < squeeze_rate m
rate-pos Hash = lit< tt
rate-pos Keyed = lit< tt

pub rate-le : (m : Mode) → squeeze_rate m ≤ 24
rate-le Hash = lit≤ tt
rate-le Keyed = lit≤ tt

-- ---- squeeze: the first rate, then squeeze_more
module _ (s t : Duplex) (n k m cu : ℕ) (e : k ≡ min (squeeze_rate s.mode) n) (em : m ≡ n - k) (et : t ≡ up s cu) where
  pub squeeze-end-is : squeeze_more_end t m ≡ squeeze_end s n cu
  unfolding squeeze_end
  squeeze-end-is = rw (em, et, e, sub-min)

  pub squeeze-out-is : take k t.st ++ squeeze_more_out t m ≡ squeeze_out s n cu
  unfolding squeeze_out
  squeeze-out-is = rw (em, et, e, sub-min)

-- ---- encryption and decryption: End and Out fold over blocks, and Text says what goes into Down
pub record Crypts (End : List (List ℕ) → ℕ → Duplex → Duplex) (Out : List (List ℕ) → ℕ → Duplex → List ℕ) (Text : List ℕ → List ℕ → List ℕ) : Type 0 where
  text-length : (b k : List ℕ) → length (Text b k) ≡ length b
  end-nil : (cu : ℕ) (d : Duplex) → End [] cu d ≡ d
  out-nil : (cu : ℕ) (d : Duplex) → Out [] cu d ≡ []
  end-cons : (b : List ℕ) (bs : List (List ℕ)) (cu : ℕ) (d : Duplex) → End (b ∷ bs) cu d ≡ End bs 0 (down (up d cu) (Text b (up d cu).st) 0)
  out-cons : (b : List ℕ) (bs : List (List ℕ)) (cu : ℕ) (d : Duplex) → Out (b ∷ bs) cu d ≡ add_front b (up d cu).st ++ Out bs 0 (down (up d cu) (Text b (up d cu).st) 0)

pub encrypts : Crypts enc_end enc_out (λ b k. b)
unfolding enc_end enc_out
encrypts = record { text-length = λ b k. refl; end-nil = λ cu d. refl; out-nil = λ cu d. refl; end-cons = λ b bs cu d. refl; out-cons = λ b bs cu d. refl }

pub decrypts : Crypts dec_end dec_out add_front
unfolding dec_end dec_out
decrypts = record { text-length = length-add_front; end-nil = λ cu d. refl; out-nil = λ cu d. refl; end-cons = λ b bs cu d. refl; out-cons = λ b bs cu d. refl }

module _
    {End : List (List ℕ) → ℕ → Duplex → Duplex}
    {Out : List (List ℕ) → ℕ → Duplex → List ℕ}
    {Text : List ℕ → List ℕ → List ℕ}
    (c : Crypts End Out Text)
  where
    -- the first Up's colour, added before it
    module _ (x s : List ℕ) (d : Duplex) (cu : ℕ) (h : 0 < length x) (es : s ≡ up_colour d.mode cu d.st) where
      pub crypt-start-end : End (cuts 24 x) 0 (held Down d.mode s) ≡ End (cuts 24 x) cu d
      crypt-start-end = rw (cuts-step 24 x _ (lit< tt) h refl, c.end-cons, c.end-cons, up-coloured d s cu es)

      pub crypt-start-out : Out (cuts 24 x) 0 (held Down d.mode s) ≡ Out (cuts 24 x) cu d
      crypt-start-out = rw (cuts-step 24 x _ (lit< tt) h refl, c.out-cons, c.out-cons, up-coloured d s cu es)

    module _ (m : Mode) (i e : ℕ) (x y s t : List ℕ) (h : i < length x) (q : e ≡ i + min 24 (length x - i))
        (et : t ≡ add_at (add_front (xoodoo s) (Text (take (e - i) (drop i x)) (xoodoo s))) (length (take (e - i) (drop i x))) 1)
        (ey : y ≡ add_front (take (e - i) (drop i x)) (xoodoo s))
      where
        len-y : length y ≡ e - i
        len-y = ap length ey ∙ simp length-add_front (length-mid i e x (omega arith))

        turned-to : down (up (held Down m s) 0) (Text (take (e - i) (drop i x)) (up (held Down m s) 0).st) 0 ≡ held Down m t
        turned-to = rw (up_is m s, down_is m (xoodoo s), c.text-length, et)

        pub crypt-turn-end : End (cuts 24 (drop e (put_mid i (e - i) x y))) 0 (held Down m t) ≡ End (cuts 24 (drop i x)) 0 (held Down m s)
        crypt-turn-end = rw (drop_put i e x y (omega arith) (omega arith) len-y, turn 24 i e x (lit< tt) h q, c.end-cons, turned-to)

        pub crypt-turn-out : take e (put_mid i (e - i) x y) ++ Out (cuts 24 (drop e (put_mid i (e - i) x y))) 0 (held Down m t) ≡ take i x ++ Out (cuts 24 (drop i x)) 0 (held Down m s)
        crypt-turn-out =
            rw (drop_put i e x y (omega arith) (omega arith) len-y, take-put-end i e x y (omega arith) (omega arith) len-y, turn 24 i e x (lit< tt) h q, c.out-cons, append_assoc, turned-to, up_is m s, ey)

    pub crypt-done-end : (i cu : ℕ) (x : List ℕ) (s : Duplex) → length x ≤ i → End (cuts 24 (drop i x)) cu s ≡ s
    crypt-done-end i cu x s h = rw (turned 24 i x h, c.end-nil)

    pub crypt-done-out : (i cu : ℕ) (x : List ℕ) (s : Duplex) → length x ≤ i → take i x ++ Out (cuts 24 (drop i x)) cu s ≡ x
    crypt-done-out i cu x s h = rw (turned 24 i x h, c.out-nil, append-nil, take_all)

-- ---- key, t and the length of t, as they are written into iv one after the other
pub iv-is : (key t iv w1 w2 : List ℕ) → length key + 1 + length t ≤ length iv → w1 ≡ key → w2 ≡ t
    → take (length key + length t + 1) (set (put_mid (length key) (length key + length t - length key) (w1 ++ drop (length key) iv) w2) (length key + length t) (length t)) ≡ key ++ (t ++ (length t ∷ []))
iv-is key t iv w1 w2 h p q =
    let e = length key + length t in
    let w = key ++ drop (length key) iv in
    let lw : length w ≡ length iv = length-append key (drop (length key) iv) ∙ rw length-drop (omega arith) in
    let x = put_mid (length key) (e - length key) w t in
    let lt : length t ≡ e - length key = omega arith in
    let lx : length x ≡ length w = same_len_mid (length key) (e - length key) w t (lt ∙ sym (length-mid (length key) e w (omega arith))) in
    rw (p, q, add-one)
    (take-suc-set x e (length t) (omega arith)
    ∙ rw (take-put-end (length key) e w t (omega arith) (omega arith) lt, take_at key (drop (length key) iv) (length key) refl, append_assoc))
