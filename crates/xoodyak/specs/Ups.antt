-- The Up steps that each definition of Cyclist makes, counted along its own course.
use Rattle.std.specs.Prelude.{Bool, true, false, List, [], ◌∷◌, ◌++◌, ℕ, suc, ◌+◌, ◌-◌, length}
use Rattle.laws.specs.Lists.{add_front}
use Rattle.laws.specs.Blocks.{cuts, blocks, sizes}
use Rattle.xoodyak.specs.declared.cyclist.Phase.{Phase}
use Rattle.xoodyak.specs.declared.cyclist.Phase.TheVariants.{Up, Down}
use Rattle.xoodyak.specs.declared.cyclist.Duplex.{Duplex}
use Rattle.xoodyak.specs.Cyclist.{squeeze_rate, up, down, ready, next, absorb, squeeze_end, squeeze_out, chosen, if_given}

-- ready: one unless the phase is Up
abbrev pub ready_ups : Phase → ℕ
ready_ups Up = 0
ready_ups Down = 1

unfoldable pub absorb_blocks_ups : List (List ℕ) → ℕ → Duplex → ℕ
absorb_blocks_ups [] cd d = 0
absorb_blocks_ups (b ∷ bs) cd d = ready_ups d.phase + absorb_blocks_ups bs 0 (down (ready d) b cd)

unfoldable pub absorb_ups : ℕ → ℕ → Duplex → List ℕ → ℕ
absorb_ups r cd d x = absorb_blocks_ups (blocks r x) cd d

unfoldable pub more_blocks_ups : List (List ℕ) → Duplex → ℕ
more_blocks_ups [] d = 0
more_blocks_ups (b ∷ bs) d = suc (more_blocks_ups bs (down (up d 0) b 0))

unfoldable pub absorb_more_ups : ℕ → Duplex → List ℕ → ℕ
absorb_more_ups r d x = more_blocks_ups (cuts r x) d

unfoldable pub nexts_ups : List ℕ → Duplex → ℕ
nexts_ups [] d = 0
nexts_ups (k ∷ ks) d = suc (nexts_ups ks (next d))

unfoldable pub squeeze_more_ups : Duplex → ℕ → ℕ
squeeze_more_ups d n = nexts_ups (sizes (squeeze_rate d.mode) n) d

unfoldable pub squeeze_ups : Duplex → ℕ → ℕ → ℕ
squeeze_ups d n cu = suc (squeeze_more_ups (up d cu) (n - squeeze_rate d.mode))

unfoldable pub enc_ups : List (List ℕ) → ℕ → Duplex → ℕ
enc_ups [] cu d = 0
enc_ups (b ∷ bs) cu d = suc (enc_ups bs 0 (down (up d cu) b 0))

unfoldable pub dec_ups : List (List ℕ) → ℕ → Duplex → ℕ
dec_ups [] cu d = 0
dec_ups (b ∷ bs) cu d = suc (dec_ups bs 0 (down (up d cu) (add_front b (up d cu).st) 0))

unfoldable pub ratchet_ups : Duplex → ℕ
ratchet_ups d = squeeze_ups d 16 0x10 + absorb_ups 16 0 (squeeze_end d 16 0x10) (squeeze_out d 16 0x10)

abbrev pub if_given_ups : Bool → ℕ → ℕ
if_given_ups true n = n
if_given_ups false n = 0

unfoldable pub key_call_ups : Duplex → List ℕ → Bool → List ℕ → List ℕ → Bool → List ℕ → ℕ
key_call_ups d key has_id id nonce has_counter counter =
    let t = chosen has_id id nonce in
    let a = absorb 44 2 d (key ++ (t ++ (length t ∷ []))) in
    let b = if_given has_id (absorb 44 0 a nonce) a in
    absorb_ups 44 2 d (key ++ (t ++ (length t ∷ []))) + (if_given_ups has_id (absorb_ups 44 0 a nonce) + if_given_ups has_counter (absorb_ups 1 0 b counter))
