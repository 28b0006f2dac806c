-- A message handed over bit by bit: begun, fed within an allowance of permutations, finished.
use Rattle.std.specs.Prelude.{Bool, true, false, List, [], ◌∷◌, ◌++◌, ℕ, zero, suc, ◌+◌, ◌-◌, min, leb, ltb, length, get_or, drop}
use Rattle.laws.specs.Words.{◌⊕◌}
use Rattle.laws.specs.Lists.{add_at}
use Rattle.xoodyak.specs.declared.cyclist.Phase.TheVariants.{Down}
use Rattle.xoodyak.specs.declared.cyclist.Duplex.{Duplex}
use Rattle.xoodyak.specs.declared.Rule.{Rule}
use Rattle.xoodyak.specs.declared.Rule.TheVariants.{Crate, Specification}
use Rattle.xoodyak.specs.declared.feed.Kind.{Kind}
use Rattle.xoodyak.specs.declared.feed.Kind.TheVariants.{Seal, Open}
use Rattle.xoodyak.specs.declared.feed.Fed.{Fed}
use Rattle.xoodyak.specs.declared.feed.Finished.{Finished}
use Rattle.xoodyak.specs.declared.Session.{Session}
use Rattle.xoodyak.specs.declared.tag.Tag.{Tag}
use Rattle.xoodyak.specs.Cyclist.{up, down, squeeze_end, squeeze_out}
use Rattle.xoodyak.specs.Numbers.{first, mode_number, keyed_number, kind_number, room_number, missing}
use Rattle.xoodyak.specs.Calls.{Outcome, taken, settle, idle, no_tag, mode, both, same_bytes, tag_number}

-- The place in a message is 0 before its first byte, then the number of bytes in the block begun last: 24 where that is full, and any
-- greater number, which no call makes, counts as 24.

-- the block can take another byte
abbrev pub is_open : ℕ → Bool
is_open place = both (ltb 0 place) (ltb place 24)

-- what Down does after the block's bytes: 01, and colour 00
unfoldable pub close_block : ℕ → Duplex → Duplex
close_block place d = record { st = add_at d.st (min place 24) 1; mode = d.mode; phase = Down }

-- Up before a block's first byte: 80 for the first block of the message; else the one before is closed, and it is 00
unfoldable pub open_block : ℕ → Duplex → Duplex
open_block zero d = up d 0x80
open_block (suc place) d = up (close_block (suc place) d) 0

-- the plaintext of a byte that meets a byte of Up's answer
abbrev pub plain_of : Kind → ℕ → ℕ → ℕ
plain_of Seal b answer = b
plain_of Open b answer = b ⊕ answer

-- what Down does with one byte, which is the plaintext's
unfoldable pub put : Kind → ℕ → ℕ → Duplex → Duplex
put kind place b d =
    record { st = add_at d.st place (plain_of kind b (get_or d.st place 0)); mode = d.mode; phase = d.phase }

-- a byte of the output: the byte xor that of Up's answer
abbrev pub wrote : ℕ → ℕ → Duplex → ℕ
wrote place b d = b ⊕ get_or d.st place 0

-- a run of bytes inside one block: the end, and the output
unfoldable pub run_end : Kind → ℕ → Duplex → List ℕ → Duplex
run_end kind place d [] = d
run_end kind place d (b ∷ x) = run_end kind (suc place) (put kind place b d) x

unfoldable pub run_out : Kind → ℕ → Duplex → List ℕ → List ℕ
run_out kind place d [] = []
run_out kind place d (b ∷ x) = wrote place b d ∷ run_out kind (suc place) (put kind place b d) x

-- where a feed stands: the duplex, the place, the Up steps made and the bytes written, one for each byte taken
pub record Progress : Type 0 where
  pub duplex : Duplex
  pub place : ℕ
  pub spent : ℕ
  pub bytes : List ℕ

abbrev pub stands : ℕ → Duplex → Progress
stands place d = record { duplex = d; place = place; spent = 0; bytes = [] }

-- before a byte, from whether the block begun last can take it: the Up steps made, its place in its block, and the duplex then
abbrev pub ups_before : Bool → ℕ
ups_before true = 0
ups_before false = 1

abbrev pub place_in : Bool → ℕ → ℕ
place_in true place = place
place_in false place = 0

abbrev pub block_for : Bool → ℕ → Duplex → Duplex
block_for true place d = d
block_for false place d = open_block place d

-- a byte written after so many Up steps, and what follows
abbrev pub and_then : ℕ → ℕ → Progress → Progress
and_then ups b f = record { duplex = f.duplex; place = f.place; spent = ups + f.spent; bytes = b ∷ f.bytes }

abbrev pub within : Bool → Progress → Progress → Progress
within true f g = f
within false f g = g

-- byte by byte, until none is left or another Up is needed than the allowance has
unfoldable pub feed : Kind → ℕ → ℕ → Duplex → List ℕ → Progress
feed kind allowance place d [] = stands place d
feed kind allowance place d (b ∷ x) =
    let ups = ups_before (is_open place) in
    let at = place_in (is_open place) place in
    let e = block_for (is_open place) place d in
    within (leb ups allowance)
    (and_then ups (wrote at b e) (feed kind (allowance - ups) (suc at) (put kind at b e) x))
    (stands place d)

-- the end of the message: its last block is closed; one with no bytes has the empty block under the specification's rule
unfoldable pub end_block : Rule → ℕ → Duplex → Duplex
end_block Crate zero d = d
end_block Specification zero d = down (up d 0x80) [] 0
end_block rule (suc place) d = close_block (suc place) d

-- the Up steps of that
unfoldable pub end_ups : Rule → ℕ → ℕ
end_ups Crate zero = 0
end_ups Specification zero = 1
end_ups rule (suc place) = 0

-- ---- the calls
-- a call's outcome, with the bytes taken and the Up steps made
pub record Portion : Type 0 where
  pub session : Session
  pub number : ℕ
  pub missing : ℕ
  pub tag : List ℕ
  pub bytes : List ℕ
  pub taken : ℕ
  pub spent : ℕ

-- what the code hands back of it
abbrev pub fed_of : Portion → Fed
fed_of x = record { session = x.session; number = x.number; missing = x.missing; taken = x.taken; spent = x.spent }

abbrev pub finished_of : Portion → Finished
finished_of x = record { session = x.session; number = x.number; tag = record { bytes = x.tag }; spent = x.spent }

-- refused with the number given, or what the call does where it is 0
abbrev pub portioned : ℕ → ℕ → Session → List ℕ → Portion → Portion
portioned zero k s o x = x
portioned (suc n) k s o x = record { session = s; number = suc n; missing = k; tag = no_tag; bytes = o; taken = 0; spent = 0 }

unfoldable pub begin_of : Kind → Session → Outcome
begin_of kind s =
    settle (keyed_number s) 0 s []
    (taken (record { duplex = s.duplex; rule = s.rule; message = record { begun = true; kind = kind; place = 0 } }) no_tag [] 0)

-- 7, then 1, then 3; bytes past those taken keep what they held
unfoldable pub feed_of : Kind → Session → List ℕ → List ℕ → ℕ → Portion
feed_of kind s o x allowance =
    let n = first (kind_number kind s) (first (mode_number (mode s)) (room_number (length o) (length x))) in
    let f = feed kind allowance s.message.place s.duplex x in
    portioned n (missing n (length o) (length x)) s o (record {
      session = record { duplex = f.duplex; rule = s.rule; message = record { begun = true; kind = kind; place = f.place } };
      number = 0;
      missing = 0;
      tag = no_tag;
      bytes = f.bytes ++ drop (length f.bytes) o;
      taken = length f.bytes;
      spent = f.spent;
    })

-- the message's end, and the session past the tag, with the message over
unfoldable pub ended : Session → Duplex
ended s = end_block s.rule s.message.place s.duplex

unfoldable pub past_tag : Session → Session
past_tag s = record { duplex = squeeze_end (ended s) 16 0x40; rule = s.rule; message = idle }

-- the Up steps of a finish: those of the end, and one for the tag
unfoldable pub finish_ups : Session → ℕ
finish_ups s = end_ups s.rule s.message.place + 1

unfoldable pub finish_seal_of : Session → Portion
finish_seal_of s =
    portioned (first (kind_number Seal s) (mode_number (mode s))) 0 s [] (record {
      session = past_tag s;
      number = 0;
      missing = 0;
      tag = squeeze_out (ended s) 16 0x40;
      bytes = [];
      taken = 0;
      spent = finish_ups s;
    })

-- 4 where the tag differs: the session stands past the tag all the same
unfoldable pub finish_open_of : Session → Tag → Portion
finish_open_of s t =
    portioned (first (kind_number Open s) (mode_number (mode s))) 0 s [] (record {
      session = past_tag s;
      number = tag_number (same_bytes (squeeze_out (ended s) 16 0x40) t.bytes);
      missing = 0;
      tag = no_tag;
      bytes = [];
      taken = 0;
      spent = finish_ups s;
    })
