-- A session as the caller holds it, 48 bytes and a head of six numbers, and the outcome of an exported call on it.
use Rattle.std.specs.Prelude.{Bool, true, false, List, [], ◌∷◌, ℕ, zero, suc, ltb, get_or}
use Rattle.xoodyak.specs.declared.cyclist.Mode.{Mode}
use Rattle.xoodyak.specs.declared.cyclist.Mode.TheVariants.{Hash, Keyed}
use Rattle.xoodyak.specs.declared.cyclist.Phase.{Phase}
use Rattle.xoodyak.specs.declared.cyclist.Phase.TheVariants.{Up, Down}
use Rattle.xoodyak.specs.declared.Rule.{Rule}
use Rattle.xoodyak.specs.declared.Rule.TheVariants.{Crate, Specification}
use Rattle.xoodyak.specs.declared.feed.Kind.{Kind}
use Rattle.xoodyak.specs.declared.feed.Kind.TheVariants.{Seal, Open}
use Rattle.xoodyak.specs.declared.Session.{Session}
use Rattle.xoodyak.specs.Calls.{Outcome, both}
use Rattle.xoodyak.specs.Feed.{Portion}

-- ---- the six numbers: mode, phase, rule, whether a message is begun, its kind, its place
abbrev pub mode_of : ℕ → Mode
mode_of zero = Hash
mode_of (suc _) = Keyed

abbrev pub phase_of : ℕ → Phase
phase_of zero = Up
phase_of (suc _) = Down

abbrev pub rule_of : ℕ → Rule
rule_of zero = Crate
rule_of (suc _) = Specification

abbrev pub flag_of : ℕ → Bool
flag_of zero = false
flag_of (suc _) = true

abbrev pub kind_of : ℕ → Kind
kind_of zero = Seal
kind_of (suc _) = Open

abbrev pub mode_no : Mode → ℕ
mode_no Hash = 0
mode_no Keyed = 1

abbrev pub phase_no : Phase → ℕ
phase_no Up = 0
phase_no Down = 1

abbrev pub rule_no : Rule → ℕ
rule_no Crate = 0
rule_no Specification = 1

abbrev pub flag_no : Bool → ℕ
flag_no true = 1
flag_no false = 0

abbrev pub kind_no : Kind → ℕ
kind_no Seal = 0
kind_no Open = 1

-- each number but the place is 0 or 1
unfoldable pub sound : List ℕ → Bool
sound head =
    both (ltb (get_or head 0 0) 2)
    (both (ltb (get_or head 1 0) 2) (both (ltb (get_or head 2 0) 2) (both (ltb (get_or head 3 0) 2) (ltb (get_or head 4 0) 2))))

-- and so is a number beside the head: a kind, a phase, or the flag of an optional argument
unfoldable pub sound_with : List ℕ → ℕ → Bool
sound_with head n = both (sound head) (ltb n 2)

-- and so are the flags of the three optional arguments of a key call, beside what else is sound
unfoldable pub with_flags : Bool → ℕ → ℕ → ℕ → Bool
with_flags ok a b c = both ok (both (ltb a 2) (both (ltb b 2) (ltb c 2)))

abbrev pub session_of : List ℕ → List ℕ → Session
session_of st head = record {
  duplex = record { st = st; mode = mode_of (get_or head 0 0); phase = phase_of (get_or head 1 0) };
  rule = rule_of (get_or head 2 0);
  message = record { begun = flag_of (get_or head 3 0); kind = kind_of (get_or head 4 0); place = get_or head 5 0 };
}

abbrev pub head_of : Session → List ℕ
head_of s =
    mode_no s.duplex.mode
    ∷ phase_no s.duplex.phase
    ∷ rule_no s.rule
    ∷ flag_no s.message.begun
    ∷ kind_no s.message.kind
    ∷ s.message.place
    ∷ []

-- ---- what an exported call answers and leaves in the caller's memory; the counts are bytes missing, bytes taken and permutations spent
pub record Exported : Type 0 where
  pub number : ℕ
  pub st : List ℕ
  pub head : List ℕ
  pub bytes : List ℕ
  pub tag : List ℕ
  pub counts : List ℕ

-- from soundness and the call's own outcome: 40, with nothing changed, where a number is not sound
abbrev pub answered : Bool → List ℕ → List ℕ → List ℕ → List ℕ → List ℕ → Portion → Exported
answered true st head bytes tag counts x =
    record { number = x.number; st = x.session.duplex.st; head = head_of x.session; bytes = x.bytes; tag = x.tag; counts = x.missing ∷ x.taken ∷ x.spent ∷ [] }
answered false st head bytes tag counts x = record { number = 40; st = st; head = head; bytes = bytes; tag = tag; counts = counts }

-- a call on the caller's session, with its memory as it is at entry: the lent buffer, the tag and the counts, empty where a call has none
unfoldable pub exported : Bool → List ℕ → List ℕ → List ℕ → List ℕ → List ℕ → (Session → Portion) → Exported
exported ok st head bytes tag counts call = answered ok st head bytes tag counts (call (session_of st head))

-- a call that is no feed counts no bytes taken
abbrev pub whole : Outcome → Portion
whole x =
    record { session = x.session; number = x.number; missing = x.missing; tag = x.tag; bytes = x.bytes; taken = 0; spent = x.spent }
