-- What a function is told of a plane or a state that it takes: its words are below 2 ^ 32.
use mathlib.Core.List.{List}
use mir.Val.{Val}
use denote.Laws.{Is}
use denote.Struct.Declared as Declared
use borrow.Author.Rules.{rules}
use Rattle.xoodoo.specs.declared.round.Plane.{Plane}
use Rattle.xoodoo.specs.declared.round.State.{State}
use Rattle.xoodoo.specs.contracts.round.Plane as plane
use Rattle.xoodoo.specs.contracts.round.State as state
use Rattle.xoodoo.proofs.Planes.{Words, Good}

pub known-plane : (p : Plane) (vs : List Val) → Is (Declared.row plane.the_type) p vs → Words p
known-plane p vs h = record { w0 = search rules; w1 = search rules; w2 = search rules; w3 = search rules }

pub known : (s : State) (vs : List Val) → Is (Declared.row state.the_type) s vs → Good s
known s vs h =
    record {
      g0 = record { w0 = search rules; w1 = search rules; w2 = search rules; w3 = search rules };
      g1 = record { w0 = search rules; w1 = search rules; w2 = search rules; w3 = search rules };
      g2 = record { w0 = search rules; w1 = search rules; w2 = search rules; w3 = search rules };
    }
