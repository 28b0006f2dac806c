-- What it is for a promise to decide: any two results that it allows, from the same arguments, are equal. Said of the contract as the
-- toolchain reads it.
use mathlib.Core.Path.{◌≡◌, sym, ◌∙◌}
use mathlib.Core.List.{List}
use Prim.Native.Nat.{ℕ}
use contract.Lifetimes.{Lfts}
use borrow.Fn.Kinds.{ParamKind, ResultKind, Dens, Out, res_t, ended_of}
use denote.Triple.Clauses.{AtExit}

-- any two outcomes that the promise allows agree: in what `Same` says of the results and of the parameters at exit
abbrev pub Decides : (n : ℕ) (ps : List (ParamKind n)) (r : ResultKind n) → Out n ps r
    → ((κs : Lfts n) (x x' : (res_t r κs).Denot) (e e' : AtExit (ended_of n ps r) κs) → Type 0) → Type 0
Decides n ps r post Same =
    (κs : Lfts n) (a : Dens κs ps) (x x' : (res_t r κs).Denot) (e e' : AtExit (ended_of n ps r) κs) →
    post κs a x e →
    post κs a x' e' →
    Same κs x x' e e'

-- one equation that each outcome meets, or as many as its promise has clauses
pub once : {A : Type 0} {x y z : A} → x ≡ z → y ≡ z → x ≡ y
once p q = p ∙ sym q

pub twice : {A B : Type 0} {x y z : A} {u v w : B} → (x ≡ z) × (u ≡ w) → (y ≡ z) × (v ≡ w) → (x ≡ y) × (u ≡ v)
twice p q = (once p.0 q.0, once p.1 q.1)

pub thrice : {A B C : Type 0} {x y z : A} {u v w : B} {a b c : C}
    → (x ≡ z) × ((u ≡ w) × (a ≡ c)) → (y ≡ z) × ((v ≡ w) × (b ≡ c)) → (x ≡ y) × ((u ≡ v) × (a ≡ b))
thrice p q = (once p.0 q.0, twice p.1 q.1)

pub fourfold : {A B C D : Type 0} {x y z : A} {u v w : B} {a b c : C} {k l m : D}
    → (x ≡ z) × ((u ≡ w) × ((a ≡ c) × (k ≡ m)))
    → (y ≡ z) × ((v ≡ w) × ((b ≡ c) × (l ≡ m)))
    → (x ≡ y) × ((u ≡ v) × ((a ≡ b) × (k ≡ l)))
fourfold p q = (once p.0 q.0, thrice p.1 q.1)

pub fivefold : {A B C D E : Type 0} {x y z : A} {u v w : B} {a b c : C} {k l m : D} {f g h : E}
    → (x ≡ z) × ((u ≡ w) × ((a ≡ c) × ((k ≡ m) × (f ≡ h))))
    → (y ≡ z) × ((v ≡ w) × ((b ≡ c) × ((l ≡ m) × (g ≡ h))))
    → (x ≡ y) × ((u ≡ v) × ((a ≡ b) × ((k ≡ l) × (f ≡ g))))
fivefold p q = (once p.0 q.0, fourfold p.1 q.1)

pub sixfold : {A B C D E F : Type 0} {x y z : A} {u v w : B} {a b c : C} {k l m : D} {f g h : E} {r s t : F}
    → (x ≡ z) × ((u ≡ w) × ((a ≡ c) × ((k ≡ m) × ((f ≡ h) × (r ≡ t)))))
    → (y ≡ z) × ((v ≡ w) × ((b ≡ c) × ((l ≡ m) × ((g ≡ h) × (s ≡ t)))))
    → (x ≡ y) × ((u ≡ v) × ((a ≡ b) × ((k ≡ l) × ((f ≡ g) × (r ≡ s)))))
sixfold p q = (once p.0 q.0, fivefold p.1 q.1)
