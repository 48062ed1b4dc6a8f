-- From the root on: the root of a question whose terms are formed is in order, and so is every state of its tree.
use Rattle.std.specs.Prelude.{ℕ, refl, List, [], ◌∷◌}
use Rattle.terms.specs.Lists.{All, none as All-none, both, All-map, any}
use Rattle.terms.specs.Term.{Term}
use Rattle.terms.specs.Formed.{Formed, Equation, sides, Question}
use Rattle.search.specs.State.{State, Node, dead, live, start}
use Rattle.search.specs.Children.{children}
use Rattle.search.specs.Run.{root}
use Rattle.invariants.proofs.Orderly.{named, Usable, UsableSides, Orderly}
use Rattle.invariants.proofs.Falling.{Falls, ends_dead, fewer_unbound, lighter, shorter}
use Rattle.invariants.proofs.JoinFalls.{children_fall}
use Rattle.invariants.specs.SolvedForm.{nothing_bound}

-- a dead end, or a state that has I
pub data Live (I : State → Type 0) : Node → Type 0 where
  is_dead : Live I dead
  is_live : {st : State} → I st → Live I (live st)

-- every term of a question is formed; all that the theorems ask of one
abbrev pub FormedQuestion : Question → Type 0
FormedQuestion q = All (Formed q.arities q.unknowns) (sides q.equations)

usable_start : {arities : List ℕ} {n : ℕ} {t : Term} → Formed arities n t → Usable arities n [] t
unfolding named any
usable_start f = record { formed = f; unbound = λ y o. refl }

sides_usable : {arities : List ℕ} {n : ℕ} (es : List Equation) → All (Formed arities n) (sides es) → All (UsableSides arities n []) es
unfolding sides
sides_usable [] All-none = All-none
sides_usable (e ∷ es) (both f (both g hs)) = both (record { left = usable_start f; right = usable_start g }) (sides_usable es hs)

pub start_orderly : (q : Question) → FormedQuestion q → Orderly q.arities (start q)
start_orderly q h = record { pending = sides_usable q.equations h; pile = All-none; bindings = All-none; solved = nothing_bound }

falls_orderly : {arities : List ℕ} {from : State} {k : Node} → Falls arities from k → Live (Orderly arities) k
falls_orderly ends_dead = is_dead
falls_orderly (fewer_unbound o _ _ _) = is_live o
falls_orderly (lighter o _ _ _) = is_live o
falls_orderly (shorter o _ _ _ _ _) = is_live o

pub orderly_children : {arities : List ℕ} (st : State) → Orderly arities st → All (Live (Orderly arities)) (children st)
orderly_children st o = All-map (λ k h. falls_orderly h) (children_fall st o)

pub root_orderly : (q : Question) → FormedQuestion q → Live (Orderly q.arities) (root q)
unfolding root
root_orderly q h = is_live (start_orderly q h)
