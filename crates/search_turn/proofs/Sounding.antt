-- A state in order, over a table of arities and with few enough unknowns, is sound: its equations and its pile are formed over its unknowns.
use Prim.Native.Nat.{ℕ, ◌≤◌}
use mathlib.Core.List.{List}
use Rattle.terms.specs.Bounds.{edition_one}
use Rattle.checks.specs.Lent.{Table}
use Rattle.terms.specs.Lists.{All, none, both, All-map}
use Rattle.terms.specs.Formed.{Formed, Equation, sides}
use Rattle.terms.specs.Answers.{Binding}
use Rattle.terms.specs.Laws.FormedParts.{unknown_below}
use Rattle.search.specs.State.{State}
use Rattle.invariants.proofs.Orderly.{Orderly, UsableSides}
use Rattle.binding.specs.At.{Sound}

sides_formed : {arities : List ℕ} {n : ℕ} {bs : List Binding} {es : List Equation} → All (UsableSides arities n bs) es → All (Formed arities n) (sides es)
unfolding sides
sides_formed none = none
sides_formed (both u us) = both u.left.formed (both u.right.formed (sides_formed us))

pub sound : {arities : List ℕ} {st : State} → Table edition_one arities → st.next ≤ edition_one.path_unknowns → Orderly arities st → Sound arities st
unfolding edition_one
sound T few O = record {
  functors = T.functors;
  few = few;
  pending = sides_formed O.pending;
  pile = All-map (λ m u. u.term.formed) O.pile;
  names = All-map (λ m u. unknown_below u.name.formed) O.pile;
}
