use mathlib.Core.Path.{sym, ap, ◌∙◌}
use native.Mathlib.Omega.{arith}
use Rattle.terms.specs.Bounds.{edition_one}
use Rattle.terms.specs.Kind.{unknown_told}
use Rattle.term_places.specs.Places.{on_to, resolved}
use Rattle.term_places.proofs.Staying.{stays}
use Rattle.term_places.proofs.places.Held.resolve.Goals as goal

pub bounds-self-from : goal.bounds-self-from
unfolding edition_one
bounds-self-from c =
    let u = unknown_told edition_one (sym c.in-Unknown.is ∙ c.kind_of.ensures) in
    let v = c.requires.valued (omega (arith, u.0)) (omega (arith, u.0, u.1)) in
    omega (arith, u.0, v, c.from.ensures)

pub returns-in-Unknown : goal.returns-in-Unknown
unfolding resolved on_to
returns-in-Unknown c =
    c.from-in-Unknown.ensures ∙ rw c.from.ensures (sym (ap (on_to _ _) (sym c.kind_of.ensures ∙ c.in-Unknown.is)))

pub returns-in-Empty : goal.returns-in-Empty
unfolding resolved
returns-in-Empty c = sym (ap (on_to _ _) (sym c.kind_of.ensures) ∙ stays _ _ _ c.in-Empty.is)
