use mathlib.Core.Path.{◌≡◌}
use Rattle.terms.specs.Term.{size, kernel}
use Rattle.term_places.specs.Places.{valued, Known}
use Rattle.term_places.specs.Lent.{of}
use Rattle.term_places.proofs.places.Held.kernel.Given as goal

abbrev pub invariant-loop-x : goal.invariant-loop-x
invariant-loop-x l = Known (of l.self) l.x × (kernel (valued (of l.self) l.p) ≡ kernel (valued (of l.self) l.x))

abbrev pub decreases-loop-x : goal.decreases-loop-x
decreases-loop-x l = size (valued (of l.self) l.x)
