use Rattle.terms.specs.Term.{size}
use Rattle.term_places.specs.Places.{valued}
use Rattle.term_places.specs.Lent.{of}
use Rattle.term_places.proofs.Scanning.{Covering}
use Rattle.term_places.proofs.scan.covered.Given as goal

abbrev pub invariant-loop-x : goal.invariant-loop-x
invariant-loop-x l = Covering (of l.held) l.labels l.p l.m l.x

abbrev pub decreases-loop-x : goal.decreases-loop-x
decreases-loop-x l = size (valued (of l.held) l.x)
