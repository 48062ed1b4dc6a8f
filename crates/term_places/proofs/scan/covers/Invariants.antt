use Rattle.terms.specs.Term.{size}
use Rattle.term_places.specs.Places.{valued}
use Rattle.term_places.specs.Lent.{of}
use Rattle.term_places.proofs.Scanning.{Scanning}
use Rattle.term_places.proofs.scan.covers.Given as goal

abbrev pub invariant-loop-y : goal.invariant-loop-y
invariant-loop-y l = Scanning (of l.held) l.labels l.p l.q l.y

abbrev pub decreases-loop-y : goal.decreases-loop-y
decreases-loop-y l = size (valued (of l.held) l.y)
