use Rattle.term_places.proofs.LabelsWritten.{Written}
use Rattle.term_places.proofs.classes.number.Given as goal

abbrev pub invariant-loop-p : goal.invariant-loop-p
invariant-loop-p l = Written (λ i. i) l.initial.labels l.p l.labels
