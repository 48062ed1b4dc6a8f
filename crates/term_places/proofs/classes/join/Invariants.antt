use lib.ListN.{get_or}
use Rattle.term_places.specs.Classes.{relabel}
use Rattle.term_places.proofs.LabelsWritten.{Written}
use Rattle.term_places.proofs.classes.join.Given as goal

abbrev pub invariant-loop-label : goal.invariant-loop-label
invariant-loop-label l = Written (λ i. relabel l.old l.new (get_or l.initial.labels i 0)) l.initial.labels l.label-index l.labels
