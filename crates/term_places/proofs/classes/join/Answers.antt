use native.Mathlib.Omega.{arith}
use Rattle.term_places.proofs.LabelsWritten.{all-relabelled}
use Rattle.term_places.proofs.classes.join.Goals as goal

pub returns : goal.returns
returns c = all-relabelled _ _ (omega (arith, c.loop-label.invariant.long)) c.loop-label.invariant
