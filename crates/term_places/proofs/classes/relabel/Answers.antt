use mathlib.Core.Path.{sym}
use Rattle.term_places.proofs.LabelsWritten.{relabel-yes, relabel_no}
use Rattle.term_places.proofs.classes.relabel.Goals as goal

pub returns-then-label-old : goal.returns-then-label-old
returns-then-label-old c = sym (relabel-yes _ _ _ c.if-label-old.true)

pub returns : goal.returns
returns c = sym (relabel_no _ _ _ c.if-label-old.false)
