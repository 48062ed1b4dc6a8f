use Rattle.rows.proofs.StepTests.{met_absent, met_nowhere, met_as_tail, met_inside}
use mathlib.Core.Path.{sym, ◌∙◌}
use Rattle.rows.proofs.step.meet.Goals as goal

pub returns-then-not-is_in : goal.returns-then-not-is_in
returns-then-not-is_in c = met_absent _ _ _ _ _ c.is_in.ensures c.if-not-is_in.true

pub returns-in-Absent : goal.returns-in-Absent
returns-in-Absent c = met_nowhere _ _ _ _ (sym c.find_unknown.ensures ∙ c.in-Absent.is)

pub returns-in-Tail : goal.returns-in-Tail
returns-in-Tail c = met_as_tail _ _ _ _ (sym c.find_unknown.ensures ∙ c.in-Tail.is)

pub returns-in-Inside : goal.returns-in-Inside
returns-in-Inside c = met_inside _ _ _ _ (sym c.find_unknown.ensures ∙ c.in-Inside.is)
