use Rattle.rows.proofs.Firsts.{subject-left, subject-right}
use mathlib.Core.Path.{sym, ◌∙◌}
use Rattle.rows.proofs.first.subject_of.Goals as goal

pub returns-then-is_unknown : goal.returns-then-is_unknown
returns-then-is_unknown c = subject-left _ _ _ _ c.word_at-l.ensures (sym c.is_unknown.ensures ∙ c.if-is_unknown.true)

pub returns : goal.returns
returns c = subject-right _ _ _ _ c.word_at-l.ensures (sym c.is_unknown.ensures ∙ c.if-is_unknown.false) c.word_at-x.ensures
