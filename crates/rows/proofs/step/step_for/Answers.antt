use Rattle.rows.proofs.StepTests.{two_same, two_different, left-met, right-met, none_met}
use mathlib.Core.Path.{sym, ◌∙◌}
use Rattle.rows.proofs.step.step_for.Goals as goal

pub returns-in-true-true : goal.returns-in-true-true
returns-in-true-true c = two_same _ _ _ c.word_at-l.ensures c.word_at-r.ensures (sym c.in-true-true.ensures) (sym c.in-true-true.ensures') c.if-l-r.true

pub returns-in-true-true-2 : goal.returns-in-true-true-2
returns-in-true-true-2 c = two_different _ _ _ c.word_at-l.ensures c.word_at-r.ensures (sym c.in-true-true.ensures) (sym c.in-true-true.ensures') c.if-l-r.false

pub returns-in-true-false : goal.returns-in-true-false
returns-in-true-false c =
    c.meet.ensures
    ∙ rw (c.tails_by_words.ensures, c.word_of_kernel.ensures)
    (left-met _ _ _ c.word_at-l.ensures c.word_at-r.ensures (sym c.in-true-false.ensures) (sym c.in-true-false.ensures'))

pub returns-in-false-true : goal.returns-in-false-true
returns-in-false-true c =
    c.meet-in-false-true.ensures
    ∙ rw (c.tails_by_words-in-false-true.ensures, c.word_of_kernel-in-false-true.ensures)
    (right-met _ _ _ c.word_at-l.ensures c.word_at-r.ensures (sym c.in-false-true.ensures) (sym c.in-false-true.ensures'))

pub returns-in-false-false : goal.returns-in-false-false
returns-in-false-false c =
    c.compare.ensures ∙ none_met _ _ _ c.word_at-l.ensures c.word_at-r.ensures (sym c.in-false-false.ensures) (sym c.in-false-false.ensures')
