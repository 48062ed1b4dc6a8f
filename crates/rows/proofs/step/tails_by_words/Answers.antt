use Rattle.rows.proofs.StepTests.{tails-told}
use Rattle.search.specs.Classify.{tails_by}
use borrow.Author.Tests.{eq-eqb, ne_eqb}
use mathlib.Core.Path.{refl, sym}
use Rattle.rows.proofs.step.tails_by_words.Goals as goal

pub returns-in-true-true : goal.returns-in-true-true
unfolding tails_by
returns-in-true-true c = tails-told _ _ (sym c.in-true-true.ensures) (sym c.in-true-true.ensures') (eq-eqb _ _ c.if-left-right.true)

pub returns-in-true-true-2 : goal.returns-in-true-true-2
unfolding tails_by
returns-in-true-true-2 c = tails-told _ _ (sym c.in-true-true.ensures) (sym c.in-true-true.ensures') (ne_eqb _ _ c.if-left-right.false)

pub returns-in-true-false : goal.returns-in-true-false
unfolding tails_by
returns-in-true-false c = tails-told _ _ (sym c.in-true-false.ensures) (sym c.in-true-false.ensures') refl

pub returns-in-false-true : goal.returns-in-false-true
unfolding tails_by
returns-in-false-true c = tails-told _ _ (sym c.in-false-true.ensures) (sym c.in-false-true.ensures') refl

pub returns-in-false-false : goal.returns-in-false-false
unfolding tails_by
returns-in-false-false c = tails-told _ _ (sym c.in-false-false.ensures) (sym c.in-false-false.ensures') refl
