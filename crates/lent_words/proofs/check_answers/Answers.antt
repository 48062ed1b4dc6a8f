-- `lent_words::check_answers` meets its contract: the test of the functor table decides between the two cases of `check_answers`.
use mathlib.Core.Path.{sym, ◌∙◌}
use Rattle.terms.specs.Bounds.{edition_one}
use Rattle.checks.specs.Check.{check_answers, above}
use Rattle.lent_words.proofs.check_answers.Goals as goal

pub returns-then-above_limits : goal.returns-then-above_limits
unfolding check_answers above edition_one
returns-then-above_limits c = simp (sym c.above_limits.ensures ∙ c.if-above_limits.true)

pub returns : goal.returns
unfolding check_answers above edition_one
returns c = c.check_words.ensures ∙ simp (sym c.above_limits.ensures ∙ c.if-above_limits.false)
