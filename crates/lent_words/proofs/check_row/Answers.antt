-- `lent_words::check_row` meets its contract: the test of the functor table decides between the two cases of `check_row`.
use mathlib.Core.Path.{sym, ◌∙◌}
use Rattle.terms.specs.Bounds.{edition_one}
use Rattle.checks.specs.Check.{check_row, above}
use Rattle.lent_words.proofs.check_row.Goals as goal

pub returns-then-above_limits : goal.returns-then-above_limits
unfolding check_row above edition_one
returns-then-above_limits c = simp (sym c.above_limits.ensures ∙ c.if-above_limits.true)

pub returns : goal.returns
unfolding check_row above edition_one
returns c = c.check_terms.ensures ∙ simp (sym c.above_limits.ensures ∙ c.if-above_limits.false)
