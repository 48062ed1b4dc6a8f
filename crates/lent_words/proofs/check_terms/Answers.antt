-- `lent_words::check_terms` meets its contract: the test of the length decides between the two cases of `check_terms`.
use mathlib.Core.Path.{◌∙◌}
use borrow.Author.Tests.{lt-ltb, le-ltb}
use Rattle.terms.specs.Bounds.{edition_one}
use Rattle.checks.specs.Check.{check_terms, above}
use Rattle.lent_words.proofs.check_terms.Goals as goal

pub returns-then-words-gt-SYMBOLS : goal.returns-then-words-gt-SYMBOLS
unfolding check_terms above edition_one
returns-then-words-gt-SYMBOLS c = simp (lt-ltb _ _ c.if-words-gt-SYMBOLS.true)

pub returns : goal.returns
unfolding check_terms above edition_one
returns c = c.check_words.ensures ∙ simp (le-ltb _ _ c.if-words-gt-SYMBOLS.false)
