use Rattle.rows.specs.Terms.Ended.{term_end-one}
use mathlib.Core.Path.{sym, ◌∙◌}
use Rattle.rows.proofs.walk.end_of_term.Goals as goal

pub returns-then-terms_after-eq0 : goal.returns-then-terms_after-eq0
returns-then-terms_after-eq0 c = sym (term_end-one _ _ _ c.if-words-gt0.true (sym c.terms_after.ensures ∙ c.if-terms_after-eq0.true))
