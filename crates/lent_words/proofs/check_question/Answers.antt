-- `lent_words::check_question` meets its contract: the three tests of counts are the parts of `counts_above`.
use Rattle.std.proofs.Common.{sym, ◌∙◌, lt-ltb, le-ltb}
use Rattle.terms.specs.Bounds.{edition_one}
use Rattle.checks.specs.Check.{check_question, counts_above, above}
use Rattle.lent_words.proofs.check_question.Goals as goal
use Rattle.lent_words.proofs.check_question.Goals.{then-unknowns-gt-UNKNOWNS-via-then-unknowns-gt-UNKNOWNS, then-unknowns-gt-UNKNOWNS-via-else-unknowns-gt-UNKNOWNS+then-above_limits, then-unknowns-gt-UNKNOWNS-via-else-unknowns-gt-UNKNOWNS+else-above_limits+then-equations-gt-EQUATIONS}

pub returns-then-unknowns-gt-UNKNOWNS : goal.returns-then-unknowns-gt-UNKNOWNS
unfolding check_question counts_above above edition_one
returns-then-unknowns-gt-UNKNOWNS c =
    elim c.then-unknowns-gt-UNKNOWNS.branch [
      | then-unknowns-gt-UNKNOWNS-via-then-unknowns-gt-UNKNOWNS w ↦ simp (lt-ltb _ _ w.if-unknowns-gt-UNKNOWNS.true)
      | then-unknowns-gt-UNKNOWNS-via-else-unknowns-gt-UNKNOWNS+then-above_limits w ↦
          simp (le-ltb _ _ w.if-unknowns-gt-UNKNOWNS.false, sym w.above_limits.ensures ∙ w.if-above_limits.true)
      | then-unknowns-gt-UNKNOWNS-via-else-unknowns-gt-UNKNOWNS+else-above_limits+then-equations-gt-EQUATIONS w ↦
          simp (le-ltb _ _ w.if-unknowns-gt-UNKNOWNS.false, sym w.above_limits.ensures ∙ w.if-above_limits.false, lt-ltb _ _ w.if-equations-gt-EQUATIONS.true)
    ]

pub returns : goal.returns
unfolding check_question counts_above above edition_one
returns c =
    c.check_terms.ensures
    ∙ simp (le-ltb _ _ c.if-unknowns-gt-UNKNOWNS.false, sym c.above_limits.ensures ∙ c.if-above_limits.false, le-ltb _ _ c.if-equations-gt-EQUATIONS.false)
