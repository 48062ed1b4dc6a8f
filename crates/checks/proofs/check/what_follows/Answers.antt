-- `checks::check::what_follows` meets its contract, kind by kind.
use mathlib.Core.Path.{sym, ap, ◌∙◌}
use borrow.Author.Tests.{lt-ltb, le-ltb}
use Rattle.checks.specs.Check.{follow, follows}
use Rattle.checks.proofs.check.what_follows.Goals as goal

pub returns-then-i-unknowns : goal.returns-then-i-unknowns
unfolding follow follows
returns-then-i-unknowns c = sym (ap (follows _ _) (sym c.kind_of.ensures ∙ c.in-Unknown.is) ∙ rw (lt-ltb _ _ c.if-i-unknowns.true))

pub returns-then-k-arities : goal.returns-then-k-arities
unfolding follow follows
returns-then-k-arities c = sym (ap (follows _ _) (sym c.kind_of.ensures ∙ c.in-Functor.is) ∙ rw (lt-ltb _ _ c.if-k-arities.true))

pub returns-in-Empty : goal.returns-in-Empty
unfolding follow follows
returns-in-Empty c = sym (ap (follows _ _) (sym c.kind_of.ensures ∙ c.in-Empty.is))

pub returns-in-Member : goal.returns-in-Member
unfolding follow follows
returns-in-Member c = sym (ap (follows _ _) (sym c.kind_of.ensures ∙ c.in-Member.is))

pub returns-else-i-unknowns : goal.returns-else-i-unknowns
unfolding follow follows
returns-else-i-unknowns c = sym (ap (follows _ _) (sym c.kind_of.ensures ∙ c.in-Unknown.is) ∙ rw (le-ltb _ _ c.if-i-unknowns.false))

pub returns-else-k-arities : goal.returns-else-k-arities
unfolding follow follows
returns-else-k-arities c = sym (ap (follows _ _) (sym c.kind_of.ensures ∙ c.in-Functor.is) ∙ rw (le-ltb _ _ c.if-k-arities.false))

pub returns-in-Nothing : goal.returns-in-Nothing
unfolding follow follows
returns-in-Nothing c = sym (ap (follows _ _) (sym c.kind_of.ensures ∙ c.in-Nothing.is))
