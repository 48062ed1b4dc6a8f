-- `visits::node::back`: the test for the root's row is the definition's.
use borrow.Author.Tests.{eq-eqb, ne_eqb}
use Rattle.visits.specs.DueNode.{back_to}
use Rattle.visits.proofs.node.back.Goals as goal

pub returns-then-place-eq0 : goal.returns-then-place-eq0
unfolding back_to
returns-then-place-eq0 c = rw (eq-eqb _ _ c.if-place-eq0.true)

pub returns : goal.returns
unfolding back_to
returns c = rw (ne_eqb _ _ c.if-place-eq0.false)
