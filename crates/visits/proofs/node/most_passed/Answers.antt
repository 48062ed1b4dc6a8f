-- `visits::node::most_passed`: the test of the depth is the definition's.
use borrow.Author.Tests.{le-leb, lt-leb}
use Rattle.visits.specs.DueNode.{most_of}
use Rattle.visits.proofs.node.most_passed.Goals as goal

pub returns-then-limits-place : goal.returns-then-limits-place
unfolding most_of
returns-then-limits-place c = rw (le-leb _ _ c.if-limits-place.true)

pub returns : goal.returns
unfolding most_of
returns c = rw (lt-leb _ _ c.if-limits-place.false)
