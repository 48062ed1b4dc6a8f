-- `visits::node::due`: the test for spent steps is the definition's.
use native.Mathlib.Omega.{arith}
use borrow.Author.Tests.{le-leb, lt-leb}
use Rattle.visits.specs.DueNode.{due_ending}
use Rattle.visits.proofs.node.due.Goals as goal

pub returns-then-limits-counts : goal.returns-then-limits-counts
unfolding due_ending
returns-then-limits-counts c = let a = c.args in rw (le-leb a.limits.steps a.counts.visited (omega (arith, c.if-limits-counts.true)))

pub returns : goal.returns
unfolding due_ending
returns c = let a = c.args in rw (lt-leb a.limits.steps a.counts.visited (omega (arith, c.if-limits-counts.false)))
