use Rattle.splits.proofs.split.split.Goals as goal

pub neither-requires : goal.neither-requires
neither-requires c = rw c.in-Neither.is at c.requires

pub left-requires : goal.left-requires
left-requires c = rw c.in-Left.is at c.requires

pub right-requires : goal.right-requires
right-requires c = rw c.in-Right.is at c.requires

pub different-requires : goal.different-requires
different-requires c = rw c.in-Different.is at c.requires

pub same-requires : goal.same-requires
same-requires c = rw c.in-Same.is at c.requires

pub returns-in-Neither : goal.returns-in-Neither
returns-in-Neither c = rw (c.in-Neither.is, c.from.ensures) c.neither.ensures

pub returns-in-Left : goal.returns-in-Left
returns-in-Left c = rw c.in-Left.is c.left.ensures

pub returns-in-Right : goal.returns-in-Right
returns-in-Right c = rw c.in-Right.is c.right.ensures

pub returns-in-Different : goal.returns-in-Different
returns-in-Different c = rw c.in-Different.is c.different.ensures

pub returns-in-Same : goal.returns-in-Same
returns-in-Same c = rw (c.in-Same.is, c.from-in-Same.ensures) c.same.ensures
