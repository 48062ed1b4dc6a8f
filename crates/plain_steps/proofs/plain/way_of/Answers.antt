-- `plain_steps::plain::way_of`: each case is the definition's.
use Rattle.plain_steps.specs.Plain.{way_of}
use Rattle.plain_steps.proofs.plain.way_of.Goals as goal

pub returns-in-Drop : goal.returns-in-Drop
unfolding way_of
returns-in-Drop c = rw c.in-Drop.is

pub returns-in-Bind : goal.returns-in-Bind
unfolding way_of
returns-in-Bind c = rw c.in-Bind.is

pub returns-in-Postpone : goal.returns-in-Postpone
unfolding way_of
returns-in-Postpone c = rw c.in-Postpone.is

pub returns-in-Decompose : goal.returns-in-Decompose
unfolding way_of
returns-in-Decompose c = rw c.in-Decompose.is

pub returns-in-Split : goal.returns-in-Split
unfolding way_of
returns-in-Split c = rw c.in-Split.is

pub returns-in-Dead : goal.returns-in-Dead
unfolding way_of
returns-in-Dead c = rw c.in-Dead.is
