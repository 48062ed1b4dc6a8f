-- `only_child::next::reached`: each case is the definition's.
use Rattle.rows.specs.Made.{of_reached}
use Rattle.only_child.proofs.next.reached.Goals as goal

pub returns-in-Dead : goal.returns-in-Dead
returns-in-Dead c = c.in-Dead.is

pub returns-in-Names : goal.returns-in-Names
unfolding of_reached
returns-in-Names c = c.in-Names.is

pub returns-in-Large : goal.returns-in-Large
unfolding of_reached
returns-in-Large c = c.in-Large.is

pub returns-in-Live : goal.returns-in-Live
unfolding of_reached
returns-in-Live c = c.in-Live.is
