use Rattle.pick_loop.proofs.Radices.{left_closed, left_opened}
use Rattle.pick_loop.proofs.radix.picks_of_u.Goals as goal

pub returns-in-Neither : goal.returns-in-Neither
returns-in-Neither c = left_closed _ _ c.in-Neither.is

pub returns-in-Left : goal.returns-in-Left
returns-in-Left c = left_opened _ _ c.in-Left.is
