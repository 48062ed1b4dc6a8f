use Rattle.pick_loop.proofs.Radices.{right_closed, right_opened}
use Rattle.pick_loop.proofs.radix.picks_of_t.Goals as goal

pub returns-in-Neither : goal.returns-in-Neither
returns-in-Neither c = right_closed _ _ c.in-Neither.is

pub returns-in-Right : goal.returns-in-Right
returns-in-Right c = right_opened _ _ c.in-Right.is
