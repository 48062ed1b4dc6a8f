use Rattle.settling.proofs.SettlingLoop.{going_on}
use Rattle.settling.proofs.settle.settle.Goals as goal

pub loop-p-preserved-then-rank-lt-NONE : goal.loop-p-preserved-then-rank-lt-NONE
loop-p-preserved-then-rank-lt-NONE c =
    going_on c.loop-p.invariant c.loop-p-test.true c.if-rank-lt-NONE.true c.meet_settled.ensures
