use Rattle.term_places.specs.Lent.{of}
use Rattle.settling.proofs.SettlingLoop.{Going}
use Rattle.settling.proofs.settle.settle.Given as goal

abbrev pub invariant-loop-p : goal.invariant-loop-p
invariant-loop-p l = Going (of l.held) l.ranks l.settled l.labels l.p
