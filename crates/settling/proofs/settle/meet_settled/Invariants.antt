use Rattle.term_places.specs.Lent.{of}
use Rattle.settling.proofs.SettlingLoop.{Passing}
use Rattle.settling.proofs.settle.meet_settled.Given as goal

abbrev pub invariant-loop-q : goal.invariant-loop-q
invariant-loop-q l = Passing (of l.held) l.settled l.initial.labels l.labels l.p l.rank l.q
