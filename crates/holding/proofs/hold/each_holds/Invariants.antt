use Prim.Native.Nat.{◌-◌}
use Rattle.term_places.specs.Lent.{of}
use Rattle.holding.proofs.Holds.{Holds}
use Rattle.holding.proofs.hold.each_holds.Given as goal

abbrev pub invariant-loop : goal.invariant-loop
invariant-loop l = Holds (of l.held) l.settled l.labels l.equations l.left (l.equations - l.counter)
