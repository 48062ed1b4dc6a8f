use Prim.Native.Nat.{◌-◌}
use Rattle.term_places.specs.Lent.{of}
use Rattle.ranks.proofs.Ranking.{Reckoning}
use Rattle.ranks.proofs.ranks.rank_of_functor.Given as goal

abbrev pub invariant-loop : goal.invariant-loop
invariant-loop l = Reckoning (of l.held) l.ranks l.p l.rank l.x (l.due - l.counter)
