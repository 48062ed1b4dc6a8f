-- `copy` meets its contract: of the n words, j are copied at each turn.
use Rattle.room.proofs.Copying.{Copying}
use Rattle.room.proofs.copy.Given as goal

abbrev pub invariant-loop-j : goal.invariant-loop-j
invariant-loop-j l = Copying l.initial.room l.initial.room l.from l.n l.to l.room l.j
