-- `copy_in` meets its contract: of the words lent, j are copied at each turn.
use lib.ListN.{length}
use Rattle.room.proofs.Copying.{Copying}
use Rattle.room.proofs.copy_in.Given as goal

abbrev pub invariant-loop-j : goal.invariant-loop-j
invariant-loop-j l = Copying l.initial.room l.words 0 (length l.words) l.to l.room l.j
