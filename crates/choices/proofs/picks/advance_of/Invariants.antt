use Rattle.choices.proofs.Counting.{Advancing}
use Rattle.choices.proofs.picks.advance_of.Given as goal

abbrev pub invariant-loop-i : goal.invariant-loop-i
invariant-loop-i l = Advancing l.initial.room l.n l.radix l.at l.room l.i
