use Rattle.choices.proofs.Counting.{Decoding}
use Rattle.choices.proofs.picks.digits_of.Given as goal

abbrev pub invariant-loop-i : goal.invariant-loop-i
invariant-loop-i l = Decoding l.initial.room l.number l.n l.radix l.to l.room l.left l.i
