use Rattle.choices.proofs.EquationsWritten.{Meeting}
use Rattle.choices.proofs.equations.equations_of.Given as goal

abbrev pub invariant-loop-i : goal.invariant-loop-i
invariant-loop-i l = Meeting l.initial.room l.body l.turned l.owns l.n l.others l.count l.picks l.x l.by l.m l.to l.capacity l.room l.i l.written
