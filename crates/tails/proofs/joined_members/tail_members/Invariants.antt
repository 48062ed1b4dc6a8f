use Rattle.tails.proofs.JoiningMembers.{Joining}
use Rattle.tails.proofs.joined_members.tail_members.Given as goal

abbrev pub invariant-loop-i : goal.invariant-loop-i
invariant-loop-i l = Joining l.initial.room l.body l.places l.picks l.n l.others l.to l.room l.i l.written
