use Rattle.choices.proofs.Noting.{Noting}
use Rattle.choices.proofs.members.note_members.Given as goal

abbrev pub invariant-loop-place : goal.invariant-loop-place
invariant-loop-place l = Noting l.arities l.initial.room l.body l.first l.end l.to l.room l.place l.due l.n
