-- `root::search_on`. The invariant: the search goes on, and what it is to give is what it was to give at first. The measure: the rows above and
-- twice the steps that are left.
use Rattle.search_loop.proofs.Looping.{Looping, before}
use Rattle.search_loop.proofs.search_on.Given as goal

abbrev pub invariant-loop-next : goal.invariant-loop-next
invariant-loop-next l = Looping l.arities l.limits l.initial.room l.initial.answers l.initial.place.counts l.room l.answers l.place.level l.shown l.place.counts

abbrev pub decreases-loop-next : goal.decreases-loop-next
decreases-loop-next l = before l.limits l.place.level l.place.counts
