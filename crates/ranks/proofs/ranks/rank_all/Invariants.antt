use Rattle.term_places.specs.Lent.{of}
use Rattle.ranks.proofs.Ranking.{Rated}
use Rattle.ranks.proofs.ranks.rank_all.Given as goal

abbrev pub invariant-loop-p : goal.invariant-loop-p
invariant-loop-p l = Rated (of l.held) l.ranks l.p
