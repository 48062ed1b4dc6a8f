use native.Mathlib.Omega.{arith}
use Rattle.term_places.specs.Opened.{resolvable}
use Rattle.term_places.specs.Arguments.{following}
use Rattle.ranks.proofs.Ranking.{reckoning_start, reckoning_end, argument_in, resolved_in, reckoning_on}
use Rattle.ranks.proofs.ranks.rank_of_functor.Goals as goal

pub loop-init : goal.loop-init
unfolding following
loop-init c = reckoning_start c.requires (omega (arith, c.terms_after-due.ensures))

pub resolve-requires : goal.resolve-requires
resolve-requires c = let i = c.loop.invariant in resolvable i.of.ranked.placed _ (argument_in i (omega arith))

pub offset_bounds-ranks-resolve : goal.offset_bounds-ranks-resolve
offset_bounds-ranks-resolve c = let i = c.loop.invariant in omega (arith, c.resolve.ensures, resolved_in i (omega arith), i.of.ranked.long)

pub bounds-ranks-resolve : goal.bounds-ranks-resolve
bounds-ranks-resolve c = let i = c.loop.invariant in omega (arith, c.resolve.ensures, resolved_in i (omega arith), i.of.ranked.long)

pub term_end-x-requires : goal.term_end-x-requires
term_end-x-requires c = let i = c.loop.invariant in record { unknowns = _; terms = i.of.ranked.placed.terms; inside = argument_in i (omega arith) }

pub loop-preserved : goal.loop-preserved
loop-preserved c = rw c.term_end-x.ensures (reckoning_on c.loop.invariant (omega arith) (rw c.resolve.ensures at c.max-rank.ensures) (omega arith))

pub returns : goal.returns
returns c = reckoning_end c.loop.invariant (omega arith) c.above.ensures
