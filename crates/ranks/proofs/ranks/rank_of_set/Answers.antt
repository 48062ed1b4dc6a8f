use native.Mathlib.Omega.{arith}
use Rattle.term_places.specs.Places.{member_of, rest_of}
use Rattle.term_places.specs.Opened.{resolvable}
use Rattle.ranks.proofs.Ranking.{next_in, ends_in, member_in, rest_in, set_told}
use Rattle.ranks.proofs.ranks.rank_of_set.Goals as goal

pub resolve-requires : goal.resolve-requires
resolve-requires c = let o = c.requires.of_set in resolvable o.ranked.placed _ (next_in o)

pub offset_bounds-ranks-resolve : goal.offset_bounds-ranks-resolve
unfolding member_of
offset_bounds-ranks-resolve c = let o = c.requires.of_set in omega (arith, c.resolve.ensures, member_in o, o.ranked.long)

pub bounds-ranks-resolve : goal.bounds-ranks-resolve
unfolding member_of
bounds-ranks-resolve c = let o = c.requires.of_set in omega (arith, c.resolve.ensures, member_in o, o.ranked.long)

pub resolve-requires-2 : goal.resolve-requires-2
resolve-requires-2 c = let o = c.requires.of_set in resolvable o.ranked.placed _ (rw c.requires.after (ends_in o))

pub offset_bounds-ranks-resolve-2 : goal.offset_bounds-ranks-resolve-2
unfolding rest_of
offset_bounds-ranks-resolve-2 c =
    let o = c.requires.of_set in
    omega (arith, rw c.requires.after at c.resolve-2.ensures, rest_in o, o.ranked.long)

pub bounds-ranks-resolve-2 : goal.bounds-ranks-resolve-2
unfolding rest_of
bounds-ranks-resolve-2 c = let o = c.requires.of_set in omega (arith, rw c.requires.after at c.resolve-2.ensures, rest_in o, o.ranked.long)

pub returns : goal.returns
unfolding member_of rest_of
returns c =
    let resolve_told = c.resolve.ensures in
    set_told c.requires.of_set (rw resolve_told at c.above.ensures) (rw c.requires.after at (rw c.resolve-2.ensures at c.max.ensures))
