-- `openings::open_split::pick`: the laws of `StartedSplit`.
use native.Mathlib.Omega.{arith}
use Rattle.openings.proofs.SplitSides.{open_there}
use Rattle.openings.proofs.StartedSplit.{members_few, number-parts, digit-parts, here, told_past, told-from}
use Rattle.openings.proofs.open_split.pick.Goals as goal

pub open_sides-sides-requires : goal.open_sides-sides-requires
open_sides-sides-requires c =
    let P = c.requires in
    record { k = P.state.next; t = P.first.left; u = P.first.right; open_there = open_there P.here }

pub show_sides-requires : goal.show_sides-requires
show_sides-requires c = let S = c.requires.here in number-parts S (c.open_sides-sides.ensures.opened _ _ _ (open_there S))

pub picks_of_t-first-requires : goal.picks_of_t-first-requires
picks_of_t-first-requires c =
    let open_sides_told = c.open_sides-sides.ensures in
    let S = c.requires.here in
    let few = members_few S (open_sides_told.opened _ _ _ (open_there S)) in
    omega (arith, S.ready.lent_small)

pub picks_of_u-second-requires : goal.picks_of_u-second-requires
picks_of_u-second-requires c =
    let open_sides_told = c.open_sides-sides.ensures in
    let S = c.requires.here in
    let few = members_few S (open_sides_told.opened _ _ _ (open_there S)) in
    omega (arith, S.ready.lent_small)

pub digits-left-requires : goal.digits-left-requires
digits-left-requires c =
    let open_sides_told = c.open_sides-sides.ensures in
    let show_sides_told = c.show_sides.ensures in
    let S = c.requires.here in
    digit-parts S (open_sides_told.opened _ _ _ (open_there S)) show_sides_told c.picks_of_t-first.ensures c.picks_of_u-second.ensures

pub returns-then-left-ne0 : goal.returns-then-left-ne0
returns-then-left-ne0 c =
    let open_sides_told = c.open_sides-sides.ensures in
    let show_sides_told = c.show_sides.ensures in
    let picks_of_t_told = c.picks_of_t-first.ensures in
    let picks_of_u_told = c.picks_of_u-second.ensures in
    λ st e es S. told_past S (open_sides_told.opened _ _ _ (open_there S)) show_sides_told picks_of_t_told picks_of_u_told c.digits-left.ensures c.if-left-ne0.true

pub pick_from-requires : goal.pick_from-requires
pick_from-requires c =
    let open_sides_told = c.open_sides-sides.ensures in
    let show_sides_told = c.show_sides.ensures in
    let picks_of_t_told = c.picks_of_t-first.ensures in
    let picks_of_u_told = c.picks_of_u-second.ensures in
    let S = c.requires.here in
    record { p = _; here = here S (open_sides_told.opened _ _ _ (open_there S)) show_sides_told picks_of_t_told picks_of_u_told c.digits-left.ensures }

pub returns : goal.returns
returns c = λ st e es S.
    let O = c.open_sides-sides.ensures.opened _ _ _ (open_there S) in
    let W = c.show_sides.ensures in
    let f = c.picks_of_t-first.ensures in
    let g = c.picks_of_u-second.ensures in
    let D = c.digits-left.ensures in
    told-from S O W f g D c.if-left-ne0.false (c.pick_from.ensures _ (here S O W f g D))
