use Rattle.tails.proofs.OpenSplit.{numbers}
use Rattle.splits.proofs.BothBound.{joined_elsewhere, joined-within, different_dead, different_names, different_parts, different_made}
use Rattle.choices.specs.OpenParent.{elsewhere_next}
use Rattle.room.specs.Room.{seg}
use native.Mathlib.Omega.{arith}
use mathlib.Core.Path.{refl}
use Rattle.splits.proofs.different.different.Goals as goal

pub overflow_add-s-2 : goal.overflow_add-s-2
overflow_add-s-2 c = let N = numbers c.requires.due.opened in omega arith

pub offset_bounds-room-from : goal.offset_bounds-room-from
offset_bounds-room-from c = let N = numbers c.requires.due.opened in omega arith

pub bounds-room-from : goal.bounds-room-from
bounds-room-from c = let N = numbers c.requires.due.opened in omega arith

pub overflow_add-r-2 : goal.overflow_add-r-2
overflow_add-r-2 c = let N = numbers c.requires.due.opened in omega arith

pub offset_bounds-room-from-2 : goal.offset_bounds-room-from-2
offset_bounds-room-from-2 c = let N = numbers c.requires.due.opened in omega arith

pub bounds-room-from-2 : goal.bounds-room-from-2
bounds-room-from-2 c = let N = numbers c.requires.due.opened in omega arith

pub overflow_add-u : goal.overflow_add-u
overflow_add-u c =
    let N = numbers c.requires.due.opened in
    let J = joined-within c.requires.due c.requires.kind c.lay_joined-joined.ensures in
    omega (arith, J.0, J.1, J.2)

pub overflow_add-t : goal.overflow_add-t
overflow_add-t c =
    let N = numbers c.requires.due.opened in
    let J = joined-within c.requires.due c.requires.kind c.lay_joined-joined.ensures in
    omega (arith, J.0, J.1, J.2)

pub slice_bounds-crosses-end : goal.slice_bounds-crosses-end
slice_bounds-crosses-end c =
    let lay_joined_told = c.lay_joined-joined.ensures in
    let N = numbers c.requires.due.opened in
    let J = joined-within c.requires.due c.requires.kind lay_joined_told in
    omega (arith, J.0, J.1, J.2)

pub slice_bounds-crosses-end-2 : goal.slice_bounds-crosses-end-2
slice_bounds-crosses-end-2 c =
    let lay_joined_told = c.lay_joined-joined.ensures in
    let N = numbers c.requires.due.opened in
    let J = joined-within c.requires.due c.requires.kind lay_joined_told in
    omega (arith, J.0, J.1, J.2)

pub returns-then-crosses : goal.returns-then-crosses
unfolding seg
returns-then-crosses c =
    let lay_joined_told = c.lay_joined-joined.ensures in
    record { makes = λ p D k. different_dead D k lay_joined_told refl refl c.crosses.ensures c.if-crosses.true; kept = λ p D k. joined_elsewhere D k lay_joined_told }

pub returns-then-next-ge-PATH_UNKNOWNS : goal.returns-then-next-ge-PATH_UNKNOWNS
unfolding seg
returns-then-next-ge-PATH_UNKNOWNS c =
    let lay_joined_told = c.lay_joined-joined.ensures in
    record { makes = λ p D k. different_names D k lay_joined_told refl refl c.crosses.ensures c.if-crosses.false c.if-next-ge-PATH_UNKNOWNS.true; kept = λ p D k. joined_elsewhere D k lay_joined_told }

pub renew-requires : goal.renew-requires
unfolding seg
renew-requires c =
    let lay_joined_told = c.lay_joined-joined.ensures in
    different_parts c.requires.due c.requires.kind lay_joined_told refl refl c.crosses.ensures c.if-crosses.false c.if-next-ge-PATH_UNKNOWNS.false

pub returns : goal.returns
unfolding seg
returns c =
    let lay_joined_told = c.lay_joined-joined.ensures in
    let crosses_told = c.crosses.ensures in
    let if1 = c.if-crosses.false in
    let renew_told = c.renew.ensures in
    rw c.from.ensures (record { makes = λ p D k. different_made D k lay_joined_told refl refl crosses_told if1 c.if-next-ge-PATH_UNKNOWNS.false renew_told; kept = λ p D k. elsewhere_next (joined_elsewhere D k lay_joined_told) renew_told.kept })
