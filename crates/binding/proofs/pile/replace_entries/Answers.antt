use Rattle.binding.proofs.EntriesRead.{length-after, same_length as long, none_passed, numbers, all_passed, size-within, entry-parts, entry_skipped, entry-written, entry_full}
use lib.ListN.{length-take, length-drop}
use Rattle.room.specs.Room.{seg}
use native.Mathlib.Omega.{arith}
use mathlib.Core.Path.{refl, sym, ◌∙◌}
use Rattle.binding.proofs.pile.replace_entries.Goals.{then-wanted+in_ok-k, else-wanted}
use Rattle.binding.proofs.pile.replace_entries.Goals as goal

pub overflow_add-end : goal.overflow_add-end
overflow_add-end c = let P = c.requires.0 in omega arith

pub loop-read-init : goal.loop-read-init
loop-read-init c = (none_passed _ _ _ c.requires.0, refl)

pub overflow_add-at : goal.overflow_add-at
overflow_add-at c =
    let S = c.loop-read.invariant.0 in
    let N = numbers S in
    omega (arith, c.requires.1)

pub overflow_add-after : goal.overflow_add-after
overflow_add-after c =
    let S = c.loop-read.invariant.0 in
    let N = numbers S in
    omega (arith, c.requires.1)

pub offset_bounds-room-after : goal.offset_bounds-room-after
offset_bounds-room-after c =
    let S = c.loop-read.invariant.0 in
    let N = numbers S in
    omega (arith, c.requires.1)

pub slice_bounds-end_of_term-count : goal.slice_bounds-end_of_term-count
slice_bounds-end_of_term-count c =
    let S = c.loop-read.invariant.0 in
    let N = numbers S in
    omega (arith, c.requires.1)

pub slice_bounds-end_of_term-end : goal.slice_bounds-end_of_term-end
slice_bounds-end_of_term-end c =
    let S = c.loop-read.invariant.0 in
    let N = numbers S in
    omega (arith, c.requires.1)

pub end_of_term-size-requires : goal.end_of_term-size-requires
end_of_term-size-requires c =
    let N = numbers c.loop-read.invariant.0 in
    simp (length-take, length-drop) (omega (arith, c.requires.1))

pub overflow_add-size : goal.overflow_add-size
unfolding seg
overflow_add-size c =
    let N = numbers c.loop-read.invariant.0 in
    let W = size-within c.loop-read.invariant.0 c.loop-read-test.true c.loop-read.invariant.1 _ c.end_of_term-size.ensures in
    omega (arith, c.requires.1)

pub offset_bounds-room-at : goal.offset_bounds-room-at
offset_bounds-room-at c =
    let S = c.loop-read.invariant.0 in
    let N = numbers S in
    omega (arith, c.requires.1)

pub bounds-room-at : goal.bounds-room-at
bounds-room-at c =
    let S = c.loop-read.invariant.0 in
    let N = numbers S in
    omega (arith, c.requires.1)

pub overflow_add-to : goal.overflow_add-to
overflow_add-to c =
    let S = c.loop-read.invariant.0 in
    let N = numbers S in
    omega (arith, c.requires.1)

pub overflow_sub-capacity : goal.overflow_sub-capacity
overflow_sub-capacity c =
    let S = c.loop-read.invariant.0 in
    let N = numbers S in
    omega (arith, c.requires.1)

pub replace-requires : goal.replace-requires
unfolding seg
replace-requires c =
    let invariant = c.loop-read.invariant in
    let loop_test = c.loop-read-test.true in
    entry-parts invariant.0 loop_test invariant.1 _ c.end_of_term-size.ensures

pub overflow_add-written : goal.overflow_add-written
unfolding seg
overflow_add-written c =
    let N = numbers (entry-written c.loop-read.invariant.0 c.loop-read-test.true c.loop-read.invariant.1 _ c.end_of_term-size.ensures (sym c.wanted.ensures ∙ c.if-wanted.true) c.replace.ensures.value c.replace.ensures.room_after _ c.in_ok-k.was) in
    omega (arith, c.requires.1)

pub shape_of-room-in_err-k : goal.shape_of-room-in_err-k
shape_of-room-in_err-k c = length-after c.loop-read.invariant.0 _ _ c.replace.ensures.room_after

pub returns-in_err-k : goal.returns-in_err-k
unfolding seg
returns-in_err-k c =
    rw c.from_residual.ensures (entry_full c.loop-read.invariant.0 c.loop-read-test.true c.loop-read.invariant.1 _ c.end_of_term-size.ensures (sym c.wanted.ensures ∙ c.if-wanted.true) c.replace.ensures.value c.replace.ensures.room_after c.in_err-k.was)

pub overflow_add-read : goal.overflow_add-read
unfolding seg
overflow_add-read c =
    let N = numbers c.loop-read.invariant.0 in
    let W = size-within c.loop-read.invariant.0 c.loop-read-test.true c.loop-read.invariant.1 _ c.end_of_term-size.ensures in
    omega (arith, c.requires.1)

pub loop-read-smaller : goal.loop-read-smaller
unfolding seg
loop-read-smaller c =
    let N = numbers c.loop-read.invariant.0 in
    let W = size-within c.loop-read.invariant.0 c.loop-read-test.true c.loop-read.invariant.1 _ c.end_of_term-size.ensures in
    omega (arith, c.requires.1)

pub loop-read-preserved : goal.loop-read-preserved
unfolding seg
loop-read-preserved c =
    let S = c.loop-read.invariant in
    elim c.if-wanted.branch [
      | then-wanted+in_ok-k w ↦ rw (w.room-is, w.written-is) (entry-written S.0 c.loop-read-test.true S.1 _ c.end_of_term-size.ensures (sym c.wanted.ensures ∙ w.if-wanted.true) w.replace.ensures.value w.replace.ensures.room_after _ w.in_ok-k.was, S.1)
      | else-wanted w ↦ rw (w.room-is, w.written-is) (entry_skipped S.0 c.loop-read-test.true S.1 _ c.end_of_term-size.ensures (sym c.wanted.ensures ∙ w.if-wanted.false), S.1)
    ]

pub shape_of-room : goal.shape_of-room
shape_of-room c = long c.loop-read.invariant.0

pub returns : goal.returns
returns c = all_passed c.loop-read.invariant.0 c.loop-read-test.false
