use Rattle.plain_steps.proofs.Gathering.{none_gathered, gathering_long, all-gathered, size-within, entry_passed, kernel-within, members-parts, entry-gathered}
use Rattle.room.specs.Room.{seg}
use lib.ListN.{length-take, length-drop}
use mathlib.Core.Path.{refl}
use native.Mathlib.Omega.{arith}
use Rattle.plain_steps.proofs.join.gather.Goals.{then-room-at, else-room-at}
use Rattle.plain_steps.proofs.join.gather.Goals as goal

pub overflow_add-end : goal.overflow_add-end
overflow_add-end c = omega (arith, c.requires.0.from_within, c.requires.1)

pub loop-read-init : goal.loop-read-init
loop-read-init c = (none_gathered _ _ c.requires.0, refl)

pub overflow_add-at : goal.overflow_add-at
overflow_add-at c =
    let S = c.loop-read.invariant.0 in
    let l = gathering_long S in
    omega (arith, S.parts.from_within, S.parts.to_within, S.fits, S.passed, c.requires.1)

pub overflow_add-after : goal.overflow_add-after
overflow_add-after c =
    let S = c.loop-read.invariant.0 in
    let l = gathering_long S in
    omega (arith, S.parts.from_within, S.parts.to_within, S.fits, S.passed, c.requires.1)

pub offset_bounds-room-after : goal.offset_bounds-room-after
offset_bounds-room-after c =
    let S = c.loop-read.invariant.0 in
    let l = gathering_long S in
    omega (arith, S.parts.from_within, S.parts.to_within, S.fits, S.passed, c.requires.1)

pub slice_bounds-end_of_term-count : goal.slice_bounds-end_of_term-count
slice_bounds-end_of_term-count c =
    let S = c.loop-read.invariant.0 in
    let l = gathering_long S in
    omega (arith, S.parts.from_within, S.parts.to_within, S.fits, S.passed, c.requires.1)

pub slice_bounds-end_of_term-start : goal.slice_bounds-end_of_term-start
slice_bounds-end_of_term-start c =
    let S = c.loop-read.invariant.0 in
    let l = gathering_long S in
    omega (arith, S.parts.from_within, S.parts.to_within, S.fits, S.passed, c.requires.1)

pub slice_bounds-end_of_term-end : goal.slice_bounds-end_of_term-end
slice_bounds-end_of_term-end c =
    let S = c.loop-read.invariant.0 in
    let l = gathering_long S in
    omega (arith, S.parts.from_within, S.parts.to_within, S.fits, S.passed, c.requires.1)

pub end_of_term-size-requires : goal.end_of_term-size-requires
end_of_term-size-requires c =
    let S = c.loop-read.invariant.0 in
    let l = gathering_long S in
    simp (length-take, length-drop) (omega (arith, S.parts.from_within, c.requires.1))

pub overflow_add-size : goal.overflow_add-size
unfolding seg
overflow_add-size c =
    let S = c.loop-read.invariant.0 in
    let w = size-within c.loop-read.invariant.0 c.loop-read-test.true c.loop-read.invariant.1 _ c.end_of_term-size.ensures in
    omega (arith, S.parts.from_within, c.requires.1)

pub offset_bounds-room-at : goal.offset_bounds-room-at
offset_bounds-room-at c =
    let S = c.loop-read.invariant.0 in
    let l = gathering_long S in
    omega (arith, S.parts.from_within, S.parts.to_within, S.fits, S.passed, c.requires.1)

pub bounds-room-at : goal.bounds-room-at
bounds-room-at c =
    let S = c.loop-read.invariant.0 in
    let l = gathering_long S in
    omega (arith, S.parts.from_within, S.parts.to_within, S.fits, S.passed, c.requires.1)

pub offset_bounds-room-after-then-room-at : goal.offset_bounds-room-after-then-room-at
offset_bounds-room-after-then-room-at c =
    let S = c.loop-read.invariant.0 in
    let l = gathering_long S in
    omega (arith, S.parts.from_within, S.parts.to_within, S.fits, S.passed, c.requires.1)

pub slice_bounds-place_of_kernel-count : goal.slice_bounds-place_of_kernel-count
slice_bounds-place_of_kernel-count c =
    let S = c.loop-read.invariant.0 in
    let l = gathering_long S in
    omega (arith, S.parts.from_within, S.parts.to_within, S.fits, S.passed, c.requires.1)

pub slice_bounds-place_of_kernel-start : goal.slice_bounds-place_of_kernel-start
slice_bounds-place_of_kernel-start c =
    let S = c.loop-read.invariant.0 in
    let l = gathering_long S in
    omega (arith, S.parts.from_within, S.parts.to_within, S.fits, S.passed, c.requires.1)

pub slice_bounds-place_of_kernel-end : goal.slice_bounds-place_of_kernel-end
slice_bounds-place_of_kernel-end c =
    let S = c.loop-read.invariant.0 in
    let l = gathering_long S in
    omega (arith, S.parts.from_within, S.parts.to_within, S.fits, S.passed, c.requires.1)

pub place_of_kernel-k-requires : goal.place_of_kernel-k-requires
place_of_kernel-k-requires c =
    let S = c.loop-read.invariant.0 in
    let l = gathering_long S in
    simp (length-take, length-drop) (omega (arith, S.parts.from_within, c.requires.1))

pub overflow_add-to : goal.overflow_add-to
overflow_add-to c =
    let S = c.loop-read.invariant.0 in
    let l = gathering_long S in
    omega (arith, S.parts.from_within, S.parts.to_within, S.fits, S.passed, c.requires.1)

pub copy-requires : goal.copy-requires
unfolding seg
copy-requires c =
    let invariant = c.loop-read.invariant in
    let loop_test = c.loop-read-test.true in
    let end_of_term_told = c.end_of_term-size.ensures in
    members-parts invariant.0 loop_test invariant.1 _ end_of_term_told _ c.place_of_kernel-k.ensures

pub overflow_add-read : goal.overflow_add-read
unfolding seg
overflow_add-read c =
    let S = c.loop-read.invariant.0 in
    let w = size-within c.loop-read.invariant.0 c.loop-read-test.true c.loop-read.invariant.1 _ c.end_of_term-size.ensures in
    omega (arith, S.parts.from_within, c.requires.1)

pub overflow_add-written : goal.overflow_add-written
unfolding seg
overflow_add-written c =
    let S = c.loop-read.invariant.0 in
    let w = size-within c.loop-read.invariant.0 c.loop-read-test.true c.loop-read.invariant.1 _ c.end_of_term-size.ensures in
    let k = kernel-within c.loop-read.invariant.0 c.loop-read-test.true c.loop-read.invariant.1 _ c.end_of_term-size.ensures _ c.place_of_kernel-k.ensures in
    omega (arith, S.parts.from_within, S.fits, c.requires.1)

pub loop-read-smaller : goal.loop-read-smaller
unfolding seg
loop-read-smaller c =
    let S = c.loop-read.invariant.0 in
    let w = size-within c.loop-read.invariant.0 c.loop-read-test.true c.loop-read.invariant.1 _ c.end_of_term-size.ensures in
    omega (arith, S.parts.from_within, c.requires.1)

pub shape_of-room : goal.shape_of-room
shape_of-room c = gathering_long c.loop-read.invariant.0

pub returns : goal.returns
returns c =
    let both = all-gathered c.loop-read.invariant.0 c.loop-read-test.false in
    record { value = both.0; room_after = both.1 }

pub loop-read-preserved : goal.loop-read-preserved
unfolding seg
loop-read-preserved c =
    let S = c.loop-read.invariant in
    elim c.if-room-at.branch [
      | then-room-at w ↦ rw (w.room-is, w.written-is) (entry-gathered S.0 c.loop-read-test.true S.1 _ c.end_of_term-size.ensures _ w.place_of_kernel-k.ensures w.if-room-at.true w.copy.ensures, S.1)
      | else-room-at w ↦ rw (w.room-is, w.written-is) (entry_passed S.0 c.loop-read-test.true S.1 _ c.end_of_term-size.ensures w.if-room-at.false, S.1)
    ]
