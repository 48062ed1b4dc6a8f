use Rattle.tails.proofs.JoiningMembers.{none_joined, numbers, rising, copy_parts, member_skipped, member_joined, all-joined, all-put}
use native.Mathlib.Omega.{arith}
use Rattle.tails.proofs.joined_members.tail_members.Goals.{then-others-from, else-others-from}
use Rattle.tails.proofs.joined_members.tail_members.Goals as goal

pub loop-i-init : goal.loop-i-init
loop-i-init c = none_joined _ c.requires

pub overflow_add-picks : goal.overflow_add-picks
overflow_add-picks c = let N = numbers c.loop-i.invariant in omega arith

pub offset_bounds-room-picks : goal.offset_bounds-room-picks
offset_bounds-room-picks c = let N = numbers c.loop-i.invariant in omega arith

pub bounds-room-picks : goal.bounds-room-picks
bounds-room-picks c = let N = numbers c.loop-i.invariant in omega arith

pub overflow_add-places : goal.overflow_add-places
overflow_add-places c = let N = numbers c.loop-i.invariant in omega arith

pub offset_bounds-room-places : goal.offset_bounds-room-places
offset_bounds-room-places c = let N = numbers c.loop-i.invariant in omega arith

pub bounds-room-places : goal.bounds-room-places
bounds-room-places c = let N = numbers c.loop-i.invariant in omega arith

pub overflow_add-places-then-others-from : goal.overflow_add-places-then-others-from
overflow_add-places-then-others-from c = let N = numbers c.loop-i.invariant in omega arith

pub overflow_add-places-then-others-from-2 : goal.overflow_add-places-then-others-from-2
overflow_add-places-then-others-from-2 c = let N = numbers c.loop-i.invariant in omega arith

pub offset_bounds-room-places-then-others-from : goal.offset_bounds-room-places-then-others-from
offset_bounds-room-places-then-others-from c = let N = numbers c.loop-i.invariant in omega arith

pub bounds-room-places-then-others-from : goal.bounds-room-places-then-others-from
bounds-room-places-then-others-from c = let N = numbers c.loop-i.invariant in omega arith

pub overflow_add-body : goal.overflow_add-body
overflow_add-body c =
    let invariant = c.loop-i.invariant in
    let loop_test = c.loop-i-test.true in
    let N = numbers invariant in
    let R = rising invariant loop_test _ _ c.from-p.ensures c.from-q.ensures in
    omega arith

pub overflow_sub-q : goal.overflow_sub-q
overflow_sub-q c =
    let invariant = c.loop-i.invariant in
    let loop_test = c.loop-i-test.true in
    let N = numbers invariant in
    let R = rising invariant loop_test _ _ c.from-p.ensures c.from-q.ensures in
    omega arith

pub overflow_add-to : goal.overflow_add-to
overflow_add-to c =
    let invariant = c.loop-i.invariant in
    let loop_test = c.loop-i-test.true in
    let N = numbers invariant in
    let R = rising invariant loop_test _ _ c.from-p.ensures c.from-q.ensures in
    omega arith

pub copy-requires : goal.copy-requires
copy-requires c =
    let invariant = c.loop-i.invariant in
    let loop_test = c.loop-i-test.true in
    copy_parts invariant loop_test _ _ c.from-p.ensures c.from-q.ensures

pub overflow_sub-written : goal.overflow_sub-written
overflow_sub-written c =
    let invariant = c.loop-i.invariant in
    let loop_test = c.loop-i-test.true in
    let wide2_told = c.from-p.ensures in
    let N = numbers invariant in
    let R = rising invariant loop_test _ _ wide2_told c.from-q.ensures in
    omega arith

pub overflow_add-written : goal.overflow_add-written
overflow_add-written c =
    let invariant = c.loop-i.invariant in
    let loop_test = c.loop-i-test.true in
    let wide2_told = c.from-p.ensures in
    let N = numbers invariant in
    let R = rising invariant loop_test _ _ wide2_told c.from-q.ensures in
    omega arith

pub shape_of-room : goal.shape_of-room
shape_of-room c = let N = numbers c.loop-i.invariant in omega arith

pub returns : goal.returns
returns c = record { value = all-joined c.loop-i.invariant c.loop-i-test.false; room_after = all-put c.loop-i.invariant c.loop-i-test.false }

pub loop-i-preserved : goal.loop-i-preserved
loop-i-preserved c =
    let S = c.loop-i.invariant in
    elim c.if-others-from.branch [
      | then-others-from w ↦ rw (w.room-is, w.written-is) (member_joined S c.loop-i-test.true _ _ w.from-p.ensures w.from-q.ensures _ c.from.ensures w.if-others-from.true w.copy.ensures)
      | else-others-from w ↦ rw (w.room-is, w.written-is) (member_skipped S c.loop-i-test.true _ c.from.ensures w.if-others-from.false)
    ]
