use Rattle.choices.proofs.EquationsWritten.{none_met, numbers, pick_passed, pair_parts, pair-met, pair_full, all-met}
use Rattle.rows.specs.Wrote.{wrote_length}
use native.Mathlib.Omega.{arith}
use mathlib.Core.Path.{◌∙◌}
use Rattle.choices.proofs.equations.equations_of.Goals.{then-pick-count+in_ok-k, else-pick-count}
use Rattle.choices.proofs.equations.equations_of.Goals as goal

pub loop-i-init : goal.loop-i-init
loop-i-init c = none_met _ _ c.requires

pub overflow_add-picks : goal.overflow_add-picks
overflow_add-picks c = let N = numbers c.loop-i.invariant in omega arith

pub offset_bounds-room-picks : goal.offset_bounds-room-picks
offset_bounds-room-picks c = let N = numbers c.loop-i.invariant in omega arith

pub bounds-room-picks : goal.bounds-room-picks
bounds-room-picks c = let N = numbers c.loop-i.invariant in omega arith

pub overflow_add-owns : goal.overflow_add-owns
overflow_add-owns c = let N = numbers c.loop-i.invariant in omega arith

pub overflow_add-others : goal.overflow_add-others
overflow_add-others c = let N = numbers c.loop-i.invariant in omega arith

pub overflow_add-to : goal.overflow_add-to
overflow_add-to c = let N = numbers c.loop-i.invariant in omega arith

pub overflow_sub-capacity : goal.overflow_sub-capacity
overflow_sub-capacity c = let N = numbers c.loop-i.invariant in omega arith

pub pair-requires : goal.pair-requires
pair-requires c = pair_parts c.loop-i.invariant c.loop-i-test.true _ c.from-pick.ensures c.if-pick-count.true

pub overflow_add-written : goal.overflow_add-written
overflow_add-written c =
    let invariant = c.loop-i.invariant in
    let loop_test = c.loop-i-test.true in
    let if1 = c.if-pick-count.true in
    let N = numbers (pair-met invariant loop_test _ c.from-pick.ensures if1 c.pair.ensures _ c.in_ok-k.was) in
    omega arith

pub shape_of-room-in_err-k : goal.shape_of-room-in_err-k
shape_of-room-in_err-k c = wrote_length c.pair.ensures ∙ (numbers c.loop-i.invariant).long

pub returns-in_err-k : goal.returns-in_err-k
returns-in_err-k c =
    let invariant = c.loop-i.invariant in
    let loop_test = c.loop-i-test.true in
    let if1 = c.if-pick-count.true in
    rw c.from_residual.ensures (pair_full invariant loop_test _ c.from-pick.ensures if1 c.pair.ensures c.in_err-k.was)

pub shape_of-room : goal.shape_of-room
shape_of-room c = let N = numbers c.loop-i.invariant in omega arith

pub loop-i-preserved : goal.loop-i-preserved
loop-i-preserved c =
    let S = c.loop-i.invariant in
    elim c.if-pick-count.branch [
      | then-pick-count+in_ok-k w ↦ rw (w.room-is, w.written-is) (pair-met S c.loop-i-test.true _ c.from-pick.ensures w.if-pick-count.true w.pair.ensures _ w.in_ok-k.was)
      | else-pick-count w ↦ rw (w.room-is, w.written-is) (pick_passed S c.loop-i-test.true _ c.from-pick.ensures w.if-pick-count.false)
    ]

pub returns : goal.returns
returns c = all-met c.loop-i.invariant c.loop-i-test.false
