use Rattle.choices.proofs.Counting.{none_decoded, numbers, digit_decoded, all_decoded}
use native.Mathlib.Omega.{arith}
use native.Mathlib.Nat.{mod-lt}
use Rattle.choices.proofs.picks.digits_of.Goals as goal

pub loop-i-init : goal.loop-i-init
loop-i-init c = none_decoded _ c.requires

pub nonzero_rem-room : goal.nonzero_rem-room
nonzero_rem-room c = let N = numbers c.loop-i.invariant in omega arith

pub overflow_cast-room : goal.overflow_cast-room
overflow_cast-room c = let N = numbers c.loop-i.invariant in let m = mod-lt c.loop-i.left N.positive in omega arith

pub overflow_add-room : goal.overflow_add-room
overflow_add-room c = let N = numbers c.loop-i.invariant in omega arith

pub offset_bounds-room-to : goal.offset_bounds-room-to
offset_bounds-room-to c = let N = numbers c.loop-i.invariant in omega arith

pub bounds-room-to : goal.bounds-room-to
bounds-room-to c = let N = numbers c.loop-i.invariant in omega arith

pub nonzero_div-left : goal.nonzero_div-left
nonzero_div-left c = let N = numbers c.loop-i.invariant in omega arith

pub loop-i-preserved : goal.loop-i-preserved
loop-i-preserved c = digit_decoded c.loop-i.invariant c.loop-i-test.true

pub shape_of-room : goal.shape_of-room
shape_of-room c = let N = numbers c.loop-i.invariant in omega arith

pub returns : goal.returns
returns c = all_decoded c.loop-i.invariant c.loop-i-test.false
