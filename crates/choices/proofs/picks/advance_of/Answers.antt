use borrow.Author.Rules.{rules}
use Rattle.choices.proofs.Counting.{none_advanced, counts, digit-below, digit_advanced, digit-again, all_advanced}
use native.Mathlib.Omega.{arith}
use Rattle.choices.proofs.picks.advance_of.Goals as goal

pub loop-i-init : goal.loop-i-init
loop-i-init c = none_advanced c.requires

pub overflow_add-at : goal.overflow_add-at
overflow_add-at c = let N = counts c.loop-i.invariant in omega arith

pub offset_bounds-room-at : goal.offset_bounds-room-at
offset_bounds-room-at c = let N = counts c.loop-i.invariant in omega arith

pub bounds-room-at : goal.bounds-room-at
bounds-room-at c = let N = counts c.loop-i.invariant in omega arith

pub from-pick-requires : goal.from-pick-requires
from-pick-requires c = let N = counts c.loop-i.invariant in omega arith

pub overflow_add-pick : goal.overflow_add-pick
overflow_add-pick c =
    let invariant = c.loop-i.invariant in
    let N = counts invariant in
    let b = digit-below invariant c.loop-i-test.true _ c.from-pick.ensures in
    omega arith

pub overflow_cast-room : goal.overflow_cast-room
overflow_cast-room c =
    let invariant = c.loop-i.invariant in
    let N = counts invariant in
    let b = digit-below invariant c.loop-i-test.true _ c.from-pick.ensures in
    omega arith

pub overflow_add-room : goal.overflow_add-room
overflow_add-room c = let N = counts c.loop-i.invariant in omega arith

pub offset_bounds-room-at-then-pick-radix : goal.offset_bounds-room-at-then-pick-radix
offset_bounds-room-at-then-pick-radix c = let N = counts c.loop-i.invariant in omega arith

pub bounds-room-at-then-pick-radix : goal.bounds-room-at-then-pick-radix
bounds-room-at-then-pick-radix c = let N = counts c.loop-i.invariant in omega arith

pub shape_of-room-then-pick-radix : goal.shape_of-room-then-pick-radix
shape_of-room-then-pick-radix c = let N = counts c.loop-i.invariant in search rules

pub returns-then-pick-radix : goal.returns-then-pick-radix
returns-then-pick-radix c = digit_advanced c.loop-i.invariant c.loop-i-test.true _ c.from-pick.ensures c.if-pick-radix.true

pub overflow_add-room-in-loop-i : goal.overflow_add-room-in-loop-i
overflow_add-room-in-loop-i c = let N = counts c.loop-i.invariant in omega arith

pub offset_bounds-room-at-in-loop-i : goal.offset_bounds-room-at-in-loop-i
offset_bounds-room-at-in-loop-i c = let N = counts c.loop-i.invariant in omega arith

pub bounds-room-at-in-loop-i : goal.bounds-room-at-in-loop-i
bounds-room-at-in-loop-i c = let N = counts c.loop-i.invariant in omega arith

pub loop-i-preserved : goal.loop-i-preserved
loop-i-preserved c = digit-again c.loop-i.invariant c.loop-i-test.true _ c.from-pick.ensures c.if-pick-radix.false

pub shape_of-room : goal.shape_of-room
shape_of-room c = let N = counts c.loop-i.invariant in search rules

pub returns : goal.returns
returns c = all_advanced c.loop-i.invariant c.loop-i-test.false
