use Rattle.plain_steps.proofs.Pairing.{none_paired, pairing_long, pairing_room, pair_parts, e-within, g_within, paired-more, all-paired}
use native.Mathlib.Omega.{arith}
use Rattle.plain_steps.proofs.first_equation.pair_all.Goals as goal

pub loop-init : goal.loop-init
loop-init c = none_paired _ _ c.requires

pub overflow_add-left : goal.overflow_add-left
overflow_add-left c =
    let S = c.loop.invariant in
    let P = pairing_room S in
    omega (arith, S.parts.left_within, S.parts.right_within)

pub overflow_sub-n : goal.overflow_sub-n
overflow_sub-n c =
    let S = c.loop.invariant in
    let P = pairing_room S in
    omega (arith, S.parts.left_within, S.parts.right_within)

pub overflow_add-right : goal.overflow_add-right
overflow_add-right c =
    let S = c.loop.invariant in
    let P = pairing_room S in
    omega (arith, S.parts.left_within, S.parts.right_within)

pub overflow_sub-m : goal.overflow_sub-m
overflow_sub-m c =
    let S = c.loop.invariant in
    let P = pairing_room S in
    omega (arith, S.parts.left_within, S.parts.right_within)

pub overflow_add-to : goal.overflow_add-to
overflow_add-to c =
    let S = c.loop.invariant in
    let P = pairing_room S in
    omega (arith, S.parts.left_within, S.parts.right_within)

pub overflow_add-to-in-loop : goal.overflow_add-to-in-loop
overflow_add-to-in-loop c =
    let S = c.loop.invariant in
    let P = pairing_room S in
    omega (arith, S.parts.left_within, S.parts.right_within)

pub pair_first-two-requires : goal.pair_first-two-requires
pair_first-two-requires c = pair_parts c.loop.invariant

pub overflow_add-l : goal.overflow_add-l
overflow_add-l c =
    let S = c.loop.invariant in
    let P = pairing_room S in
    let e = e-within S c.loop-test.true c.pair_first-two.ensures.0 c.pair_first-two.ensures.1 in
    let g = g_within S c.loop-test.true c.pair_first-two.ensures.0 c.pair_first-two.ensures.1 in
    omega (arith, S.parts.left_within, S.parts.right_within)

pub overflow_add-r : goal.overflow_add-r
overflow_add-r c =
    let S = c.loop.invariant in
    let P = pairing_room S in
    let e = e-within S c.loop-test.true c.pair_first-two.ensures.0 c.pair_first-two.ensures.1 in
    let g = g_within S c.loop-test.true c.pair_first-two.ensures.0 c.pair_first-two.ensures.1 in
    omega (arith, S.parts.left_within, S.parts.right_within)

pub loop-preserved : goal.loop-preserved
loop-preserved c =
    let invariant = c.loop.invariant in
    let loop_test = c.loop-test.true in
    let pair_first_told = c.pair_first-two.ensures in
    paired-more invariant loop_test pair_first_told.0 pair_first_told.1 pair_first_told.2

pub overflow_add-result : goal.overflow_add-result
overflow_add-result c =
    let S = c.loop.invariant in
    let P = pairing_room S in
    omega (arith, S.left_passed, S.right_passed)

pub shape_of-room : goal.shape_of-room
shape_of-room c = pairing_long c.loop.invariant

pub returns : goal.returns
returns c =
    let both = all-paired c.loop.invariant c.loop-test.false in
    record { value = both.0; room_after = both.1 }
