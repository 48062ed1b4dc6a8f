use Rattle.plain_steps.specs.OnlyStep.{drop_arm_parts, drop_arm, bind_arm_parts, bind_arm, postpone_arm_parts, postpone_arm, decompose_arm_parts, decompose_arm, sides_positive, dead_arm}
use Rattle.rows.specs.Row.{beside_same, finished_beside}
use Rattle.plain_steps.specs.Singles.{postpone_beside}
use Rattle.plain_steps.specs.Decomposed.{decompose_beside}
use native.Mathlib.Omega.{arith}
use Rattle.plain_steps.specs.Plain.{of_plain}
use mathlib.Core.Path.{ap, ◌∙◌}
use Rattle.plain_steps.proofs.child.take_step.Goals as goal

pub keep-requires : goal.keep-requires
keep-requires c = drop_arm_parts c.requires.here

pub finish-requires : goal.finish-requires
unfolding of_plain
finish-requires c = bind_arm_parts c.requires.here (ap of_plain c.in-Bind.is)

pub postpone-requires : goal.postpone-requires
unfolding of_plain
postpone-requires c = postpone_arm_parts c.requires.here (ap of_plain c.in-Postpone.is)

pub overflow_add-other : goal.overflow_add-other
unfolding of_plain
overflow_add-other c =
    let S = c.requires.here in
    let p = sides_positive S in
    let D = decompose_arm_parts S (ap of_plain c.in-Decompose.is) in
    omega (arith, D.pairs.right_within, D.pairs.small)

pub overflow_add-other-in-Decompose : goal.overflow_add-other-in-Decompose
unfolding of_plain
overflow_add-other-in-Decompose c =
    let S = c.requires.here in
    let p = sides_positive S in
    let D = decompose_arm_parts S (ap of_plain c.in-Decompose.is) in
    omega (arith, D.pairs.right_within, D.pairs.small)

pub overflow_sub-right : goal.overflow_sub-right
overflow_sub-right c =
    let p = sides_positive c.requires.here in
    omega arith

pub overflow_sub-end-in-Decompose : goal.overflow_sub-end-in-Decompose
overflow_sub-end-in-Decompose c =
    let p = sides_positive c.requires.here in
    omega arith

pub decompose-requires : goal.decompose-requires
unfolding of_plain
decompose-requires c = decompose_arm_parts c.requires.here (ap of_plain c.in-Decompose.is)

pub returns-in-Drop : goal.returns-in-Drop
unfolding of_plain
returns-in-Drop c =
    let keep_told = c.keep.ensures in
    rw c.from.ensures (record { taken = λ st e es node S o. drop_arm S (ap of_plain c.in-Drop.is) keep_told o; beside = λ st e es S. finished_beside keep_told })

pub returns-in-Bind : goal.returns-in-Bind
unfolding of_plain
returns-in-Bind c =
    let finish_told = c.finish.ensures in
    rw c.from-in-Bind.ensures (record { taken = λ st e es node S o. bind_arm S (ap of_plain c.in-Bind.is) finish_told o; beside = λ st e es S. finished_beside finish_told })

pub returns-in-Postpone : goal.returns-in-Postpone
unfolding of_plain
returns-in-Postpone c =
    let postpone_told = c.postpone.ensures in
    rw c.from-in-Postpone.ensures (record { taken = λ st e es node S o. postpone_arm S (ap of_plain c.in-Postpone.is) postpone_told o; beside = λ st e es S. postpone_beside _ (omega (arith, S.held.rows.next_row)) postpone_told })

pub returns-in-Decompose : goal.returns-in-Decompose
unfolding of_plain
returns-in-Decompose c =
    let terms_after_told = c.from-k.ensures ∙ c.terms_after.ensures in
    let decompose_told = c.decompose.ensures in
    rw c.from-in-Decompose.ensures (record { taken = λ st e es node S o. decompose_arm S (ap of_plain c.in-Decompose.is) terms_after_told decompose_told o; beside = λ st e es S. decompose_beside _ _ (decompose_arm_parts S (ap of_plain c.in-Decompose.is)) decompose_told })

pub returns-in-Dead : goal.returns-in-Dead
unfolding of_plain
returns-in-Dead c = record { taken = λ st e es node S o. dead_arm S (ap of_plain c.in-Dead.is) o; beside = λ st e es S. beside_same }
