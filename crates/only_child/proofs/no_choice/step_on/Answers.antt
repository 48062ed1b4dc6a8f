-- `only_child::no_choice::step_on`: the laws of `StepAsked`, one at each place where it returns.
use native.Mathlib.Omega.{arith}
use Rattle.only_child.proofs.StepAsked.{step_passed, step_due, right_within, first-within, step_asked, step_told}
use Rattle.only_child.proofs.no_choice.step_on.Goals as goal

pub returns-then-number-gt0 : goal.returns-then-number-gt0
returns-then-number-gt0 c = λ st e es S. step_passed S (omega (arith, c.if-number-gt0.true))

pub returns-then-most-eq0 : goal.returns-then-most-eq0
returns-then-most-eq0 c = λ st e es S. step_due S (omega (arith, c.if-number-gt0.false)) (omega (arith, c.if-most-eq0.true))

pub overflow_add-last : goal.overflow_add-last
overflow_add-last c = let S = c.requires.here in omega (arith, first-within S, S.ready.scratch_rows, S.ready.small)

pub slice_bounds-subject_of-end : goal.slice_bounds-subject_of-end
slice_bounds-subject_of-end c = let S = c.requires.here in omega (arith, first-within S, S.ready.scratch_rows, S.ready.small)

pub subject_of-subject-requires : goal.subject_of-subject-requires
subject_of-subject-requires c =
    let S = c.requires.here in
    (right_within S, omega (arith, right_within S, first-within S, S.ready.scratch_rows, S.ready.small))

pub take_step-requires : goal.take_step-requires
take_step-requires c =
    step_asked c.requires.here (omega (arith, c.if-most-eq0.false)) c.subject_of-subject.ensures

pub returns : goal.returns
returns c =
    let if1 = c.if-number-gt0.false in
    let if2 = c.if-most-eq0.false in
    let subject_of_told = c.subject_of-subject.ensures in
    λ st e es S. step_told S (omega (arith, if1)) (omega (arith, if2)) subject_of_told c.take_step.ensures c.told_of.ensures
