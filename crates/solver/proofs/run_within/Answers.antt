-- `solver::run_within`: `TestsPassed` says which refusal comes first, and what a run that is not refused tells.
use mathlib.Core.Path.{sym, ◌∙◌}
use native.Mathlib.Omega.{arith}
use lib.Seq.{length-take-le}
use Rattle.results.specs.Loans.{needed}
use Rattle.search_turn.proofs.GoesOn.{needed_small}
use Rattle.results.proofs.Telling.{faulty, small_room}
use Rattle.solver.proofs.TestsPassed.{fine_run, asking}
use Rattle.solver.proofs.run_within.Goals as goal

pub overflow_mul-needed : goal.overflow_mul-needed
unfolding needed
overflow_mul-needed c = omega (arith, needed_small c.args.limits c.requires.depth c.requires.size)

pub returns-then-room-needed : goal.returns-then-room-needed
unfolding needed
returns-then-room-needed c = small_room _ _ _ _ _ _ _ (sym c.check_question.ensures ∙ c.in-Ok.is) c.if-room-needed.true

pub slice_bounds-start-end-in-Ok : goal.slice_bounds-start-end-in-Ok
unfolding needed
slice_bounds-start-end-in-Ok c = sym (length-take-le _ _ c.if-room-needed.false)

pub start-requires : goal.start-requires
unfolding needed
start-requires c =
    asking _ c.requires (sym c.check_question.ensures ∙ c.in-Ok.is)
    (length-take-le _ _ c.if-room-needed.false)

pub returns-in-Err : goal.returns-in-Err
returns-in-Err c = faulty _ _ _ _ _ _ _ (sym c.check_question.ensures ∙ c.in-Err.is)

pub returns-else-room-needed : goal.returns-else-room-needed
unfolding needed
returns-else-room-needed c =
    fine_run _ _ _ _ _ _ _ (sym c.check_question.ensures ∙ c.in-Ok.is) c.if-room-needed.false c.start.ensures
