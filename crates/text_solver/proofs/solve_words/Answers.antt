-- `text_solver::solve_words`: the run ended and its list is printed, or its refusal.
use mathlib.Core.Path.{sym}
use lib.Seq.{length-take-le}
use Rattle.printing.specs.Solved.{of_words}
use Rattle.text_solver.proofs.Handing.{run_ended, run_refused}
use Rattle.text_solver.proofs.solve_words.Goals as goal

pub slice_bounds-answers-end : goal.slice_bounds-answers-end
slice_bounds-answers-end c = (run_ended _ _ _ _ c.run.ensures c.in-Ok.is).0

pub slice_bounds-print_list-end : goal.slice_bounds-print_list-end
slice_bounds-print_list-end c = sym (length-take-le _ _ (run_ended _ _ _ _ c.run.ensures c.in-Ok.is).0)

pub returns-in-Ok : goal.returns-in-Ok
unfolding of_words
returns-in-Ok c =
    rw (run_ended _ _ _ _ c.run.ensures c.in-Ok.is).1 c.print_list.ensures

pub returns-in-Err : goal.returns-in-Err
unfolding of_words
returns-in-Err c =
    rw (run_refused _ _ _ _ c.run.ensures c.in-Err.is) c.print_refusal.ensures
