-- `text_solver::solve_text`: the question was read and is run, or its refusal is printed.
use mathlib.Core.Path.{sym}
use lib.Seq.{length-take-le}
use Rattle.printing.specs.Solved.{solved, found}
use Rattle.text_solver.proofs.Handing.{question-taken, text_refused}
use Rattle.text_solver.proofs.solve_text.Goals as goal

pub slice_bounds-arities-end : goal.slice_bounds-arities-end
slice_bounds-arities-end c = (question-taken c.read_question.ensures c.in-Ok.is).functors

pub slice_bounds-solve_words-end : goal.slice_bounds-solve_words-end
slice_bounds-solve_words-end c = sym (length-take-le _ _ (question-taken c.read_question.ensures c.in-Ok.is).functors)

pub slice_bounds-words-end : goal.slice_bounds-words-end
slice_bounds-words-end c = (question-taken c.read_question.ensures c.in-Ok.is).count

pub slice_bounds-solve_words-end-in-Ok : goal.slice_bounds-solve_words-end-in-Ok
slice_bounds-solve_words-end-in-Ok c =
    sym (length-take-le _ _ (question-taken c.read_question.ensures c.in-Ok.is).count)

pub returns-in-Ok : goal.returns-in-Ok
unfolding solved found
returns-in-Ok c =
    rw (question-taken c.read_question.ensures c.in-Ok.is).runs c.solve_words.ensures

pub returns-in-Err : goal.returns-in-Err
unfolding solved found
returns-in-Err c = rw (text_refused c.read_question.ensures c.in-Err.is) c.print_refusal.ensures
