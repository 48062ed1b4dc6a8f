use Rattle.std.proofs.lemmas.Result.{err_from_is_err_and}
use Rattle.equality.specs.Answering.{solving_after, solves_answer}
use Rattle.equality.proofs.solves.Goals as goal

pub returns-in_err-check_question : goal.returns-in_err-check_question
unfolding solves_answer solving_after
returns-in_err-check_question c =
    let p = err_from_is_err_and c.from_residual.result c.from_residual.ensures.1 in
    rw (p.1, p.2, ← c.check_question.ensures, c.in_err-check_question.was)

pub returns-in_err-check_row : goal.returns-in_err-check_row
unfolding solves_answer solving_after
returns-in_err-check_row c =
    let p = err_from_is_err_and c.from_residual-in_err-check_row.result c.from_residual-in_err-check_row.ensures.1 in
    rw (p.1, p.2, ← c.check_question.ensures, c.in_ok-check_question.was, ← c.check_row.ensures, c.in_err-check_row.was)

pub returns : goal.returns
unfolding solves_answer solving_after
returns c = rw (← c.check_question.ensures, c.in_ok-check_question.was, ← c.check_row.ensures, c.in_ok-check_row.was, ← c.values_solve.ensures)
