use Rattle.std.proofs.lemmas.Result.{err_from_is_err_and}
use Rattle.equality.specs.Answering.{equality_after, equal_answer}
use Rattle.equality.proofs.equal.Goals as goal

pub returns-in_err-check_row : goal.returns-in_err-check_row
unfolding equal_answer equality_after
returns-in_err-check_row c =
    let p = err_from_is_err_and c.from_residual.result c.from_residual.ensures.1 in
    rw (p.1, p.2, ← c.check_row.ensures, c.in_err-check_row.was)

pub returns : goal.returns
unfolding equal_answer equality_after
returns c = rw (← c.check_row.ensures, c.in_ok-check_row.was, ← c.both_equal.ensures)
