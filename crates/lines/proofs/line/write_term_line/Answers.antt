use Rattle.std.proofs.lemmas.Result.{err_from_is_err_and}
use Rattle.lines.proofs.Lined.{lined, lined_deep}
use Rattle.lines.proofs.line.write_term_line.Goals as goal

pub returns-in_err-term : goal.returns-in_err-term
returns-in_err-term c =
    let p = err_from_is_err_and c.from_residual.result c.from_residual.ensures.1 in
    rw (p.1, p.2) (lined_deep _ _ _ _ _ c.put_bytes-value.ensures c.write_term.ensures c.in_err-term.was)

pub returns : goal.returns
returns c = lined _ _ _ _ _ c.put_bytes-value.ensures c.write_term.ensures c.in_ok-term.was c.put_byte.ensures
