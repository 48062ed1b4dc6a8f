use Rattle.std.proofs.lemmas.Result.{err_from_is_err_and}
use Rattle.writer.proofs.WrittenAnswer.{answered_short, answered_long, answered-deep}
use Rattle.writer.proofs.written.answer.Goals as goal

pub returns-in_err-length : goal.returns-in_err-length
returns-in_err-length c =
    let p = err_from_is_err_and c.from_residual.result c.from_residual.ensures.1 in
    rw (p.1, p.2) (answered-deep _ _ c.in_err-length.was)

pub returns-then-room-length : goal.returns-then-room-length
returns-then-room-length c = answered_short _ _ c.in_ok-length.was c.if-room-length.true

pub returns : goal.returns
returns c = answered_long _ _ c.in_ok-length.was c.if-room-length.false
