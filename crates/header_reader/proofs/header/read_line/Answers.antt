-- `read_line`: each answer is that of the first part that was refused, or of all three.
use mathlib.Core.Path.{sym, ◌∙◌}
use Rattle.std.proofs.lemmas.Result.{err_from_is_err_and}
use Rattle.term_reader.specs.ReadingAnswers.{is_met, is_unmet}
use Rattle.header_reader.proofs.HeaderLines.{line_unmet, line_unfit, line-number}
use Rattle.header_reader.proofs.header.read_line.Goals as goal

pub returns-in_err-p : goal.returns-in_err-p
returns-in_err-p c =
    let p = err_from_is_err_and c.from_residual.result c.from_residual.ensures.1 in
    rw (p.1, p.2) (line_unmet _ _ _ _ _ _ (is_unmet _ _ _ _ c.meet.ensures _ c.in_err-p.was))

pub returns-in_err-read : goal.returns-in_err-read
returns-in_err-read c =
    let p = err_from_is_err_and c.from_residual-in_err-read.result c.from_residual-in_err-read.ensures.1 in
    rw (p.1, p.2) (line_unfit _ _ _ _ _ _ (is_met _ _ _ _ c.meet.ensures _ c.in_ok-p.was) _ (sym c.in_err-read.ensures))

pub returns-in_err-end : goal.returns-in_err-end
returns-in_err-end c =
    let p = err_from_is_err_and c.from_residual-in_err-end.result c.from_residual-in_err-end.ensures.1 in
    rw (p.1, p.2)
    (sym (is_unmet _ _ _ _ c.meet-2.ensures _ c.in_err-end.was)
    ∙ line-number _ _ _ _ _ _ (is_met _ _ _ _ c.meet.ensures _ c.in_ok-p.was) _ c.in_ok-read.read.value (sym c.in_ok-read.ensures))

pub returns : goal.returns
returns c =
    sym (is_met _ _ _ _ c.meet-2.ensures _ c.in_ok-end.was)
    ∙ line-number _ _ _ _ _ _ (is_met _ _ _ _ c.meet.ensures _ c.in_ok-p.was) _ _ (sym c.in_ok-read.ensures)
