use Rattle.std.proofs.Common.{sym, ◌∙◌, rules}
use Rattle.std.proofs.lemmas.Result.{err_from_is_err_and}
use Rattle.writer.proofs.WrittenAnswer.{refused_unchecked, refused-measured, written-measured}
use Rattle.writer.proofs.question.write_question.Goals as goal

pub returns-in_err-check_question : goal.returns-in_err-check_question
returns-in_err-check_question c =
    let p = err_from_is_err_and c.from_residual.result c.from_residual.ensures.1 in
    let both = refused_unchecked _ _ _ _ _ (search rules) _ (sym c.check_question.ensures ∙ c.in_err-check_question.was) in
    rw (p.1, p.2) (record { value = both.0; text_after = both.1 })

pub returns-in_err-length : goal.returns-in_err-length
returns-in_err-length c =
    let p = err_from_is_err_and c.from_residual-in_err-length.result c.from_residual-in_err-length.ensures.1 in
    let both = refused-measured _ _ _ _ _ (search rules) (sym c.check_question.ensures ∙ c.in_ok-check_question.was) c.measure.ensures _ c.in_err-length.was in
    rw (p.1, p.2) (record { value = both.0; text_after = both.1 })

pub returns : goal.returns
returns c =
    let both = written-measured _ _ _ _ _ (search rules) (sym c.check_question.ensures ∙ c.in_ok-check_question.was) c.measure.ensures _ c.in_ok-length.was c.write_lines.ensures in
    record { value = both.0; text_after = both.1 }
