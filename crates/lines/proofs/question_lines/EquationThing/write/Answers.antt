use Rattle.std.proofs.lemmas.Result.{err_from_is_err_and}
use Rattle.lines.specs.Lines.{equation_at}
use Rattle.word_writer.specs.Passages.{passed_then, passed_stop}
use Rattle.lines.proofs.question_lines.EquationThing.write.Goals as goal

pub returns-in_err-left : goal.returns-in_err-left
unfolding equation_at
returns-in_err-left c =
    let p = err_from_is_err_and c.from_residual.result c.from_residual.ensures.1 in
    rw (p.1, p.2) (passed_stop c.write_term_line.ensures _ c.in_err-left.was)

pub returns : goal.returns
unfolding equation_at
returns c = passed_then c.write_term_line.ensures _ c.in_ok-left.was c.write_term_line-2.ensures
