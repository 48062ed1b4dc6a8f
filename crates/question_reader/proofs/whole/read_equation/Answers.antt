-- `read_equation`: the left side, then the right side from where the left ended.
use mathlib.Core.Path.{◌∙◌}
use Rattle.std.proofs.lemmas.Result.{err_from_is_err_and}
use Rattle.term_reader.specs.ReadingAnswers.{is_read, is_stopped}
use Rattle.question_reader.proofs.EquationSides.{left-refused, left-read, left-ends}
use Rattle.question_reader.proofs.whole.read_equation.Goals as goal

pub returns-in_err-right : goal.returns-in_err-right
returns-in_err-right c =
    let p = err_from_is_err_and c.from_residual.result c.from_residual.ensures.1 in
    rw (p.1, p.2) (left-refused _ _ _ _ _ _ (is_stopped _ c.read_side.ensures _ c.in_err-right.was))

pub read_side-requires-2 : goal.read_side-requires-2
read_side-requires-2 c = left-ends _ _ _ _ _ _ _ c.requires (is_read _ c.read_side.ensures _ c.in_ok-right.was)

pub returns : goal.returns
returns c = c.read_side-2.ensures ∙ left-read _ _ _ _ _ _ _ (is_read _ c.read_side.ensures _ c.in_ok-right.was)
