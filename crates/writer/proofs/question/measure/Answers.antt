use mathlib.Core.Path.{◌∙◌}
use Rattle.writer.proofs.WrittenAnswer.{passed_measured}
use Rattle.writer.proofs.question.measure.Goals as goal

pub returns : goal.returns
returns c = c.answer.ensures ∙ passed_measured _ c.write_lines.ensures
