use mathlib.Core.Path.{◌∙◌}
use Rattle.writer.proofs.WrittenAnswer.{passed_measured}
use Rattle.list_writer.proofs.list.measure_list.Goals as goal

pub returns : goal.returns
returns c = c.answer.ensures ∙ passed_measured _ c.write_list.ensures
