use mathlib.Core.Path.{◌∙◌}
use Rattle.lines.specs.Lines.{question_lines}
use Rattle.word_writer.specs.Passages.{passed_after}
use Rattle.lines.proofs.question_lines.write_lines.Goals as goal

pub shape_of-text : goal.shape_of-text
shape_of-text c = c.write_each.auto.text ∙ c.put_header-first.auto.text

pub returns : goal.returns
unfolding question_lines
returns c = passed_after c.put_header-first.ensures c.write_each.ensures
