use Rattle.lines.specs.ListLines.{list_lines}
use Rattle.word_writer.specs.Passages.{passed_after}
use Rattle.lines.proofs.list_lines.write_list.Goals as goal

pub returns : goal.returns
unfolding list_lines
returns c = passed_after c.put_list_header-first.ensures c.write_each.ensures
