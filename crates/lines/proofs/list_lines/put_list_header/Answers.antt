use Rattle.lines.specs.ListLines.{list_header}
use Rattle.word_writer.specs.Writing.{wrote_then}
use Rattle.lines.proofs.list_lines.put_list_header.Goals as goal

pub returns : goal.returns
unfolding list_header
returns c =
    wrote_then c.put_number_line-second.ensures
    (wrote_then c.put_end_line-third.ensures
    (wrote_then c.put_number_line-fourth.ensures c.put_number_line.ensures))
