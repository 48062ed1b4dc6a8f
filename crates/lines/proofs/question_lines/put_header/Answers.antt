use Rattle.lines.specs.Lines.{header}
use Rattle.word_writer.specs.Writing.{wrote_then}
use Rattle.lines.proofs.question_lines.put_header.Goals as goal

pub returns : goal.returns
unfolding header
returns c =
    wrote_then c.put_number_line-second.ensures
    (wrote_then c.put_number_line-third.ensures
    (wrote_then c.put_arities-fourth.ensures c.put_number_line.ensures))
