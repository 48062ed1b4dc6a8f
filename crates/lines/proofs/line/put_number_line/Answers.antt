use Rattle.text.specs.Text.{line}
use Rattle.word_writer.specs.Writing.{wrote_then}
use Rattle.lines.proofs.line.put_number_line.Goals as goal

pub returns : goal.returns
unfolding line
returns c =
    wrote_then c.put_bytes-value.ensures (wrote_then c.put_number-end.ensures c.put_byte.ensures)
