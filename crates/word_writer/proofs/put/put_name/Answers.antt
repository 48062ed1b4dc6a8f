use Rattle.word_writer.specs.Writing.{wrote_then}
use Rattle.word_writer.proofs.put.put_name.Goals as goal

pub returns : goal.returns
returns c = wrote_then c.put_byte-next.ensures c.put_number.ensures
