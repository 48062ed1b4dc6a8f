use Rattle.word_writer.proofs.WordSteps.{stepped_after}
use Rattle.word_writer.proofs.begin.begin_tail.Goals as goal

pub returns : goal.returns
returns g c = stepped_after c.put_byte-next.ensures (rw c.change.ensures at c.begin.ensures)
