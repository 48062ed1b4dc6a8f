use Rattle.rows.specs.Stepping.{kernel_word}
use Rattle.rows.proofs.step.word_of_kernel.Goals as goal

pub returns : goal.returns
unfolding kernel_word
returns c = rw c.place_of_kernel.ensures at c.word_at.ensures
