use Rattle.word_writer.proofs.WordSteps.{continued_empty, continued_adding, continued_unknown, continued_functor}
use Rattle.term_writer.proofs.term.continue_set.Goals as goal

pub returns-in-Empty : goal.returns-in-Empty
returns-in-Empty g c =
    let changed = c.change.ensures in
    continued_empty _ _ _ c.in-Empty.is (rw changed at c.close.ensures.wrote) (rw changed at c.close.ensures.closes)

pub returns-in-Adding : goal.returns-in-Adding
returns-in-Adding g c = rw c.change-in-Adding.ensures (continued_adding _ _ _ c.in-Adding.is c.put_byte.ensures)

pub returns-in-Unknown : goal.returns-in-Unknown
returns-in-Unknown g c = continued_unknown _ _ _ c.begin_tail.ensures _ c.in-Unknown.is

pub returns-in-Functor : goal.returns-in-Functor
returns-in-Functor g c = continued_functor _ _ _ c.begin_tail-in-Functor.ensures _ _ c.in-Functor.is
