use Rattle.word_writer.proofs.WordSteps.{begun_empty, begun_adding, begun_unknown, begun_constant, begun_arguments}
use Rattle.word_writer.proofs.begin.begin.Goals as goal

pub returns-then-n-eq0 : goal.returns-then-n-eq0
returns-then-n-eq0 g c =
    begun_constant _ _ _ c.close-then-n-eq0.ensures.wrote c.close-then-n-eq0.ensures.closes _ _ c.in-Functor.is c.if-n-eq0.true (rw c.from-in-Functor.ensures at c.put_name-next-in-Functor.ensures)

pub returns-in-Empty : goal.returns-in-Empty
returns-in-Empty g c = begun_empty _ _ _ c.close.ensures.wrote c.close.ensures.closes c.in-Empty.is c.put_bytes-next.ensures

pub returns-in-Adding : goal.returns-in-Adding
returns-in-Adding g c = begun_adding _ _ _ c.in-Adding.is c.open.ensures

pub returns-in-Unknown : goal.returns-in-Unknown
returns-in-Unknown g c =
    begun_unknown _ _ _ c.close-in-Unknown.ensures.wrote c.close-in-Unknown.ensures.closes _ c.in-Unknown.is (rw c.from.ensures at c.put_name-next.ensures)

pub returns-else-n-eq0 : goal.returns-else-n-eq0
returns-else-n-eq0 g c =
    begun_arguments _ _ _ _ _ c.in-Functor.is c.if-n-eq0.false (rw c.from-in-Functor.ensures at c.put_name-next-in-Functor.ensures) c.open-in-Functor.ensures
