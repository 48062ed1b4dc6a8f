-- `children::next_child`: `Leaving` has the law of a row that is left at once.
use Rattle.children.proofs.Leaving.{left_at_once}
use Rattle.only_child.proofs.Only.{unopened}
use Rattle.pick_loop.proofs.ToldBefore.{looks_kept}
use Rattle.children.proofs.next_child.Goals as goal

pub returns-then-room-at-ne-MEMBER : goal.returns-then-room-at-ne-MEMBER
returns-then-room-at-ne-MEMBER c = λ st R. looks_kept (unopened _ (left_at_once R c.if-number-gt0.true c.if-room-at-ne-MEMBER.true))
