use Rattle.tails.proofs.Bounding.{tail_dead, tail_bound}
use Rattle.choices.specs.OpenParent.{elsewhere_same}
use Rattle.room.specs.Room.{seg}
use Rattle.tails.proofs.bound_tail.bind_tail.Goals as goal

pub returns-then-is_in : goal.returns-then-is_in
unfolding seg
returns-then-is_in c = record { makes = λ p name value B. tail_dead B c.is_in.ensures c.if-is_in.true; kept = elsewhere_same }

pub returns : goal.returns
unfolding seg
returns c =
    let is_in_told = c.is_in.ensures in
    let bound_told = c.bound.ensures in
    rw c.from.ensures (record { makes = λ p name value B. tail_bound B is_in_told c.if-is_in.false bound_told; kept = bound_told.kept })
