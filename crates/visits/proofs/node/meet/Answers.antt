-- `visits::node::meet`: each case is the definition's; a child that is live is entered.
use mathlib.Core.Path.{refl}
use Rattle.visits.specs.DueNode.{node_turn, node_room, node_answers}
use Rattle.visits.proofs.node.meet.Goals as goal

pub enter-requires : goal.enter-requires
enter-requires c = c.requires c.in-Live.is

pub returns-in-Live : goal.returns-in-Live
returns-in-Live c =
    record { value = rw c.in-Live.is c.enter.ensures.value; room_after = rw c.in-Live.is c.enter.ensures.room_after; answers_after = rw c.in-Live.is c.enter.ensures.answers_after }

pub returns-in-Names : goal.returns-in-Names
unfolding node_turn node_room node_answers
returns-in-Names c =
    record { value = rw c.in-Names.is refl; room_after = rw c.in-Names.is refl; answers_after = rw c.in-Names.is refl }

pub returns-in-Large : goal.returns-in-Large
unfolding node_turn node_room node_answers
returns-in-Large c =
    record { value = rw c.in-Large.is refl; room_after = rw c.in-Large.is refl; answers_after = rw c.in-Large.is refl }
