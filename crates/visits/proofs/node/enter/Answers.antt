-- `visits::node::enter`: the number written leaves the child's row as it was, and `OpenedChild` says what is noted of it.
use mathlib.Core.Path.{refl, ap, ◌∙◌}
use native.Mathlib.Omega.{arith}
use lib.ListN.{length}
use Rattle.room.specs.Room.{length-put}
use Rattle.visits.proofs.OpenedChild.{place_small, note_asks, opened_held, opened_space}
use Rattle.visits.proofs.node.enter.Goals as goal

pub overflow_mul-at : goal.overflow_mul-at
overflow_mul-at c = omega (arith, place_small c.requires.level_small c.requires.size_small)

pub set_number-requires : goal.set_number-requires
set_number-requires c = (omega (arith, c.requires.within), omega arith)

pub overflow_add-child : goal.overflow_add-child
overflow_add-child c = omega (arith, place_small c.requires.level_small c.requires.size_small)

pub overflow_add-end : goal.overflow_add-end
overflow_add-end c = omega (arith, place_small c.requires.level_small c.requires.size_small)

pub offset_bounds-room-child : goal.offset_bounds-room-child
offset_bounds-room-child c =
    omega (arith, place_small c.requires.level_small c.requires.size_small)

pub slice_bounds-note-end : goal.slice_bounds-note-end
slice_bounds-note-end c =
    omega (arith, c.requires.within, ap length c.set_number.ensures ∙ length-put _ _ _)

pub note-requires : goal.note-requires
note-requires c =
    let set_number_told = c.set_number.ensures in
    note_asks c.requires _ set_number_told c.with_nodes-more.ensures

pub returns-in-Some : goal.returns-in-Some
returns-in-Some c =
    let both = opened_held c.requires _ c.set_number.ensures c.with_nodes-more.ensures refl (c.note.ensures.value, c.note.ensures.answers_after)
    c.in-Some.is in
    record { value = both.0; room_after = both.1.0; answers_after = both.1.1 }

pub returns-in-None : goal.returns-in-None
returns-in-None c =
    let both = opened_space c.requires _ c.set_number.ensures c.with_nodes-more.ensures refl (c.note.ensures.value, c.note.ensures.answers_after) c.in-None.is in
    record { value = both.0; room_after = both.1.0; answers_after = both.1.1 }
