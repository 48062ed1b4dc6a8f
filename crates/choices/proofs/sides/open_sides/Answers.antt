use Rattle.choices.proofs.Opens.{first-parts, second_parts, all_long, sides_open}
use native.Mathlib.Omega.{arith}
use Rattle.choices.proofs.sides.open_sides.Goals as goal

pub note_members-n-requires : goal.note_members-n-requires
note_members-n-requires c = first-parts c.requires.open_there

pub note_members-m-requires : goal.note_members-m-requires
note_members-m-requires c =
    second_parts c.requires.open_there _ c.note_members-n.ensures.result_value c.note_members-n.ensures.room_after

pub overflow_add-scratch : goal.overflow_add-scratch
overflow_add-scratch c =
    let O = c.requires.open_there in
    let L = all_long c.requires.open_there _ c.note_members-n.ensures.result_value c.note_members-n.ensures.room_after _ c.note_members-m.ensures.result_value c.note_members-m.ensures.room_after in
    omega (arith, L.0, L.1, L.2, c.requires.open_there.space, c.requires.open_there.small)

pub offset_bounds-room-scratch : goal.offset_bounds-room-scratch
offset_bounds-room-scratch c =
    let O = c.requires.open_there in
    let L = all_long c.requires.open_there _ c.note_members-n.ensures.result_value c.note_members-n.ensures.room_after _ c.note_members-m.ensures.result_value c.note_members-m.ensures.room_after in
    omega (arith, L.0, L.1, L.2, c.requires.open_there.space, c.requires.open_there.small)

pub bounds-room-scratch : goal.bounds-room-scratch
bounds-room-scratch c =
    let O = c.requires.open_there in
    let L = all_long c.requires.open_there _ c.note_members-n.ensures.result_value c.note_members-n.ensures.room_after _ c.note_members-m.ensures.result_value c.note_members-m.ensures.room_after in
    omega (arith, L.0, L.1, L.2, c.requires.open_there.space, c.requires.open_there.small)

pub overflow_add-us-3 : goal.overflow_add-us-3
overflow_add-us-3 c =
    let O = c.requires.open_there in
    let L = all_long c.requires.open_there _ c.note_members-n.ensures.result_value c.note_members-n.ensures.room_after _ c.note_members-m.ensures.result_value c.note_members-m.ensures.room_after in
    omega (arith, L.0, L.1, L.2, c.requires.open_there.space, c.requires.open_there.small)

pub offset_bounds-room-us : goal.offset_bounds-room-us
offset_bounds-room-us c =
    let O = c.requires.open_there in
    let L = all_long c.requires.open_there _ c.note_members-n.ensures.result_value c.note_members-n.ensures.room_after _ c.note_members-m.ensures.result_value c.note_members-m.ensures.room_after in
    omega (arith, L.0, L.1, L.2, c.requires.open_there.space, c.requires.open_there.small)

pub bounds-room-us : goal.bounds-room-us
bounds-room-us c =
    let O = c.requires.open_there in
    let L = all_long c.requires.open_there _ c.note_members-n.ensures.result_value c.note_members-n.ensures.room_after _ c.note_members-m.ensures.result_value c.note_members-m.ensures.room_after in
    omega (arith, L.0, L.1, L.2, c.requires.open_there.space, c.requires.open_there.small)

pub returns : goal.returns
returns c =
    record { opened = λ k t u O. sides_open O _ c.note_members-n.ensures.result_value c.note_members-n.ensures.room_after _ c.note_members-m.ensures.result_value c.note_members-m.ensures.room_after c.from-s.ensures c.from-r.ensures }
