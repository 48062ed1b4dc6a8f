use Rattle.plain_steps.proofs.Joins.{gather_parts, m_within, long, value_long, joined_dead, joined_names, join-parts, joined_live}
use Rattle.rows.specs.Finished.{finished_length}
use mathlib.Core.Path.{◌∙◌}
use native.Mathlib.Omega.{arith}
use Rattle.plain_steps.proofs.join.join.Goals as goal

pub gather-m-requires : goal.gather-m-requires
gather-m-requires c = gather_parts c.args.arities.now c.requires

pub overflow_add-last : goal.overflow_add-last
overflow_add-last c =
    let m = m_within c.args.arities.now c.requires c.gather-m.ensures.value c.gather-m.ensures.room_after in
    let l = long c.args.arities.now c.requires c.gather-m.ensures.value c.gather-m.ensures.room_after in
    omega (arith, c.requires.parts.by_within, c.requires.parts.small)

pub slice_bounds-is_in-end : goal.slice_bounds-is_in-end
slice_bounds-is_in-end c =
    let m = m_within c.args.arities.now c.requires c.gather-m.ensures.value c.gather-m.ensures.room_after in
    let l = long c.args.arities.now c.requires c.gather-m.ensures.value c.gather-m.ensures.room_after in
    omega (arith, c.requires.parts.by_within, c.requires.parts.small)

pub returns-then-is_in : goal.returns-then-is_in
returns-then-is_in c =
    joined_dead c.args.arities.now c.requires c.gather-m.ensures.value c.gather-m.ensures.room_after c.is_in.ensures c.if-is_in.true

pub returns-then-next-ge-PATH_UNKNOWNS : goal.returns-then-next-ge-PATH_UNKNOWNS
returns-then-next-ge-PATH_UNKNOWNS c =
    joined_names c.args.arities.now c.requires c.gather-m.ensures.value c.gather-m.ensures.room_after c.is_in.ensures c.if-is_in.false c.if-next-ge-PATH_UNKNOWNS.true

pub offset_bounds-room-last : goal.offset_bounds-room-last
offset_bounds-room-last c =
    let m = m_within c.args.arities.now c.requires c.gather-m.ensures.value c.gather-m.ensures.room_after in
    let l = long c.args.arities.now c.requires c.gather-m.ensures.value c.gather-m.ensures.room_after in
    omega (arith, c.requires.parts.by_within, c.requires.parts.small)

pub bounds-room-last : goal.bounds-room-last
bounds-room-last c =
    let m = m_within c.args.arities.now c.requires c.gather-m.ensures.value c.gather-m.ensures.room_after in
    let l = long c.args.arities.now c.requires c.gather-m.ensures.value c.gather-m.ensures.room_after in
    omega (arith, c.requires.parts.by_within, c.requires.parts.small)

pub overflow_add-m : goal.overflow_add-m
overflow_add-m c =
    let m = m_within c.args.arities.now c.requires c.gather-m.ensures.value c.gather-m.ensures.room_after in
    let l = long c.args.arities.now c.requires c.gather-m.ensures.value c.gather-m.ensures.room_after in
    omega (arith, c.requires.parts.by_within, c.requires.parts.small)

pub finish_pile-requires : goal.finish_pile-requires
finish_pile-requires c =
    rw c.unknown_word.ensures (join-parts c.args.arities.now c.requires c.gather-m.ensures.value c.gather-m.ensures.room_after c.if-next-ge-PATH_UNKNOWNS.false)

pub shape_of-room : goal.shape_of-room
shape_of-room c =
    let unknown_word_told = c.unknown_word.ensures in
    finished_length (rw unknown_word_told at c.finish_pile.ensures) ∙ value_long c.args.arities.now c.requires c.gather-m.ensures.value c.gather-m.ensures.room_after

pub returns : goal.returns
returns c =
    let is_in_told = c.is_in.ensures in
    let if1 = c.if-is_in.false in
    let if2 = c.if-next-ge-PATH_UNKNOWNS.false in
    let unknown_word_told = c.unknown_word.ensures in
    rw c.from.ensures (joined_live c.args.arities.now c.requires c.gather-m.ensures.value c.gather-m.ensures.room_after is_in_told if1 if2 (rw unknown_word_told at c.finish_pile.ensures))
