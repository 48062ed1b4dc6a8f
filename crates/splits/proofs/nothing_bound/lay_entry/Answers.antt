use Rattle.tails.proofs.OpenSplit.{numbers}
use Rattle.splits.proofs.SameTail.{t-parts, k_within, u-parts, j_within, long, no_entry, one_entry}
use native.Mathlib.Omega.{arith}
use mathlib.Core.Path.{refl}
use borrow.Author.Rules.{rules}
use Rattle.splits.proofs.nothing_bound.lay_entry.Goals as goal

pub overflow_add-x : goal.overflow_add-x
overflow_add-x c = let N = numbers c.requires.opened in omega arith

pub offset_bounds-room-body : goal.offset_bounds-room-body
offset_bounds-room-body c = let N = numbers c.requires.opened in omega arith

pub bounds-room-body : goal.bounds-room-body
bounds-room-body c = let N = numbers c.requires.opened in omega arith

pub tail_members-k-requires : goal.tail_members-k-requires
tail_members-k-requires c = t-parts c.requires.opened _

pub overflow_add-picks-2 : goal.overflow_add-picks-2
overflow_add-picks-2 c =
    let N = numbers c.requires.opened in
    let k = k_within c.requires.opened _ c.tail_members-k.ensures.value c.tail_members-k.ensures.room_after in
    omega arith

pub overflow_add-value-4 : goal.overflow_add-value-4
overflow_add-value-4 c =
    let N = numbers c.requires.opened in
    let k = k_within c.requires.opened _ c.tail_members-k.ensures.value c.tail_members-k.ensures.room_after in
    omega arith

pub tail_members-l-requires : goal.tail_members-l-requires
tail_members-l-requires c =
    u-parts c.requires.opened _ c.tail_members-k.ensures.value c.tail_members-k.ensures.room_after

pub overflow_add-room-2 : goal.overflow_add-room-2
overflow_add-room-2 c =
    let N = numbers c.requires.opened in
    let k = k_within c.requires.opened _ c.tail_members-k.ensures.value c.tail_members-k.ensures.room_after in
    let j = j_within c.requires.opened _ c.tail_members-k.ensures.value c.tail_members-k.ensures.room_after c.tail_members-l.ensures.value c.tail_members-l.ensures.room_after in
    let l = long c.requires.opened _ c.tail_members-k.ensures.value c.tail_members-k.ensures.room_after c.tail_members-l.ensures.value c.tail_members-l.ensures.room_after in
    omega arith

pub overflow_add-room-3 : goal.overflow_add-room-3
overflow_add-room-3 c =
    let N = numbers c.requires.opened in
    let k = k_within c.requires.opened _ c.tail_members-k.ensures.value c.tail_members-k.ensures.room_after in
    let j = j_within c.requires.opened _ c.tail_members-k.ensures.value c.tail_members-k.ensures.room_after c.tail_members-l.ensures.value c.tail_members-l.ensures.room_after in
    let l = long c.requires.opened _ c.tail_members-k.ensures.value c.tail_members-k.ensures.room_after c.tail_members-l.ensures.value c.tail_members-l.ensures.room_after in
    omega arith

pub offset_bounds-room-value-2 : goal.offset_bounds-room-value-2
offset_bounds-room-value-2 c =
    let N = numbers c.requires.opened in
    let k = k_within c.requires.opened _ c.tail_members-k.ensures.value c.tail_members-k.ensures.room_after in
    let j = j_within c.requires.opened _ c.tail_members-k.ensures.value c.tail_members-k.ensures.room_after c.tail_members-l.ensures.value c.tail_members-l.ensures.room_after in
    let l = long c.requires.opened _ c.tail_members-k.ensures.value c.tail_members-k.ensures.room_after c.tail_members-l.ensures.value c.tail_members-l.ensures.room_after in
    omega arith

pub bounds-room-value-2 : goal.bounds-room-value-2
bounds-room-value-2 c =
    let N = numbers c.requires.opened in
    let k = k_within c.requires.opened _ c.tail_members-k.ensures.value c.tail_members-k.ensures.room_after in
    let j = j_within c.requires.opened _ c.tail_members-k.ensures.value c.tail_members-k.ensures.room_after c.tail_members-l.ensures.value c.tail_members-l.ensures.room_after in
    let l = long c.requires.opened _ c.tail_members-k.ensures.value c.tail_members-k.ensures.room_after c.tail_members-l.ensures.value c.tail_members-l.ensures.room_after in
    omega arith

pub overflow_add-k : goal.overflow_add-k
overflow_add-k c =
    let N = numbers c.requires.opened in
    let k = k_within c.requires.opened _ c.tail_members-k.ensures.value c.tail_members-k.ensures.room_after in
    let j = j_within c.requires.opened _ c.tail_members-k.ensures.value c.tail_members-k.ensures.room_after c.tail_members-l.ensures.value c.tail_members-l.ensures.room_after in
    let l = long c.requires.opened _ c.tail_members-k.ensures.value c.tail_members-k.ensures.room_after c.tail_members-l.ensures.value c.tail_members-l.ensures.room_after in
    omega arith

pub shape_of-room-then-k-l-eq0 : goal.shape_of-room-then-k-l-eq0
shape_of-room-then-k-l-eq0 c =
    let l = long c.requires.opened _ c.tail_members-k.ensures.value c.tail_members-k.ensures.room_after c.tail_members-l.ensures.value c.tail_members-l.ensures.room_after in
    search rules

pub returns-then-k-l-eq0 : goal.returns-then-k-l-eq0
returns-then-k-l-eq0 c =
    record { laid = λ arities rest next p S. no_entry S _ c.tail_members-k.ensures.value c.tail_members-k.ensures.room_after c.tail_members-l.ensures.value c.tail_members-l.ensures.room_after c.if-k-l-eq0.true }

pub overflow_add-result : goal.overflow_add-result
overflow_add-result c =
    let N = numbers c.requires.opened in
    let k = k_within c.requires.opened _ c.tail_members-k.ensures.value c.tail_members-k.ensures.room_after in
    let j = j_within c.requires.opened _ c.tail_members-k.ensures.value c.tail_members-k.ensures.room_after c.tail_members-l.ensures.value c.tail_members-l.ensures.room_after in
    let l = long c.requires.opened _ c.tail_members-k.ensures.value c.tail_members-k.ensures.room_after c.tail_members-l.ensures.value c.tail_members-l.ensures.room_after in
    omega arith

pub overflow_add-result-2 : goal.overflow_add-result-2
overflow_add-result-2 c =
    let N = numbers c.requires.opened in
    let k = k_within c.requires.opened _ c.tail_members-k.ensures.value c.tail_members-k.ensures.room_after in
    let j = j_within c.requires.opened _ c.tail_members-k.ensures.value c.tail_members-k.ensures.room_after c.tail_members-l.ensures.value c.tail_members-l.ensures.room_after in
    let l = long c.requires.opened _ c.tail_members-k.ensures.value c.tail_members-k.ensures.room_after c.tail_members-l.ensures.value c.tail_members-l.ensures.room_after in
    omega arith

pub shape_of-room : goal.shape_of-room
shape_of-room c =
    let l = long c.requires.opened _ c.tail_members-k.ensures.value c.tail_members-k.ensures.room_after c.tail_members-l.ensures.value c.tail_members-l.ensures.room_after in
    search rules

pub returns : goal.returns
returns c =
    record { laid = λ arities rest next p S. one_entry S _ c.tail_members-k.ensures.value c.tail_members-k.ensures.room_after c.tail_members-l.ensures.value c.tail_members-l.ensures.room_after c.if-k-l-eq0.false refl }
