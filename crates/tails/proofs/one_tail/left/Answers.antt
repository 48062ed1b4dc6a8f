use Rattle.tails.proofs.OpenSplit.{numbers}
use Rattle.tails.proofs.Tailing.{left-value-parts, left-bound-parts, left-made, tail_kept}
use native.Mathlib.Omega.{arith}
use mathlib.Core.Path.{refl}
use Rattle.tails.proofs.one_tail.left.Goals as goal

pub overflow_add-x-2 : goal.overflow_add-x-2
overflow_add-x-2 c = let N = numbers c.requires.due.opened in omega arith

pub offset_bounds-room-from : goal.offset_bounds-room-from
offset_bounds-room-from c = let N = numbers c.requires.due.opened in omega arith

pub bounds-room-from : goal.bounds-room-from
bounds-room-from c = let N = numbers c.requires.due.opened in omega arith

pub overflow_add-picks-2 : goal.overflow_add-picks-2
overflow_add-picks-2 c = let N = numbers c.requires.due.opened in omega arith

pub overflow_sub-sides : goal.overflow_sub-sides
overflow_sub-sides c = let N = numbers c.requires.due.opened in omega arith

pub lay_value-k-requires : goal.lay_value-k-requires
lay_value-k-requires c = left-value-parts c.requires.due

pub bind_tail-requires : goal.bind_tail-requires
bind_tail-requires c =
    left-bound-parts c.requires.due c.requires.kind c.lay_value-k.ensures.value c.lay_value-k.ensures.room_after refl

pub returns : goal.returns
returns c =
    let bind_tail_told = c.bind_tail.ensures in
    record { makes = λ p D k. left-made D k c.lay_value-k.ensures.value c.lay_value-k.ensures.room_after refl bind_tail_told; kept = λ p D k. tail_kept D _ c.lay_value-k.ensures.room_after bind_tail_told }
