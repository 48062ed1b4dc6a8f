use mathlib.Core.Path.{◌∙◌}
use borrow.Author.Rules.{rules}
use Rattle.choices.proofs.Noting.{none_noted, numbers, note_last, word_passed, kernel-noted, mark_noted}
use native.Mathlib.Omega.{arith}
use Rattle.choices.proofs.members.note_members.Goals.{then-due-gt0, else-due-gt0+else-word-ne-MEMBER}
use Rattle.choices.proofs.members.note_members.Goals as goal

pub loop-place-init : goal.loop-place-init
loop-place-init c = none_noted _ c.requires

pub overflow_add-word : goal.overflow_add-word
overflow_add-word c = let N = numbers c.loop-place.invariant in omega arith

pub offset_bounds-room-body : goal.offset_bounds-room-body
offset_bounds-room-body c = let N = numbers c.loop-place.invariant in omega arith

pub bounds-room-body : goal.bounds-room-body
bounds-room-body c = let N = numbers c.loop-place.invariant in omega arith

pub overflow_add-due : goal.overflow_add-due
overflow_add-due c = let N = numbers c.loop-place.invariant in omega (arith, c.from.ensures, c.terms_after.type_inv)

pub overflow_cast-room : goal.overflow_cast-room
overflow_cast-room c = let N = numbers c.loop-place.invariant in omega arith

pub overflow_add-room : goal.overflow_add-room
overflow_add-room c = let N = numbers c.loop-place.invariant in omega arith

pub offset_bounds-room-to : goal.offset_bounds-room-to
offset_bounds-room-to c = let N = numbers c.loop-place.invariant in omega arith

pub bounds-room-to : goal.bounds-room-to
bounds-room-to c = let N = numbers c.loop-place.invariant in omega arith

pub shape_of-room-then-word-ne-MEMBER : goal.shape_of-room-then-word-ne-MEMBER
shape_of-room-then-word-ne-MEMBER c = let N = numbers c.loop-place.invariant in search rules

pub returns-then-word-ne-MEMBER : goal.returns-then-word-ne-MEMBER
returns-then-word-ne-MEMBER c =
    let both = kernel-noted c.loop-place.invariant c.loop-place-test.true (omega arith) c.if-word-ne-MEMBER.true in
    record { result_value = both.0; room_after = both.1 }

pub overflow_add-n : goal.overflow_add-n
overflow_add-n c = let N = numbers c.loop-place.invariant in omega arith

pub overflow_cast-room-2 : goal.overflow_cast-room-2
overflow_cast-room-2 c = let N = numbers c.loop-place.invariant in omega arith

pub overflow_add-room-2 : goal.overflow_add-room-2
overflow_add-room-2 c = let N = numbers c.loop-place.invariant in omega arith

pub offset_bounds-room-to-2 : goal.offset_bounds-room-to-2
offset_bounds-room-to-2 c = let N = numbers c.loop-place.invariant in omega arith

pub bounds-room-to-2 : goal.bounds-room-to-2
bounds-room-to-2 c = let N = numbers c.loop-place.invariant in omega arith

pub shape_of-room : goal.shape_of-room
shape_of-room c = let N = numbers c.loop-place.invariant in search rules

pub returns : goal.returns
returns c =
    let both = note_last c.loop-place.invariant c.loop-place-test.false in
    record { result_value = both.0; room_after = both.1 }

pub loop-place-preserved : goal.loop-place-preserved
loop-place-preserved c =
    let S = c.loop-place.invariant in
    elim c.if-due-gt0.branch [
      | then-due-gt0 w ↦ rw (w.room-is, w.due-is, w.n-is) (word_passed S c.loop-place-test.true w.if-due-gt0.true _ (w.from.ensures ∙ w.terms_after.ensures) (omega (arith, w.from.ensures, w.terms_after.type_inv)))
      | else-due-gt0+else-word-ne-MEMBER w ↦ rw (w.room-is, w.due-is, w.n-is) (mark_noted S c.loop-place-test.true (omega (arith, w.if-due-gt0.false)) w.if-word-ne-MEMBER.false)
    ]
