use native.Mathlib.Omega.{arith}
use Rattle.std.proofs.Common.{◌≡◌, ap, ◌∙◌}
use Rattle.only_child.specs.Next.{made_of}
use Rattle.pick_loop.proofs.PassedDead.{child-parts, elsewhere, made_dead, dead_parts, told-due, told_node, told_spent, passed_again, first-parts, first_spent, first_passed}
use Rattle.pick_loop.proofs.Repicking.{numbers}
use Rattle.pick_loop.proofs.pass.pick_after.Goals as goal

pub overflow_add-to : goal.overflow_add-to
overflow_add-to c = let N = numbers c.requires.here.here.opened in omega arith

pub overflow_add-to-2 : goal.overflow_add-to-2
overflow_add-to-2 c = let N = numbers c.requires.here.here.opened in omega arith

pub overflow_add-picks : goal.overflow_add-picks
overflow_add-picks c = let N = numbers c.requires.here.here.opened in omega arith

pub overflow_add-picks-2 : goal.overflow_add-picks-2
overflow_add-picks-2 c = let N = numbers c.requires.here.here.opened in omega arith

pub overflow_add-picks-3 : goal.overflow_add-picks-3
overflow_add-picks-3 c = let N = numbers c.requires.here.here.opened in omega arith

pub overflow_add-picks-4 : goal.overflow_add-picks-4
overflow_add-picks-4 c = let N = numbers c.requires.here.here.opened in omega arith

pub advance-requires : goal.advance-requires
advance-requires c = first-parts c.requires.here

pub returns-then-not-advance : goal.returns-then-not-advance
returns-then-not-advance c = λ p E. first_spent E c.advance.ensures (c.if-not-advance.true)

pub shape_of-room-then-not-advance : goal.shape_of-room-then-not-advance
shape_of-room-then-not-advance c = (returns-then-not-advance c c.requires.p c.requires.here).long

pub loop-k-init : goal.loop-k-init
loop-k-init c = λ l p P. P

pub split-made-requires : goal.split-made-requires
split-made-requires c =
    let advance_told = c.advance.ensures in
    child-parts (c.loop-k.invariant _ _ (first_passed c.requires.here advance_told (c.if-not-advance.false))) c.loop-k-test.true

pub advance-requires-in-loop-k : goal.advance-requires-in-loop-k
advance-requires-in-loop-k c =
    let P = c.loop-k.invariant _ _ (first_passed c.requires.here c.advance.ensures (c.if-not-advance.false)) in
    let t = c.loop-k-test.true in
    let M = c.split-made.ensures in
    dead_parts P t (elsewhere P t M) (made_dead P t M (c.reached.ensures ∙ ap made_of c.in_default.is))

pub returns-then-not-advance-2 : goal.returns-then-not-advance-2
returns-then-not-advance-2 c = λ p E.
    let P = c.loop-k.invariant _ p (first_passed E c.advance.ensures (c.if-not-advance.false)) in
    let t = c.loop-k-test.true in
    let M = c.split-made.ensures in
    told_spent P t (elsewhere P t M) (made_dead P t M (c.reached.ensures ∙ ap made_of c.in_default.is)) c.advance-in-loop-k.ensures (c.if-not-advance-2.true)

pub shape_of-room-then-not-advance-2 : goal.shape_of-room-then-not-advance-2
shape_of-room-then-not-advance-2 c =
    (returns-then-not-advance-2 c c.requires.p c.requires.here).long

pub loop-k-preserved : goal.loop-k-preserved
loop-k-preserved c = λ l p Q.
    let P = c.loop-k.invariant l p Q in
    let t = c.loop-k-test.true in
    let M = c.split-made.ensures in
    passed_again P t (elsewhere P t M) (made_dead P t M (c.reached.ensures ∙ ap made_of c.in_default.is)) c.advance-in-loop-k.ensures (c.if-not-advance-2.false)

pub returns-in-Some : goal.returns-in-Some
returns-in-Some c =
    λ p E. told_node (c.loop-k.invariant _ p (first_passed E c.advance.ensures (c.if-not-advance.false))) c.loop-k-test.true c.split-made.ensures _ (c.reached.ensures ∙ ap made_of c.in-Some.is)

pub shape_of-room-in-Some : goal.shape_of-room-in-Some
shape_of-room-in-Some c =
    (returns-in-Some c c.requires.p c.requires.here).long

pub returns : goal.returns
returns c = λ p E.
    let e : c.loop-k.k ≡ c.args.most = omega (arith, c.loop-k.auto.k-end, c.loop-k-test.false, E.may) in
    rw e at (told-due (c.loop-k.invariant _ p (first_passed E c.advance.ensures (c.if-not-advance.false))) c.loop-k-test.false)
