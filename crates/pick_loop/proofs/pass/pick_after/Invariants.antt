-- `pick_loop::pass::pick_after`: the laws of `PassedDead`. What was passed before the loop stays passed in it.
use Prim.Native.Nat.{ℕ}
use mathlib.Core.List.{List}
use Rattle.choices.specs.OpenParent.{Parent}
use Rattle.pick_loop.proofs.PassedDead.{Passed}
use Rattle.pick_loop.proofs.pass.pick_after.Given as goal

abbrev pub invariant-loop-k : goal.invariant-loop-k
invariant-loop-k v =
    (l : List ℕ) (p : Parent) → Passed v.arities l v.at v.rest v.sides v.tails v.first v.second v.size v.next v.scratch v.most p v.initial.room 1 → Passed v.arities l v.at v.rest v.sides v.tails v.first v.second v.size v.next v.scratch v.most p v.room v.k
