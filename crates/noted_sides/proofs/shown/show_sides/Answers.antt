-- `noted_sides::shown::show_sides`: three words put one after the other.
use Prim.Native.Nat.{ℕ, suc, ◌+◌}
use mathlib.Core.Path.{◌≡◌}
use mathlib.Core.List.{List, [], ◌∷◌}
use native.Mathlib.Omega.{arith}
use lib.ListN.{set}
use Rattle.room.specs.Room.{put}
use Rattle.noted_sides.specs.NotedSides.{numbers_of}
use borrow.Author.Rules.{Below-set}
use Rattle.noted_sides.proofs.shown.show_sides.Goals as goal

three_put : (l : List ℕ) (i a b c : ℕ) → set (set (set l i a) (i + 1) b) (i + 2) c ≡ put l i (a ∷ b ∷ c ∷ [])
unfolding put
three_put l i a b c =
    let e : suc i ≡ i + 1 = omega arith in
    let f : suc (suc i) ≡ i + 2 = omega arith in
    rw (f, e)

pub bounds-room-to-2 : goal.bounds-room-to-2
bounds-room-to-2 c = let A = c.args in Below-set ℕ A.room.now (A.to + 1) A.to A.sides.n (omega (arith, c.requires.within))

pub bounds-room-to-3 : goal.bounds-room-to-3
bounds-room-to-3 c =
    let A = c.args in
    Below-set ℕ (set A.room.now A.to A.sides.n) (A.to + 2) (A.to + 1) A.sides.m
    (Below-set ℕ A.room.now (A.to + 2) A.to A.sides.n (omega (arith, c.requires.within)))

pub returns : goal.returns
unfolding numbers_of
returns c = three_put _ _ _ _ _
