-- `copy_before` meets its contract: the words passed are copied, and none of them is x. Both loops keep that.
use mathlib.Core.List.{List}
use Prim.Native.Nat.{ℕ, ◌-◌}
use Rattle.eights.proofs.Copying.{Running}
use Rattle.eights.proofs.copy_before.Given as goal

abbrev pub invariant-loop-run : goal.invariant-loop-run
invariant-loop-run l = Running l.initial.room l.from l.n l.x l.to l.room l.run

abbrev pub decreases-loop-run : goal.decreases-loop-run
decreases-loop-run l = l.n - l.run

-- whatever room the first loop began with
abbrev pub invariant-loop-place : goal.invariant-loop-place
invariant-loop-place l =
    (r₀ : List ℕ) → Running r₀ l.from l.n l.x l.to l.initial.room l.run → Running r₀ l.from l.n l.x l.to l.room l.place
