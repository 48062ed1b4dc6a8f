use Rattle.plain_steps.proofs.Gathering.{Gathering}
use mathlib.Core.Path.{◌≡◌}
use Prim.Native.Nat.{◌+◌, ◌-◌}
use Rattle.plain_steps.proofs.join.gather.Given as goal

abbrev pub invariant-loop-read : goal.invariant-loop-read
invariant-loop-read l = Gathering l.arities l.initial.room l.from l.n l.x l.to l.room l.read l.written × (l.end ≡ l.from + l.n)

abbrev pub decreases-loop-read : goal.decreases-loop-read
decreases-loop-read l = l.n - l.read
