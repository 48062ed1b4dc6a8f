use Rattle.binding.proofs.EntriesRead.{Passing}
use mathlib.Core.Path.{◌≡◌}
use Prim.Native.Nat.{◌+◌, ◌-◌}
use Rattle.binding.proofs.pile.replace_entries.Given as goal

abbrev pub invariant-loop-read : goal.invariant-loop-read
invariant-loop-read l = Passing l.arities l.initial.room l.part l.from l.n l.x l.by l.m l.to l.capacity l.room l.read l.written × (l.end ≡ l.from + l.n)

abbrev pub decreases-loop-read : goal.decreases-loop-read
decreases-loop-read l = l.n - l.read
