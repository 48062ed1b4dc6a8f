-- `replace_all` meets its contract: at each turn the images of the words read are written. A turn copies a run, and then what
-- stands for the x that ended it.
use Prim.Native.Nat.{◌-◌}
use Rattle.replace.proofs.Replacing.{Replacing}
use Rattle.replace.proofs.replace_all.Given as goal

abbrev pub invariant-loop-read : goal.invariant-loop-read
invariant-loop-read l =
    Replacing l.initial.room l.from l.n l.x l.by l.m l.to l.capacity l.room l.read l.written

abbrev pub decreases-loop-read : goal.decreases-loop-read
decreases-loop-read l = l.n - l.read
