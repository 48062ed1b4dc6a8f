-- `walks::walk::terms_end` meets its contract. The loop's invariant: the end of all terms is that of the terms due from `end` on.
use Prim.Native.Nat.{◌+◌, ◌-◌, ◌≤◌}
use mathlib.Core.Path.{◌≡◌}
use lib.ListN.{length, drop}
use Rattle.terms.specs.Bounds.{edition_one}
use Rattle.terms.specs.Laws.Walk.{span}
use Rattle.walks.proofs.walk.terms_end.Given as goal

abbrev pub invariant-loop-due : goal.invariant-loop-due
invariant-loop-due l =
    (l.from + span edition_one l.arities (drop l.from l.words) l.terms ≡ l.end + span edition_one l.arities (drop l.end l.words) l.due) × (l.end ≤ length l.words)

abbrev pub decreases-loop-due : goal.decreases-loop-due
decreases-loop-due l = length l.words - l.end
