-- `walks::occurrence::find_unknown` meets its contract. The loop's invariant: the unknown occurs in the term as it does in the rest, with what is due before it.
use Prim.Native.Nat.{◌+◌, ◌*◌, ◌≤◌}
use mathlib.Core.Path.{◌≡◌}
use lib.ListN.{drop}
use Rattle.terms.specs.Bounds.{edition_one}
use Rattle.walks.specs.Occurrence.{in_rest}
use Rattle.walks.proofs.occurrence.find_unknown.Given as goal

abbrev pub invariant-loop-place : goal.invariant-loop-place
invariant-loop-place l =
    (in_rest edition_one l.arities l.unknown (drop l.from l.words) 0 ≡ in_rest edition_one l.arities l.unknown (drop l.place l.words) l.due)
    × (l.due ≤ 1 + 255 * l.place)
