use Rattle.rows.specs.Terms.Stripped.{stripped}
use Rattle.terms.specs.Bounds.{edition_one}
use lib.ListN.{drop}
use mathlib.Core.Path.{◌≡◌}
use Prim.Native.Nat.{◌+◌, ◌*◌, ◌≤◌}
use Rattle.rows.proofs.walk.place_of_kernel.Given as goal

abbrev pub invariant-loop-place : goal.invariant-loop-place
invariant-loop-place l =
    (stripped edition_one l.arities l.words 0 0 ≡ stripped edition_one l.arities (drop l.place l.words) l.due l.place) × (l.due ≤ 1 + 255 * l.place)
