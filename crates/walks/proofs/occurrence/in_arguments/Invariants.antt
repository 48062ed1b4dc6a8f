-- `walks::occurrence::in_arguments` meets its contract. The loop's invariant: the unknown occurs in all the terms as it does in those due from a word on.
use Prim.Native.Nat.{◌+◌, ◌*◌, ◌≤◌}
use mathlib.Core.Path.{◌≡◌}
use lib.ListN.{drop}
use Rattle.terms.specs.Bounds.{edition_one}
use Rattle.walks.specs.Occurrence.{in_terms}
use Rattle.walks.proofs.occurrence.in_arguments.Given as goal

abbrev pub invariant-loop-word : goal.invariant-loop-word
invariant-loop-word l =
    (in_terms edition_one l.arities l.unknown l.words l.terms ≡ in_terms edition_one l.arities l.unknown (drop l.word-index l.words) l.due)
    × (l.due ≤ 255 + 255 * l.word-index)
