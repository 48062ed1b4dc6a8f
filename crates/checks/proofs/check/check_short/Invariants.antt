-- `checks::check::check_short` meets its contract. The loop's invariant: the fault of the words from the start is that of the words from the place on.
use Rattle.std.proofs.Common.{◌≡◌, ◌≤◌, length, drop}
use Rattle.terms.specs.Bounds.{edition_one}
use Rattle.checks.specs.Short.{stopped}
use Rattle.checks.proofs.check.check_short.Given as goal

abbrev pub invariant-loop-place : goal.invariant-loop-place
invariant-loop-place l =
    (stopped edition_one l.arities l.unknowns (drop l.from l.words) l.from ≡ stopped edition_one l.arities l.unknowns (drop l.place l.words) l.place) × (l.place ≤ length l.words)
