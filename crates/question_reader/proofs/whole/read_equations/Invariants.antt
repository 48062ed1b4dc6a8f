-- As many equations as were not read are due, from p on, after the words so far.
use Prim.Native.Nat.{◌-◌, ◌≤◌}
use mathlib.Core.Path.{◌≡◌}
use lib.ListN.{length}
use Rattle.terms.specs.Bounds.{edition_one}
use Rattle.question_reader.specs.Questions.{equations}
use Rattle.question_reader.proofs.whole.read_equations.Given as goal

abbrev pub invariant-loop : goal.invariant-loop
invariant-loop l =
    (equations edition_one l.text l.declared.unknowns l.declared.arities.now.items l.count l.at l.initial.words.items ≡ equations edition_one l.text l.declared.unknowns l.declared.arities.now.items (l.count - l.counter) l.p l.words.items)
    × (l.p ≤ length l.text)
