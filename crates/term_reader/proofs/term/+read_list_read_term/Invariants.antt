-- The two readers of terms, as a cycle: the measure is twice the unread length, plus one for the list.
-- The list's loop: the whole answer is that of what is left, the item at p after the words so far.
use Prim.Native.Nat.{ℕ, ◌+◌, ◌-◌, ◌*◌, ◌≤◌}
use mathlib.Core.List.{List}
use lib.ListN.{length}
use Rattle.terms.specs.declared.refusal.Refusal.{Refusal}
use Rattle.std.proofs.Common.{Result}
use Rattle.term_reader.proofs.Nested.{ListRead}
use Rattle.term_reader.proofs.term.+read_list_read_term.Given as goal

abbrev pub decreases-read_list : goal.decreases-read_list
decreases-read_list l = 2 * (length l.text.now - l.at) + 1

abbrev pub decreases-read_term : goal.decreases-read_term
decreases-read_term l = 2 * (length l.text.now - l.at)

abbrev pub invariant-read_list-loop-end : goal.invariant-read_list-loop-end
invariant-read_list-loop-end v =
    ((g : Result ℕ Refusal) (l : List ℕ) → ListRead v.text v.declared.unknowns v.declared.arities.now.items v.depth v.item v.p v.words.items g l → ListRead v.text v.declared.unknowns v.declared.arities.now.items v.depth v.initial.item v.at v.initial.words.items g l)
    × (v.at ≤ v.p) × (v.p ≤ length v.text)

abbrev pub decreases-read_list-loop-end : goal.decreases-read_list-loop-end
decreases-read_list-loop-end l = length l.text - l.p
