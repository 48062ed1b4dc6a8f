-- `checks::check::check_words` meets its contract. The loop's invariant: the check of all words is that of the words from the place on, with what is due there.
-- The terms that are due end within the words, or `check_short` takes over; only where a binding's unknown is the last word, its term is due where the words have ended.
use Rattle.std.proofs.Common.{◌≡◌, ◌≤◌, ◌+◌, ◌-◌, length, drop}
use Rattle.terms.specs.Bounds.{edition_one}
use Rattle.checks.specs.Check.{checked}
use Rattle.checks.proofs.check.check_words.Given as goal

abbrev pub invariant-loop-place : goal.invariant-loop-place
invariant-loop-place l =
    (checked edition_one l.arities l.unknowns l.words 0 l.answers 0 l.terms ≡ checked edition_one l.arities l.unknowns (drop l.place l.words) l.place l.answers_due l.bindings_due (l.terms_end - l.place))
    × (l.terms_end ≤ length l.words + (l.place + 1 - length l.words))
