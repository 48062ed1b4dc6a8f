-- The loop has compared the bytes of the key before this one, and is as far after `at`.
use mathlib.Core.Path.{◌≡◌}
use lib.ListN.{drop}
use Rattle.numerals.specs.Bytes.{met}
use Rattle.numerals.proofs.bytes.meet.Given as goal

abbrev pub invariant-loop-b : goal.invariant-loop-b
invariant-loop-b l = met l.text l.key l.at ≡ met l.text (drop l.b-index l.key) l.p
