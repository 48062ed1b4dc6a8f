-- The loop has read digits of value v up to p, and as many as it has turns left may follow.
use Prim.Native.Nat.{◌<◌, ◌-◌}
use mathlib.Core.Path.{◌≡◌}
use Rattle.numerals.specs.Numbers.{digits}
use Rattle.numerals.proofs.DigitTests.{room}
use Rattle.numerals.proofs.number.read_digits.Given as goal

abbrev pub invariant-loop : goal.invariant-loop
invariant-loop l = (digits 4 l.text l.from l.at l.first ≡ digits (4 - l.counter) l.text l.from l.p l.v) × (l.v < room (4 - l.counter))
