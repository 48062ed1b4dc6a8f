-- `digit_at`: no byte stands there, or the byte's answer.
use mathlib.Core.Path.{ap}
use Rattle.numerals.specs.Numbers.{digit}
use Rattle.numerals.proofs.number.digit_at.Goals as goal

pub returns-in_err-peek-clause-exact : goal.returns-in_err-peek-clause-exact
unfolding digit
returns-in_err-peek-clause-exact c = rw c.from_residual.ensures (ap digit (rw c.in_err-peek.was at c.peek.ensures))
