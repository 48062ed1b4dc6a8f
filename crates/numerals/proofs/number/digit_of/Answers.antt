-- `digit_of`: each answer is one case of `digit`.
use native.Mathlib.Omega.{arith}
use mathlib.Core.Path.{sym, ◌∙◌}
use Rattle.numerals.specs.Numbers.{digit_value, digit-above}
use Rattle.numerals.proofs.DigitTests.{digit_none}
use Rattle.numerals.proofs.number.digit_of.Goals as goal

pub returns-in-Ok-clause-exact : goal.returns-in-Ok-clause-exact
returns-in-Ok-clause-exact c =
    let h = c.if-is_ascii_digit.ensures.cases in
    c.from.ensures ∙ rw (← c.in-Ok.ensures.1) (sym (digit_value _ h.0 (omega (arith, h.1))))

pub returns-in_default-clause-exact : goal.returns-in_default-clause-exact
returns-in_default-clause-exact c = rw (← c.in-Ok.ensures.1) (digit_none _ c.if-is_ascii_digit.ensures.cases)

pub returns-in_default-2-clause-exact : goal.returns-in_default-2-clause-exact
returns-in_default-2-clause-exact c = let h = rw c.in_default.is at c.try_from.ensures in sym (digit-above _ (omega (arith, h)))
