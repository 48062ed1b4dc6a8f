-- `read_number`: no digit, a leading zero, 0 alone, or a first digit and those after it.
use native.Mathlib.Omega.{arith}
use mathlib.Core.Path.{sym, ◌∙◌}
use Rattle.numerals.proofs.DigitTests.{digit_there, number_none, number_led, number-zero, number_more, digits-end, digit_some, digit_missing}
use Rattle.numerals.proofs.number.read_number.Goals as goal
use Rattle.numerals.proofs.number.read_number.Goals.{else-first-eq0-via-else-first-eq0, else-first-eq0-via-then-first-eq0+else-is_some}

pub overflow_add-at : goal.overflow_add-at
overflow_add-at c = omega (arith, digit_there _ _ c.in-Some.ensures.exact c.in-Some.ensures.below)

pub overflow_add-at-in-Some : goal.overflow_add-at-in-Some
overflow_add-at-in-Some c = omega (arith, digit_there _ _ c.in-Some.ensures.exact c.in-Some.ensures.below)

pub returns-then-is_some : goal.returns-then-is_some
returns-then-is_some c =
    sym
    (number_led _ _ c.in-Some.ensures.exact c.digit_at-then-first-eq0.ensures.exact c.if-first-eq0.true
    (digit_some _ (sym c.is_some.ensures ∙ c.if-is_some.true) c.digit_at-then-first-eq0.ensures.below))

pub returns-else-first-eq0 : goal.returns-else-first-eq0
returns-else-first-eq0 c =
    c.read_digits.ensures
    ∙ elim c.else-first-eq0.branch [
      | else-first-eq0-via-else-first-eq0 w ↦ sym (number_more _ _ c.in-Some.ensures.exact c.in-Some.ensures.below w.if-first-eq0.false)
      | else-first-eq0-via-then-first-eq0+else-is_some w ↦
          let m = digit_missing _ (sym w.is_some.ensures ∙ w.if-is_some.false) in
          digits-end _ _ w.digit_at-then-first-eq0.ensures.exact _ _ _ m
          ∙ rw w.if-first-eq0.true (sym (number-zero _ _ c.in-Some.ensures.exact w.digit_at-then-first-eq0.ensures.exact w.if-first-eq0.true m))
    ]

pub returns-in-None : goal.returns-in-None
returns-in-None c = sym (number_none _ _ c.in-None.ensures.exact (omega arith))
