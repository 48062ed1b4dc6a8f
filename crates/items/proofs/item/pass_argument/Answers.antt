-- `pass_argument`: by the byte after the argument, then by the number that is due.
use native.Mathlib.Omega.{arith}
use Rattle.numerals.specs.Bytes.{found}
use Rattle.items.proofs.AfterItem.{after_argument_many, after_argument-more, after_argument_close, after_argument_few, after_argument_none}
use Rattle.items.proofs.item.pass_argument.Goals as goal

pub returns-then-left-eq0 : goal.returns-then-left-eq0
returns-then-left-eq0 c = λ ws. after_argument_many _ _ c.in-Some-eq44.ensures _ _ c.in-Some-eq44.field-0-test c.if-left-eq0.true

pub overflow_add-result : goal.overflow_add-result
overflow_add-result c = omega (arith, found _ _ c.in-Some-eq44.ensures (omega arith))

pub returns-else-left-eq0 : goal.returns-else-left-eq0
returns-else-left-eq0 c = λ ws. after_argument-more _ _ c.in-Some-eq44.ensures _ _ c.in-Some-eq44.field-0-test c.if-left-eq0.false

pub overflow_add-result-then-left-eq0-2 : goal.overflow_add-result-then-left-eq0-2
overflow_add-result-then-left-eq0-2 c = omega (arith, found _ _ c.in-Some-eq41.ensures (omega arith))

pub returns-then-left-eq0-2 : goal.returns-then-left-eq0-2
returns-then-left-eq0-2 c =
    λ ws. after_argument_close _ _ c.in-Some-eq41.ensures _ _ (λ z. absurd (omega arith)) c.in-Some-eq41.field-0-test c.if-left-eq0-2.true

pub returns-else-left-eq0-2 : goal.returns-else-left-eq0-2
returns-else-left-eq0-2 c =
    λ ws. after_argument_few _ _ c.in-Some-eq41.ensures _ _ (λ z. absurd (omega arith)) c.in-Some-eq41.field-0-test c.if-left-eq0-2.false

pub returns-in_default : goal.returns-in_default
returns-in_default c =
    let t = c.in_default.field-0-test in
    λ ws. after_argument_none _ _ c.in_default.ensures _ _ t.0.1 t.1

pub returns-in_default-2 : goal.returns-in_default-2
returns-in_default-2 c =
    λ ws. after_argument_none _ _ (rw c.in_default.is at c.peek.ensures) _ _ (λ z. absurd (omega arith)) (λ z. absurd (omega arith))
