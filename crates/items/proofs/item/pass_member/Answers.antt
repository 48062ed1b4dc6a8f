-- `pass_member`: by the byte after the member.
use native.Mathlib.Omega.{arith}
use mathlib.Core.Path.{◌∙◌}
use Rattle.numerals.specs.Bytes.{found}
use Rattle.items.proofs.AfterItem.{after_member-more, after_member_tail, after_member_close, after_member_none}
use Rattle.items.proofs.item.pass_member.Goals as goal

pub overflow_add-at : goal.overflow_add-at
overflow_add-at c = omega (arith, found _ _ c.in-Some-eq44.ensures (omega arith))

pub returns-in-Some-eq44 : goal.returns-in-Some-eq44
returns-in-Some-eq44 c = c.open_member.ensures ∙ after_member-more _ _ c.in-Some-eq44.ensures _ c.in-Some-eq44.field-0-test

pub overflow_add-at-in-Some-eq124 : goal.overflow_add-at-in-Some-eq124
overflow_add-at-in-Some-eq124 c = omega (arith, found _ _ c.in-Some-eq124.ensures (omega arith))

pub returns-in-Some-eq124 : goal.returns-in-Some-eq124
returns-in-Some-eq124 c = c.open_tail.ensures _ ∙ after_member_tail _ _ c.in-Some-eq124.ensures _ (λ z. absurd (omega arith)) c.in-Some-eq124.field-0-test

pub end_empty-requires : goal.end_empty-requires
end_empty-requires c = found _ _ c.in-Some-eq125.ensures (omega arith)

pub returns-in-Some-eq125 : goal.returns-in-Some-eq125
returns-in-Some-eq125 c =
    c.end_empty.ensures ∙ after_member_close _ _ c.in-Some-eq125.ensures _ (λ z. absurd (omega arith)) (λ z. absurd (omega arith)) c.in-Some-eq125.field-0-test

pub returns-in_default : goal.returns-in_default
returns-in_default c =
    let t = c.in_default.field-0-test in
    after_member_none _ _ c.in_default.ensures _ t.0.0.1 t.0.1 t.1

pub returns-in_default-2 : goal.returns-in_default-2
returns-in_default-2 c =
    after_member_none _ _ (rw c.in_default.is at c.peek.ensures) _ (λ z. absurd (omega arith)) (λ z. absurd (omega arith)) (λ z. absurd (omega arith))
