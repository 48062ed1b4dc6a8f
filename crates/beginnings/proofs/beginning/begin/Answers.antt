-- `begin`: by the first byte of the term.
use native.Mathlib.Omega.{arith}
use mathlib.Core.Path.{◌∙◌}
use Rattle.numerals.specs.Bytes.{found}
use Rattle.items.proofs.FirstByte.{begin_unknown, begin_functor, begin_set, begin_none}
use Rattle.beginnings.proofs.beginning.begin.Goals as goal

pub read_unknown-requires : goal.read_unknown-requires
read_unknown-requires c = found _ _ c.in-Some-eq120.ensures (omega arith)

pub returns-in-Some-eq120 : goal.returns-in-Some-eq120
returns-in-Some-eq120 c = c.read_unknown.ensures ∙ begin_unknown _ _ c.in-Some-eq120.ensures _ _ _ _ c.in-Some-eq120.field-0-test

pub read_functor-requires : goal.read_functor-requires
read_functor-requires c = found _ _ c.in-Some-eq102.ensures (omega arith)

pub returns-in-Some-eq102 : goal.returns-in-Some-eq102
returns-in-Some-eq102 c =
    c.read_functor.ensures ∙ begin_functor _ _ c.in-Some-eq102.ensures _ _ _ _ (λ z. absurd (omega arith)) c.in-Some-eq102.field-0-test

pub open_set-requires : goal.open_set-requires
open_set-requires c = found _ _ c.in-Some-eq123.ensures (omega arith)

pub returns-in-Some-eq123 : goal.returns-in-Some-eq123
returns-in-Some-eq123 c =
    c.open_set.ensures ∙ begin_set _ _ c.in-Some-eq123.ensures _ _ _ _ (λ z. absurd (omega arith)) (λ z. absurd (omega arith)) c.in-Some-eq123.field-0-test

pub returns-in_default : goal.returns-in_default
returns-in_default c =
    let t = c.in_default.field-0-test in
    begin_none _ _ c.in_default.ensures _ _ _ _ t.0.0.1 t.0.1 t.1

pub returns-in_default-2 : goal.returns-in_default-2
returns-in_default-2 c =
    begin_none _ _ (rw c.in_default.is at c.peek.ensures) _ _ _ _ (λ z. absurd (omega arith)) (λ z. absurd (omega arith)) (λ z. absurd (omega arith))
