use native.Mathlib.Omega.{arith}
use mathlib.Core.Path.{◌≡◌, refl, sym, ◌∙◌}
use lib.ListN.{get_or}
use Rattle.numerals.specs.Bytes.{byte, in_text}
use Rattle.numerals.proofs.KeyTurns.{met_all, met_same, met_other}
use Rattle.numerals.proofs.ByteTests.{stands, stands-not, not_flip}
use Rattle.numerals.proofs.bytes.meet.Goals as goal

pub loop-b-init : goal.loop-b-init
loop-b-init c = refl

pub returns-then-ne : goal.returns-then-ne
returns-then-ne c =
    sym (c.loop-b.invariant ∙ met_other _ _ _ _ c.loop-b-test.true (stands-not _ _ _ _ c.peek.ensures (omega arith) (not_flip _ _ c.if-ne.ensures)))

pub overflow_add-p : goal.overflow_add-p
overflow_add-p c =
    let a = c.args in
    let b = c.type_inv.key c.loop-b.b-index in
    let e : byte a.text.now c.loop-b.p ≡ get_or a.key.now c.loop-b.b-index 0 = stands _ _ _ _ c.peek.ensures (not_flip _ _ c.if-ne.ensures) in
    omega (arith, in_text a.text.now c.loop-b.p (omega arith))

pub loop-b-preserved : goal.loop-b-preserved
loop-b-preserved c = c.loop-b.invariant ∙ met_same _ _ _ _ c.loop-b-test.true (stands _ _ _ _ c.peek.ensures (not_flip _ _ c.if-ne.ensures))

pub returns : goal.returns
returns c = sym (c.loop-b.invariant ∙ met_all _ _ _ _ c.loop-b-test.false)
