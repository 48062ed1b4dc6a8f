-- `pass_tail`: by the byte after the tail.
use native.Mathlib.Omega.{arith}
use mathlib.Core.Path.{refl}
use Rattle.numerals.proofs.ByteTests.{stands, stands-in, stands-not}
use Rattle.items.proofs.AfterItem.{after_tail_close, after_tail_none}
use Rattle.items.proofs.item.pass_tail.Goals as goal

pub overflow_add-result : goal.overflow_add-result
overflow_add-result c = omega (arith, stands-in _ _ c.peek.result _ c.peek.ensures c.if-eq.ensures (omega arith))

pub returns-then-eq : goal.returns-then-eq
returns-then-eq c = λ ws. after_tail_close _ _ refl _ (stands _ _ c.peek.result _ c.peek.ensures c.if-eq.ensures)

pub returns : goal.returns
returns c = λ ws. after_tail_none _ _ refl _ (stands-not _ _ c.peek.result _ c.peek.ensures (omega arith) c.if-eq.ensures)
