-- `open_tail`: by the first byte of the tail.
use native.Mathlib.Omega.{arith}
use mathlib.Core.Path.{refl}
use Rattle.numerals.proofs.ByteTests.{stands, stands-not}
use Rattle.items.proofs.AfterItem.{tail_refused, tail_due}
use Rattle.items.proofs.item.open_tail.Goals as goal

pub returns-then-eq : goal.returns-then-eq
returns-then-eq c = λ ws. tail_refused _ _ refl _ (stands _ _ c.peek.result _ c.peek.ensures c.if-eq.ensures)

pub returns : goal.returns
returns c = λ ws. tail_due _ _ refl _ (stands-not _ _ c.peek.result _ c.peek.ensures (omega arith) c.if-eq.ensures)
