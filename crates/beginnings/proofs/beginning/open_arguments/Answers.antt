-- `open_arguments`: by the byte after the name, then by the arity and the depth.
use native.Mathlib.Omega.{arith}
use mathlib.Core.Path.{refl}
use Rattle.numerals.proofs.ByteTests.{stands, stands-in, stands-not}
use Rattle.items.proofs.FirstByte.{arguments-refused, arguments_open, arguments-deep, arguments_none, arguments_lacking}
use Rattle.beginnings.proofs.beginning.open_arguments.Goals as goal

pub returns-then-arity-eq0 : goal.returns-then-arity-eq0
returns-then-arity-eq0 c = λ ws. arguments-refused _ _ refl _ _ _ (stands _ _ c.peek.result _ c.peek.ensures c.if-eq.ensures) c.if-arity-eq0.true

pub overflow_add-result : goal.overflow_add-result
overflow_add-result c = omega (arith, stands-in _ _ c.peek.result _ c.peek.ensures c.if-eq.ensures (omega arith))

pub returns-then-depth-lt-NESTING : goal.returns-then-depth-lt-NESTING
returns-then-depth-lt-NESTING c = λ ws. arguments_open _ _ refl _ _ _ (stands _ _ c.peek.result _ c.peek.ensures c.if-eq.ensures) c.if-arity-eq0.false c.if-depth-lt-NESTING.true

pub returns-then-eq : goal.returns-then-eq
returns-then-eq c = λ ws. arguments-deep _ _ refl _ _ _ (stands _ _ c.peek.result _ c.peek.ensures c.if-eq.ensures) c.if-arity-eq0.false c.if-depth-lt-NESTING.false

pub returns-then-arity-eq0-2 : goal.returns-then-arity-eq0-2
returns-then-arity-eq0-2 c = λ ws. arguments_none _ _ refl _ _ _ (stands-not _ _ c.peek.result _ c.peek.ensures (omega arith) c.if-eq.ensures) c.if-arity-eq0-2.true

pub returns : goal.returns
returns c = λ ws. arguments_lacking _ _ refl _ _ _ (stands-not _ _ c.peek.result _ c.peek.ensures (omega arith) c.if-eq.ensures) c.if-arity-eq0-2.false
