-- `open_set`: the empty set, a first member, or a bracket too deep.
use native.Mathlib.Omega.{arith}
use Rattle.numerals.proofs.ByteTests.{stands, stands-in, stands-not}
use mathlib.Core.Path.{refl, ◌∙◌}
use Rattle.items.proofs.FirstByte.{set_empty, set_open, set-deep}
use Rattle.beginnings.proofs.beginning.open_set.Goals as goal

pub end_empty-requires : goal.end_empty-requires
end_empty-requires c = stands-in _ _ c.peek.result _ c.peek.ensures c.if-eq.ensures (omega arith)

pub returns-then-eq : goal.returns-then-eq
returns-then-eq c = c.end_empty.ensures ∙ set_empty _ _ refl _ _ (stands _ _ c.peek.result _ c.peek.ensures c.if-eq.ensures)

pub returns-then-depth-lt-NESTING : goal.returns-then-depth-lt-NESTING
returns-then-depth-lt-NESTING c = c.open_member.ensures ∙ set_open _ _ refl _ _ (stands-not _ _ c.peek.result _ c.peek.ensures (omega arith) c.if-eq.ensures) c.if-depth-lt-NESTING.true

pub returns : goal.returns
returns c = set-deep _ _ refl _ _ (stands-not _ _ c.peek.result _ c.peek.ensures (omega arith) c.if-eq.ensures) c.if-depth-lt-NESTING.false
