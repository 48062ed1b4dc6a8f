-- `read_arities`: the key is missing, an LF follows at once, or an arity is due.
use native.Mathlib.Omega.{arith}
use mathlib.Core.Path.{refl, ◌∙◌}
use Rattle.std.proofs.lemmas.Result.{err_from_is_err_and}
use Rattle.term_reader.specs.ReadingAnswers.{is_met, is_unmet}
use Rattle.numerals.proofs.ByteTests.{stands, stands-in, stands-not}
use Rattle.header_reader.proofs.HeaderLines.{arities_unmet, arities_none, arities-some}
use Rattle.header_reader.proofs.header.read_arities.Goals as goal

pub returns-in_err-p-clause-exact : goal.returns-in_err-p-clause-exact
returns-in_err-p-clause-exact c =
    let p = err_from_is_err_and c.from_residual.result c.from_residual.ensures.1 in
    rw (p.1, p.2) (arities_unmet _ _ _ (is_unmet _ _ _ _ c.meet.ensures _ c.in_err-p.was))

pub overflow_add-result : goal.overflow_add-result
overflow_add-result c = omega (arith, stands-in _ _ c.peek.result _ c.peek.ensures c.if-eq.ensures (omega arith))

pub returns-then-eq-clause-exact : goal.returns-then-eq-clause-exact
returns-then-eq-clause-exact c =
    rw c.clear.ensures (arities_none _ _ _ (is_met _ _ _ _ c.meet.ensures _ c.in_ok-p.was) refl (stands _ _ c.peek.result _ c.peek.ensures c.if-eq.ensures))

pub returns-clause-exact : goal.returns-clause-exact
returns-clause-exact c =
    c.read_numbers.ensures.exact ∙ arities-some _ _ _ (is_met _ _ _ _ c.meet.ensures _ c.in_ok-p.was) refl (stands-not _ _ c.peek.result _ c.peek.ensures (omega arith) c.if-eq.ensures)
