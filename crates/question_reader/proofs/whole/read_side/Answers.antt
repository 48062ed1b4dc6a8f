-- `read_side`: each answer is that of the first part that was refused, or of all three.
use native.Mathlib.Omega.{arith}
use mathlib.Core.Path.{◌∙◌}
use Rattle.std.proofs.lemmas.Result.{err_from_is_err_and}
use Rattle.term_reader.specs.ReadingAnswers.{is_met, is_unmet, term_is_read, term_is_refused}
use Rattle.question_reader.proofs.EquationSides.{key_ends, of_met-meets, side_unmet, side-refused, side_term}
use Rattle.question_reader.proofs.whole.read_side.Goals as goal

pub returns-in_err-p : goal.returns-in_err-p
returns-in_err-p c =
    let p = err_from_is_err_and c.from_residual.result c.from_residual.ensures.1 in
    rw (p.1, p.2) (side_unmet _ _ _ _ _ _ _ (is_unmet _ _ _ _ c.meet.ensures _ c.in_err-p.was))

pub read_term-requires : goal.read_term-requires
read_term-requires c =
    key_ends _ _ _ _ _ (λ i. omega (arith, c.type_inv.key i)) c.requires (is_met _ _ _ (tt {0}) c.meet.ensures _ c.in_ok-p.was)

pub returns-in_err-end : goal.returns-in_err-end
returns-in_err-end c =
    let p = err_from_is_err_and c.from_residual-in_err-end.result c.from_residual-in_err-end.ensures.1 in
    rw (p.1, p.2)
    (side-refused _ _ _ _ _ _ _ (is_met _ _ _ _ c.meet.ensures _ c.in_ok-p.was) _
    (term_is_refused _ _ _ _ _ _ _ c.read_term.ensures _ c.in_err-end.was))

pub returns : goal.returns
returns c =
    of_met-meets _ _ _ _ c.meet-2.ensures
    ∙ side_term _ _ _ _ _ _ _ (is_met _ _ _ _ c.meet.ensures _ c.in_ok-p.was) _ _
    (term_is_read _ _ _ _ _ _ _ c.read_term.ensures _ c.in_ok-end.was)
