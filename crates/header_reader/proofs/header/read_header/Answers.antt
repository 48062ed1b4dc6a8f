-- `read_header`: each answer is that of the first line that was refused, or of all four.
use mathlib.Core.Path.{sym}
use Rattle.std.proofs.lemmas.Result.{err_from_is_err_and}
use Rattle.term_reader.specs.ReadingAnswers.{is_read, is_stopped}
use Rattle.header_reader.proofs.HeaderLines.{no_edition, no_unknowns, no_arities, no_equations, headed}
use Rattle.header_reader.proofs.header.read_header.Goals as goal

pub returns-in_err-edition-clause-exact : goal.returns-in_err-edition-clause-exact
returns-in_err-edition-clause-exact c =
    let p = err_from_is_err_and c.from_residual.result c.from_residual.ensures.1 in
    rw (p.1, p.2) (no_edition _ _ (sym c.in_err-edition.ensures))

pub returns-in_err-unknowns-clause-exact : goal.returns-in_err-unknowns-clause-exact
returns-in_err-unknowns-clause-exact c =
    let p = err_from_is_err_and c.from_residual-in_err-unknowns.result c.from_residual-in_err-unknowns.ensures.1 in
    rw (p.1, p.2) (no_unknowns _ _ _ (sym c.in_ok-edition.ensures) _ (sym c.in_err-unknowns.ensures))

pub returns-in_err-functors-clause-exact : goal.returns-in_err-functors-clause-exact
returns-in_err-functors-clause-exact c =
    let p = err_from_is_err_and c.from_residual-in_err-functors.result c.from_residual-in_err-functors.ensures.1 in
    rw (p.1, p.2)
    (no_arities _ _ _ (sym c.in_ok-edition.ensures) _ _ (sym c.in_ok-unknowns.ensures) _ (is_stopped _ c.read_arities.ensures.exact _ c.in_err-functors.was))

pub returns-in_err-equations-clause-exact : goal.returns-in_err-equations-clause-exact
returns-in_err-equations-clause-exact c =
    let p = err_from_is_err_and c.from_residual-in_err-equations.result c.from_residual-in_err-equations.ensures.1 in
    rw (p.1, p.2)
    (no_equations _ _ _ (sym c.in_ok-edition.ensures) _ _ (sym c.in_ok-unknowns.ensures) _ _ (is_read _ c.read_arities.ensures.exact _ c.in_ok-functors.was) _
    (sym c.in_err-equations.ensures))

pub returns-clause-exact : goal.returns-clause-exact
returns-clause-exact c =
    headed _ _ _ (sym c.in_ok-edition.ensures) _ _ (sym c.in_ok-unknowns.ensures) _ _ (is_read _ c.read_arities.ensures.exact _ c.in_ok-functors.was) _ _
    (sym c.in_ok-equations.ensures)
