-- `read_whole`: the header, then the equations against what it declares.
use mathlib.Core.Path.{sym}
use Rattle.std.proofs.lemmas.Result.{err_from_is_err_and}
use Rattle.term_reader.specs.ReadingAnswers.{is_read, is_stopped}
use Rattle.question_reader.proofs.EquationSides.{header-ends, unheaded, unsided, whole-asked}
use Rattle.question_reader.proofs.whole.read_whole.Goals as goal

pub returns-in_err-head-clause-exact : goal.returns-in_err-head-clause-exact
returns-in_err-head-clause-exact c =
    let p = err_from_is_err_and c.from_residual.result c.from_residual.ensures.1 in
    rw (p.1, p.2) (unheaded _ _ (sym c.in_err-head.ensures.exact))

pub invariant_of-declared : goal.invariant_of-declared
invariant_of-declared c = record { few = (header-ends _ _ _ (sym c.in_ok-head.ensures.exact)).1 }

pub read_equations-requires : goal.read_equations-requires
read_equations-requires c = (header-ends _ _ _ (sym c.in_ok-head.ensures.exact)).0

pub returns-in_err-read_equations-clause-exact : goal.returns-in_err-read_equations-clause-exact
returns-in_err-read_equations-clause-exact c =
    let p = err_from_is_err_and c.from_residual-in_err-read_equations.result c.from_residual-in_err-read_equations.ensures.1 in
    let E = is_stopped _ (rw c.clear.ensures at c.read_equations.ensures) _ c.in_err-read_equations.was in
    rw (p.1, p.2) (unsided _ _ _ (sym c.in_ok-head.ensures.exact) _ E)

pub returns-clause-exact : goal.returns-clause-exact
returns-clause-exact c =
    whole-asked _ _ _ (sym c.in_ok-head.ensures.exact) _ _ (is_read _ (rw c.clear.ensures at c.read_equations.ensures) _ c.in_ok-read_equations.was)
