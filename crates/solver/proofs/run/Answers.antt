-- `solver::run`: the limits are within their bounds, or refused.
use Rattle.std.proofs.Common.{◌≡◌, Some, None, sym, ◌∙◌, arith}
use Rattle.std.proofs.lemmas.Result.{err_from_is_err_and}
use Rattle.terms.specs.declared.refusal.Cause.TheVariants.{Limit}
use Rattle.results.proofs.Telling.{within_limits, above_limits}
use Rattle.solver.proofs.TestsPassed.{within_bounds}
use Rattle.solver.proofs.run.Goals as goal

pub run_within-requires : goal.run_within-requires
run_within-requires c =
    let given = c.args in
    let e : c.new.result ≡ Some c.in_ok-limits.limits = grind arith in
    within_bounds given.steps given.depth given.size (sym c.new.ensures ∙ e)

pub returns : goal.returns
returns c =
    let e : c.new.result ≡ Some c.in_ok-limits.limits = grind arith in
    within_limits _ _ _ _ _ _ _ _ _ (sym c.new.ensures ∙ e) c.run_within.ensures

pub returns-in_err-limits : goal.returns-in_err-limits
returns-in_err-limits c =
    let p = err_from_is_err_and c.from_residual.result c.from_residual.ensures.1 in
    let e : c.new.result ≡ None = grind arith in
    let r : c.in_err-limits.field-0.0 ≡ record { cause = Limit; place = 0 } = grind arith in
    rw (p.1, p.2, r) (above_limits _ _ _ _ _ _ _ _ _ (sym c.new.ensures ∙ e))
