use Rattle.std.proofs.Common.{◌∙◌, sym, refl, arith, rules, ◌-◌}
use Rattle.case_fields.proofs.FieldLaws.{count_none, field_last, field_whole, field_step, tabs_step, field_missing}
use Rattle.case_fields.proofs.line.field.Goals as goal

pub returns-in_err-end-clause-there : goal.returns-in_err-end-clause-there
returns-in_err-end-clause-there c =
    let none = count_none 9 c.loop.rest.now c.in_err-end.ensures.value in
    rw c.from_residual.ensures (λ e. cc, λ h. absurd (omega (arith, none, c.loop.invariant.1, c.loop-test.true, h)))

pub returns-in_err-end-clause-exact : goal.returns-in_err-end-clause-exact
returns-in_err-end-clause-exact c =
    rw c.from_residual.ensures
    (sym c.loop.invariant.2 ∙ field_missing c.loop.rest.now (c.args.n - c.loop.counter) (omega (arith, c.loop-test.true)) c.in_err-end.ensures.value)

pub loop-preserved : goal.loop-preserved
loop-preserved c = (
  search rules,
  omega (arith, tabs_step c.loop.rest.now c.in_ok-end.end c.in_ok-end.ensures.within c.in_ok-end.ensures.value, c.loop.invariant.1),
  sym (field_step c.loop.rest.now c.args.n c.loop.counter c.in_ok-end.end c.loop-test.true c.in_ok-end.ensures.value) ∙ c.loop.invariant.2,
)

pub returns-in-Some-clause-there : goal.returns-in-Some-clause-there
returns-in-Some-clause-there c = (λ e. omega (arith, c.loop.invariant.1, c.loop-test.false), λ h. refl)

pub returns-in-Some-clause-exact : goal.returns-in-Some-clause-exact
returns-in-Some-clause-exact c =
    sym (field_last c.loop.rest.now (c.args.n - c.loop.counter) c.in-Some.end (omega (arith, c.loop-test.false)) c.in-Some.ensures.value) ∙ c.loop.invariant.2

pub returns-in-None-clause-there : goal.returns-in-None-clause-there
returns-in-None-clause-there c = (λ e. omega (arith, c.loop.invariant.1, c.loop-test.false), λ h. refl)

pub returns-in-None-clause-exact : goal.returns-in-None-clause-exact
returns-in-None-clause-exact c = sym (field_whole _ (c.args.n - c.loop.counter) (omega (arith, c.loop-test.false)) c.in-None.ensures.value) ∙ c.loop.invariant.2
