use Rattle.std.proofs.Common.{◌≡◌, sym, ◌∙◌, arith, length}
use Rattle.checks.proofs.Checking.{stopped-out, stopped_step, stopped_at}
use Rattle.checks.proofs.check.check_short.Goals as goal

pub loop-place-preserved : goal.loop-place-preserved
loop-place-preserved c =
    (c.loop-place.invariant.0 ∙ stopped_step _ _ _ _ _ c.loop-place-test.true c.what_follows.ensures _ c.in_default.is, omega arith)

pub returns-in-Err : goal.returns-in-Err
returns-in-Err c =
    sym (c.loop-place.invariant.0 ∙ stopped_at _ _ _ _ _ c.loop-place-test.true c.what_follows.ensures _ c.in-Err.is)

pub returns : goal.returns
returns c =
    let end : c.loop-place.place ≡ length c.args.words.now = omega arith in
    rw (← end) (sym (c.loop-place.invariant.0 ∙ stopped-out _ _ _ _ _ c.loop-place-test.false))
