use mathlib.Core.Path.{◌≡◌, sym, ◌∙◌}
use native.Mathlib.Omega.{arith}
use Rattle.eights.proofs.Copying.{Running, none_run, all_run, part_runs, part_stays, run_stops, run_goes_on}
use Rattle.eights.specs.Block.{BLOCK}
use Rattle.eights.proofs.copy_before.Goals.{At-loop-place, Left-loop-run, else-loop-run-test, then-loop-run-test+then-not-copy_eight}
use Rattle.eights.proofs.copy_before.Goals as goal

-- the first loop is left
eights_run : (c : Left-loop-run)
    → let a = c.args in
    Running a.room.now a.from a.n a.x a.to c.loop-run-test.room c.loop-run.run
eights_run c =
    let R = c.loop-run.invariant in
    elim c.loop-run-test.branch [
      | else-loop-run-test w ↦ rw w.room-is R
      | then-loop-run-test+then-not-copy_eight w ↦ part_stays R _ (w.room-is ∙ rw w.if-not-copy_eight.true at w.copy_eight.ensures.room_after)
    ]

-- the second loop is at a turn's start, or left
running : (c : At-loop-place)
    → let a = c.args in
    Running a.room.now a.from a.n a.x a.to c.loop-place.room c.loop-place.place
running c = c.loop-place.invariant _ (eights_run c.before)

pub loop-run-init : goal.loop-run-init
loop-run-init c = none_run c.requires

pub loop-run-preserved : goal.loop-run-preserved
loop-run-preserved c =
    let R = c.loop-run.invariant in
    let e = c.if-not-copy_eight.false in
    part_runs R BLOCK _ (omega (arith, R.copied.count, c.loop-run-test.true)) (sym c.copy_eight.ensures.value ∙ e) (rw e at c.copy_eight.ensures.room_after)

pub returns-then-word-x : goal.returns-then-word-x
returns-then-word-x c =
    let both = run_stops (running (goal.at.returns-then-word-x c).At-loop-place) c.loop-place-test.true c.if-word-x.true in
    record { value = both.0; room_after = both.1 }

pub loop-place-preserved : goal.loop-place-preserved
loop-place-preserved c = λ r₀ R. run_goes_on (c.loop-place.invariant r₀ R) c.loop-place-test.true c.if-word-x.false

pub returns : goal.returns
returns c =
    let R = running (goal.at.returns c).At-loop-place in
    let both = all_run R c.loop-place-test.false in
    let end : c.args.n ≡ c.loop-place.place = omega (arith, R.copied.count) in
    record { value = end ∙ both.0; room_after = both.1 }
