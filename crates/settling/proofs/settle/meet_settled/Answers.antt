use Prim.Native.Nat.{◌+◌}
use mathlib.Core.Path.{sym, ◌∙◌}
use native.Mathlib.Omega.{arith}
use lib.ListN.{length}
use Rattle.std.proofs.lemmas.Slice.{between_to_end}
use Rattle.settling.proofs.SettlingLoop.{settles_alone, passing_skip, passing_yes, passing_no}
use Rattle.settling.proofs.settle.meet_settled.Goals as goal
use Rattle.settling.proofs.settle.meet_settled.Goals.{else-settled-q-via-then-settled-q+else-same, else-settled-q-via-else-settled-q}

pub returns-then-not-contains : goal.returns-then-not-contains
returns-then-not-contains c =
    let settled = c.args.settled.now in
    let later = between_to_end settled (c.args.p + 1) (length settled) (omega arith) in
    settles_alone c.requires (rw later at (sym c.contains.ensures.value ∙ c.if-not-contains.true))

pub returns-then-same : goal.returns-then-same
returns-then-same c =
    passing_yes c.loop-q.invariant c.loop-q-test.true c.if-settled-q.true c.same.ensures c.if-same.true

pub loop-q-preserved : goal.loop-q-preserved
loop-q-preserved c =
    elim c.else-settled-q.branch [
      | else-settled-q-via-then-settled-q+else-same w ↦
          rw w.labels-is (passing_no c.loop-q.invariant c.loop-q-test.true w.if-settled-q.true w.same.ensures w.if-same.false)
      | else-settled-q-via-else-settled-q w ↦ rw w.labels-is (passing_skip c.loop-q.invariant c.loop-q-test.true w.if-settled-q.false)
    ]
