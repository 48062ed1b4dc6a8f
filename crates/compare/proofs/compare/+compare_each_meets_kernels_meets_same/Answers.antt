use Prim.Native.Nat.{◌<◌, ◌-◌}
use native.Mathlib.Omega.{arith}
use Rattle.term_places.specs.Places.{member_of}
use Rattle.term_places.specs.Opened.{resolvable}
use Rattle.term_places.specs.Membership.{rest_smaller}
use Rattle.term_places.specs.Since.{settled_since}
use Rattle.compare.proofs.Meeting.{meeting_end, meeting_opened, meeting_asks, meeting_falls, meeting_yes, meeting_no}
use Rattle.compare.proofs.Matching.{matching_end, matching_opened, matching_asks, matching_falls, matching_on, matching_no}
use Rattle.compare.proofs.Arguing.{arguing_differ, arguing_start, arguing_end, left_inside, right_inside, arguing_asks, arguing_falls, arguing_no, arguing_on}
use Rattle.compare.proofs.Comparing.{kernels_fall, compare_kernels, kernels_no, members_no, compared, now_same}
use Rattle.compare.proofs.compare.+compare_each_meets_kernels_meets_same.Goals as goal
use Rattle.compare.proofs.compare.+compare_each_meets_kernels_meets_same.Goals.{meets-then-same, meets-else-same, compare-else-kernels-via-then-kernels+else-each_meets, compare-else-kernels-via-else-kernels}

pub compare-kernels-requires : goal.compare-kernels-requires
compare-kernels-requires t c =
    let k = c.kernel-k.ensures in
    let l = c.kernel-l.ensures in
    (omega (arith, c.decreases, kernels_fall k l), (compare_kernels c.requires.comparing k l, c.requires.settled))

pub compare-returns-then-each_meets : goal.compare-returns-then-each_meets
compare-returns-then-each_meets t c =
    compared c.requires.comparing c.kernel-k.ensures c.kernel-l.ensures c.kernels.ensures c.if-kernels.true
    c.each_meets.ensures c.if-each_meets.true c.covers.ensures

pub compare-returns : goal.compare-returns
compare-returns t c =
    elim c.else-kernels.branch [
      | compare-else-kernels-via-then-kernels+else-each_meets w ↦
          rw w.labels-is
          (members_no c.requires.comparing c.kernel-k.ensures c.kernel-l.ensures c.kernels.ensures w.if-kernels.true
          w.each_meets.ensures w.if-each_meets.false)
      | compare-else-kernels-via-else-kernels w ↦
          rw w.labels-is (kernels_no c.requires.comparing c.kernel-k.ensures c.kernel-l.ensures c.kernels.ensures w.if-kernels.false)
    ]

pub each_meets-resolve-requires : goal.each_meets-resolve-requires
each_meets-resolve-requires t c = let i = c.loop-x.invariant in resolvable i.placed _ (matching_opened i c.loop-x-test.true).next

pub each_meets-meets-requires : goal.each_meets-meets-requires
unfolding member_of
each_meets-meets-requires t c =
    let i = c.loop-x.invariant in
    let e = c.loop-x-test.true in
    rw c.resolve.ensures (omega (arith, c.decreases, matching_falls i e), (matching_asks i e, settled_since i.since c.requires.settled))

pub each_meets-loop-x-smaller : goal.each_meets-loop-x-smaller
each_meets-loop-x-smaller t c =
    rw c.rest-x.ensures (rest_smaller (matching_opened c.loop-x.invariant c.loop-x-test.true))

pub each_meets-loop-x-preserved : goal.each_meets-loop-x-preserved
unfolding member_of
each_meets-loop-x-preserved t c =
    let m = rw c.resolve.ensures at c.meets.ensures in
    rw c.rest-x.ensures (matching_on c.loop-x.invariant c.loop-x-test.true m c.if-meets.true)

pub each_meets-returns-else-meets : goal.each_meets-returns-else-meets
unfolding member_of
each_meets-returns-else-meets t c =
    let m = rw c.resolve.ensures at c.meets.ensures in
    matching_no c.loop-x.invariant c.loop-x-test.true m c.if-meets.false

pub each_meets-returns : goal.each_meets-returns
each_meets-returns t c = matching_end c.loop-x.invariant c.loop-x-test.false

pub kernels-returns-then-word-held : goal.kernels-returns-then-word-held
kernels-returns-then-word-held t c = arguing_differ c.requires.comparing_kernels c.if-word-held.true

pub kernels-loop-init : goal.kernels-loop-init
kernels-loop-init t c = arguing_start c.requires.comparing_kernels c.if-word-held.false (omega (arith, c.terms_after-due.ensures))

pub kernels-resolve-requires : goal.kernels-resolve-requires
kernels-resolve-requires t c = let i = c.loop.invariant in resolvable i.placed _ (left_inside i (omega arith))

pub kernels-resolve-requires-in-loop : goal.kernels-resolve-requires-in-loop
kernels-resolve-requires-in-loop t c = let i = c.loop.invariant in resolvable i.placed _ (right_inside i (omega arith))

pub kernels-same-requires : goal.kernels-same-requires
kernels-same-requires t c =
    let i = c.loop.invariant in
    let z : 0 < c.terms_after-due.result - c.loop.counter = omega arith in
    rw (c.resolve.ensures, c.resolve-in-loop.ensures)
    (omega (arith, c.decreases, arguing_falls i z), (arguing_asks i z, settled_since i.since c.requires.settled))

pub kernels-term_end-x-requires : goal.kernels-term_end-x-requires
kernels-term_end-x-requires t c =
    let i = c.loop.invariant in record { unknowns = _; terms = i.placed.terms; inside = left_inside i (omega arith) }

pub kernels-term_end-y-requires : goal.kernels-term_end-y-requires
kernels-term_end-y-requires t c =
    let i = c.loop.invariant in record { unknowns = _; terms = i.placed.terms; inside = right_inside i (omega arith) }

pub kernels-loop-preserved : goal.kernels-loop-preserved
kernels-loop-preserved t c =
    let s = rw (c.resolve.ensures, c.resolve-in-loop.ensures) at c.same.ensures in
    rw (c.term_end-x.ensures, c.term_end-y.ensures) (arguing_on c.loop.invariant (omega arith) s c.if-same.true (omega arith))

pub kernels-returns-else-same : goal.kernels-returns-else-same
kernels-returns-else-same t c =
    let s = rw (c.resolve.ensures, c.resolve-in-loop.ensures) at c.same.ensures in
    arguing_no c.loop.invariant (omega arith) s c.if-same.false

pub kernels-returns : goal.kernels-returns
kernels-returns t c = arguing_end c.loop.invariant (omega arith)

pub meets-resolve-requires : goal.meets-resolve-requires
meets-resolve-requires t c = let i = c.loop-y.invariant in resolvable i.placed _ (meeting_opened i c.loop-y-test.true).next

pub meets-same-requires : goal.meets-same-requires
unfolding member_of
meets-same-requires t c =
    let i = c.loop-y.invariant in
    let e = c.loop-y-test.true in
    rw c.resolve.ensures (omega (arith, c.decreases, meeting_falls i e), (meeting_asks i e, settled_since i.since c.requires.settled))

pub meets-loop-y-smaller : goal.meets-loop-y-smaller
meets-loop-y-smaller t c =
    rw c.rest-y.ensures (rest_smaller (meeting_opened c.loop-y.invariant c.loop-y-test.true))

pub meets-loop-y-preserved : goal.meets-loop-y-preserved
unfolding member_of
meets-loop-y-preserved t c =
    let s = rw c.resolve.ensures at c.same.ensures in
    rw c.rest-y.ensures
    (elim c.if-same.branch [
      | meets-then-same w ↦ rw w.met-is (meeting_yes c.loop-y.invariant c.loop-y-test.true s w.if-same.true)
      | meets-else-same w ↦ rw w.met-is (meeting_no c.loop-y.invariant c.loop-y-test.true s w.if-same.false)
    ])

pub meets-returns : goal.meets-returns
meets-returns t c = meeting_end c.loop-y.invariant c.loop-y-test.false

pub same-returns-then-compare : goal.same-returns-then-compare
same-returns-then-compare t c =
    now_same c.requires.comparing c.compare.ensures c.if-compare.true c.join.ensures
