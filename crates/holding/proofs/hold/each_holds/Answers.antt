use mathlib.Core.Path.{sym}
use native.Mathlib.Omega.{arith}
use Rattle.term_places.specs.Opened.{resolvable}
use Rattle.holding.proofs.Holds.{holds-end, left_in, right_in, holds-asks, holds_no, holds_on}
use Rattle.holding.proofs.hold.each_holds.Goals as goal

pub term_end-right-requires : goal.term_end-right-requires
term_end-right-requires c = let i = c.loop.invariant in record { unknowns = _; terms = i.placed.terms; inside = left_in i (omega arith) }

pub resolve-requires : goal.resolve-requires
resolve-requires c = let i = c.loop.invariant in resolvable i.placed _ (left_in i (omega arith))

pub resolve-requires-in-loop : goal.resolve-requires-in-loop
resolve-requires-in-loop c =
    let i = c.loop.invariant in rw c.term_end-right.ensures (resolvable i.placed _ (right_in i (omega arith)))

pub same-requires : goal.same-requires
same-requires c =
    let r = rw c.term_end-right.ensures at c.resolve-in-loop.ensures in
    let w = c.loop.invariant in
    record { comparing = rw (c.resolve.ensures, r) (holds-asks w (omega arith)); settled = w.apart }

pub term_end-left-requires : goal.term_end-left-requires
term_end-left-requires c =
    let i = c.loop.invariant in
    rw c.term_end-right.ensures (record { unknowns = _; terms = i.placed.terms; inside = right_in i (omega arith) })

pub loop-preserved : goal.loop-preserved
loop-preserved c =
    let e = c.term_end-right.ensures in
    let r = rw e at c.resolve-in-loop.ensures in
    let s = rw (c.resolve.ensures, r) at c.same.ensures in
    rw (c.term_end-left.ensures, e) (holds_on c.loop.invariant (omega arith) s c.if-same.true (omega arith))

pub returns-else-same : goal.returns-else-same
returns-else-same c =
    let e = c.term_end-right.ensures in
    let r = rw e at c.resolve-in-loop.ensures in
    let s = rw (c.resolve.ensures, r) at c.same.ensures in
    sym (holds_no c.loop.invariant (omega arith) s c.if-same.false)

pub returns : goal.returns
returns c = sym (holds-end c.loop.invariant (omega arith))
