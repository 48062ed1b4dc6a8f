use mathlib.Core.Path.{sym}
use native.Mathlib.Omega.{arith}
use Rattle.term_places.specs.Places.{member_of}
use Rattle.term_places.specs.Opened.{resolvable}
use Rattle.term_places.specs.Membership.{rest_smaller}
use Rattle.term_places.proofs.Scanning.{covering_end, covering_opened, covering_here, covering_on}
use Rattle.term_places.proofs.scan.covered.Goals as goal

pub resolve-requires : goal.resolve-requires
resolve-requires c = let i = c.loop-x.invariant in resolvable i.compared.comparing.placed _ (covering_opened i c.loop-x-test.true).next

pub offset_bounds-labels-resolve : goal.offset_bounds-labels-resolve
unfolding member_of
offset_bounds-labels-resolve c =
    let invariant = c.loop-x.invariant in
    let k = (covering_opened invariant c.loop-x-test.true).member in
    let l = invariant.compared.comparing.classes.long in
    omega (arith, c.resolve.ensures)

pub bounds-labels-resolve : goal.bounds-labels-resolve
unfolding member_of
bounds-labels-resolve c = let i = c.loop-x.invariant in rw (c.resolve.ensures, i.compared.comparing.classes.long) (covering_opened i c.loop-x-test.true).member.inside

pub returns-then-labels-resolve : goal.returns-then-labels-resolve
unfolding member_of
returns-then-labels-resolve c =
    let invariant = c.loop-x.invariant in
    sym (covering_here invariant c.loop-x-test.true (rw c.resolve.ensures at c.if-labels-resolve.true))

pub loop-x-smaller : goal.loop-x-smaller
loop-x-smaller c = rw c.rest-x.ensures (rest_smaller (covering_opened c.loop-x.invariant c.loop-x-test.true))

pub loop-x-preserved : goal.loop-x-preserved
unfolding member_of
loop-x-preserved c =
    let invariant = c.loop-x.invariant in
    rw c.rest-x.ensures (covering_on invariant c.loop-x-test.true (λ e. c.if-labels-resolve.false (rw c.resolve.ensures e)))

pub returns : goal.returns
returns c = sym (covering_end c.loop-x.invariant c.loop-x-test.false)
