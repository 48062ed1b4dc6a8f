use mathlib.Core.Path.{◌∙◌, sym}
use Rattle.term_places.specs.Places.{member_of}
use Rattle.term_places.specs.Opened.{resolvable}
use Rattle.term_places.specs.Membership.{rest_smaller}
use Rattle.term_places.proofs.Scanning.{scanning_end, scanning_opened, scanning_with, scanning_not, scanning_on}
use Rattle.term_places.proofs.scan.covers.Goals as goal

pub resolve-requires : goal.resolve-requires
resolve-requires c = let i = c.loop-y.invariant in resolvable i.compared.comparing.placed _ (scanning_opened i c.loop-y-test.true).next

pub covered-requires : goal.covered-requires
unfolding member_of
covered-requires c = rw c.resolve.ensures (scanning_with c.loop-y.invariant c.loop-y-test.true)

pub loop-y-smaller : goal.loop-y-smaller
loop-y-smaller c = rw c.rest-y.ensures (rest_smaller (scanning_opened c.loop-y.invariant c.loop-y-test.true))

pub loop-y-preserved : goal.loop-y-preserved
unfolding member_of
loop-y-preserved c =
    let told = rw c.resolve.ensures at c.covered.ensures in
    rw c.rest-y.ensures (scanning_on c.loop-y.invariant c.loop-y-test.true (sym c.if-covered.true ∙ told))

pub returns-else-covered : goal.returns-else-covered
unfolding member_of
returns-else-covered c =
    let told = rw c.resolve.ensures at c.covered.ensures in
    sym (scanning_not c.loop-y.invariant c.loop-y-test.true (sym c.if-covered.false ∙ told))

pub returns : goal.returns
returns c = sym (scanning_end c.loop-y.invariant c.loop-y-test.false)
