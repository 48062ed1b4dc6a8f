use mathlib.Core.Path.{◌∙◌, sym}
use Rattle.term_places.specs.Opened.{opened, closed}
use Rattle.term_places.specs.Membership.{kernel_open, rest_smaller}
use Rattle.term_places.proofs.places.Held.kernel.Goals as goal

pub loop-x-smaller : goal.loop-x-smaller
loop-x-smaller c =
    let o = opened c.requires.placed _ c.loop-x.invariant.0.inside c.loop-x-test.true in
    rw c.rest-x.ensures (rest_smaller o)

pub loop-x-preserved : goal.loop-x-preserved
loop-x-preserved c =
    let o = opened c.requires.placed _ c.loop-x.invariant.0.inside c.loop-x-test.true in
    rw c.rest-x.ensures (o.rest, c.loop-x.invariant.1 ∙ kernel_open o)

pub returns : goal.returns
returns c =
    let k = closed c.requires.placed _ c.loop-x.invariant.0 c.loop-x-test.false in
    record { known = c.loop-x.invariant.0; closed = c.loop-x-test.false; kernel = sym (c.loop-x.invariant.1 ∙ k.kernel) }
