use native.Mathlib.Omega.{arith}
use Rattle.holding.proofs.Started.{placing_end, placing_inside, placing_on}
use Rattle.holding.proofs.hold.place_values.Goals as goal

pub overflow_cast-start : goal.overflow_cast-start
overflow_cast-start c =
    let w = placing_inside c.loop-start.invariant (omega (arith, c.loop-start.invariant.long)) in omega (arith, w.inside, c.requires.few)

pub term_end-p-requires : goal.term_end-p-requires
term_end-p-requires c = placing_inside c.loop-start.invariant (omega (arith, c.loop-start.invariant.long))

pub loop-start-preserved : goal.loop-start-preserved
loop-start-preserved c = rw c.term_end-p.ensures (placing_on c.loop-start.invariant (omega (arith, c.loop-start.invariant.long)))

pub returns : goal.returns
returns c = placing_end c.loop-start.invariant (omega (arith, c.loop-start.invariant.long))
