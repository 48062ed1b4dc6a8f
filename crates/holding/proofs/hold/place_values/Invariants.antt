use Rattle.terms.specs.Bounds.{edition_one}
use Rattle.holding.proofs.Started.{Placing}
use Rattle.holding.proofs.hold.place_values.Given as goal

abbrev pub invariant-loop-start : goal.invariant-loop-start
invariant-loop-start l = Placing edition_one l.arities l.words l.from l.initial.starts l.starts l.p l.start-index
