-- `holding::spread::spreads_little`: the total stays below what a number holds.
use Prim.Native.Nat.{◌≤◌}
use Rattle.holding.proofs.spread.spreads_little.Given as goal

abbrev pub invariant-loop-word : goal.invariant-loop-word
invariant-loop-word l = l.total ≤ 6144
