use Rattle.plain_steps.proofs.Pairing.{Pairing}
use Rattle.plain_steps.proofs.first_equation.pair_all.Given as goal

abbrev pub invariant-loop : goal.invariant-loop
invariant-loop l = Pairing l.arities l.initial.room l.k l.left l.n l.right l.m l.to l.room l.counter l.l l.r
