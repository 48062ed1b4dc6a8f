use Rattle.choices.proofs.EquationsWritten.{first-within, second_parts, equation_full, equation-written}
use Rattle.replace.specs.Fitting.{further}
use Rattle.rows.specs.Wrote.{done-fits, done-length}
use native.Mathlib.Omega.{arith}
use Rattle.choices.proofs.equations.equation.Goals as goal

pub overflow_add-to : goal.overflow_add-to
overflow_add-to c = let k = first-within c.requires _ c.in_ok-k.ensures in omega (arith, c.requires.0.to_within)

pub overflow_sub-capacity : goal.overflow_sub-capacity
overflow_sub-capacity c = let k = first-within c.requires _ c.in_ok-k.ensures in omega (arith, c.requires.0.to_within)

pub side-requires-2 : goal.side-requires-2
side-requires-2 c = second_parts c.requires _ c.in_ok-k.ensures

pub overflow_add-result : goal.overflow_add-result
unfolding further
overflow_add-result c =
    let w = equation-written c.requires _ c.in_ok-k.ensures c.in_ok-j.ensures in
    omega (arith, c.requires.0.to_within, done-fits w, done-length w)

pub returns : goal.returns
unfolding further
returns c = equation-written c.requires _ c.in_ok-k.ensures c.in_ok-j.ensures

pub returns-in_err-j : goal.returns-in_err-j
unfolding further
returns-in_err-j c = rw c.from_residual-in_err-j.ensures (equation-written c.requires _ c.in_ok-k.ensures c.in_err-j.ensures)

pub returns-in_err-k : goal.returns-in_err-k
returns-in_err-k c = rw c.from_residual.ensures (equation_full c.requires _ c.in_err-k.ensures)
