use Rattle.choices.proofs.Equating.{first-within, second_parts, first_full, equations-written}
use Rattle.replace.specs.Fitting.{further}
use Rattle.rows.specs.Wrote.{done-fits, done-length}
use native.Mathlib.Omega.{arith}
use Rattle.choices.proofs.equations.equations.Goals as goal

pub overflow_add-to : goal.overflow_add-to
overflow_add-to c = let k = first-within c.requires _ c.in_ok-w.ensures in omega (arith, c.requires.0.to_within)

pub overflow_sub-capacity : goal.overflow_sub-capacity
overflow_sub-capacity c = let k = first-within c.requires _ c.in_ok-w.ensures in omega (arith, c.requires.0.to_within)

pub equations_of-requires-2 : goal.equations_of-requires-2
equations_of-requires-2 c = second_parts c.requires _ c.in_ok-w.ensures

pub overflow_add-result : goal.overflow_add-result
unfolding further
overflow_add-result c =
    let w = equations-written c.requires _ c.in_ok-w.ensures c.in_ok-v.ensures in
    omega (arith, c.requires.0.to_within, done-fits w, done-length w)

pub returns : goal.returns
unfolding further
returns c = equations-written c.requires _ c.in_ok-w.ensures c.in_ok-v.ensures

pub returns-in_err-v : goal.returns-in_err-v
unfolding further
returns-in_err-v c = rw c.from_residual-in_err-v.ensures (equations-written c.requires _ c.in_ok-w.ensures c.in_err-v.ensures)

pub returns-in_err-w : goal.returns-in_err-w
returns-in_err-w c = rw c.from_residual.ensures (first_full c.requires _ c.in_err-w.ensures)
