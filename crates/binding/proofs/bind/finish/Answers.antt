use Rattle.binding.proofs.Finishing.{row_sum, row_next, all_finished, all_full}
use Rattle.rows.specs.Finished.{body-part}
use native.Mathlib.Omega.{arith}
use Rattle.binding.proofs.bind.finish.Goals as goal

pub bind_pending-requires : goal.bind_pending-requires
bind_pending-requires c = body-part c.requires

pub overflow_add-written : goal.overflow_add-written
overflow_add-written c =
    let s = row_sum c.requires c.in_ok-k.ensures in
    omega (arith, c.requires.size_small)

pub finish_pile-requires : goal.finish_pile-requires
finish_pile-requires c =
    row_next c.requires c.in_ok-k.ensures

pub returns : goal.returns
returns c =
    all_finished c.args.arities.now c.requires c.in_ok-k.ensures c.finish_pile.ensures

pub returns-in_err-k : goal.returns-in_err-k
returns-in_err-k c =
    rw c.from_residual.ensures (all_full c.args.arities.now c.requires c.in_err-k.ensures)
