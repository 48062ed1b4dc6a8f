use Rattle.binding.proofs.Finishing.{row_sum, seal_parts, bindings_sealed, bindings_full}
use Rattle.rows.specs.Finished.{body-part}
use native.Mathlib.Omega.{arith}
use Rattle.binding.proofs.bind.finish_bindings.Goals as goal

pub bind_last-requires : goal.bind_last-requires
bind_last-requires c = (body-part c.requires, c.requires.unknown)

pub overflow_add-body : goal.overflow_add-body
overflow_add-body c =
    let s = row_sum c.requires c.in_ok-k.ensures in
    omega (arith, c.requires.size_small)

pub seal-requires : goal.seal-requires
seal-requires c =
    seal_parts c.args.pending c.args.pile c.requires c.in_ok-k.ensures

pub returns : goal.returns
returns c =
    bindings_sealed c.args.pending c.args.pile c.requires c.in_ok-k.ensures c.seal.ensures

pub returns-in_err-k : goal.returns-in_err-k
returns-in_err-k c =
    rw c.from_residual.ensures (bindings_full c.args.pending c.args.pile c.requires c.in_err-k.ensures)
