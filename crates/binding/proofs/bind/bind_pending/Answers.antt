use Rattle.binding.proofs.BindingPieces.{pending_within, entries-parts, entries-written, pending_full}
use Rattle.rows.specs.Bind.{pending_parts}
use Rattle.replace.specs.Fitting.{further}
use Rattle.rows.specs.Wrote.{done-fits, done-length}
use native.Mathlib.Omega.{arith}
use Rattle.binding.proofs.bind.bind_pending.Goals as goal

pub replace_all-requires : goal.replace_all-requires
replace_all-requires c = pending_parts c.requires

pub overflow_add-to : goal.overflow_add-to
overflow_add-to c =
    let P = c.requires in
    let k = pending_within c.requires c.args.arities.now _ c.replace_all.ensures.value c.replace_all.ensures.room_after _ c.in_ok-k.was in
    omega (arith, P.to_within)

pub overflow_sub-capacity : goal.overflow_sub-capacity
overflow_sub-capacity c =
    let k = pending_within c.requires c.args.arities.now _ c.replace_all.ensures.value c.replace_all.ensures.room_after _ c.in_ok-k.was in
    omega arith

pub replace_released-requires : goal.replace_released-requires
replace_released-requires c =
    entries-parts c.requires c.args.arities.now _ c.replace_all.ensures.value c.replace_all.ensures.room_after _ c.in_ok-k.was

pub overflow_add-result : goal.overflow_add-result
unfolding further
overflow_add-result c =
    let P = c.requires in
    let w = entries-written c.requires c.args.arities.now _ c.replace_all.ensures.value c.replace_all.ensures.room_after _ c.in_ok-k.was c.in_ok-l.ensures in
    omega (arith, P.to_within, done-fits w, done-length w)

pub returns : goal.returns
unfolding further
returns c =
    entries-written c.requires c.args.arities.now _ c.replace_all.ensures.value c.replace_all.ensures.room_after _ c.in_ok-k.was c.in_ok-l.ensures

pub returns-in_err-l : goal.returns-in_err-l
unfolding further
returns-in_err-l c =
    rw c.from_residual-in_err-l.ensures (entries-written c.requires c.args.arities.now _ c.replace_all.ensures.value c.replace_all.ensures.room_after _ c.in_ok-k.was c.in_err-l.ensures)

pub returns-in_err-k : goal.returns-in_err-k
returns-in_err-k c =
    rw c.from_residual.ensures (pending_full c.requires c.args.arities.now _ c.replace_all.ensures.value c.replace_all.ensures.room_after c.in_err-k.was)
