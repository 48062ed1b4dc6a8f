use Prim.Native.Nat.{◌+◌}
use native.Mathlib.Omega.{arith}
use Rattle.replace.proofs.Replacing.{Replacing, none_replaced, all-replaced, run_parts, run_copied, run_stopped, same_full, same_parts, same_copied}
use Rattle.replace.proofs.replace_all.Goals.{After-copy_before-run}
use Rattle.replace.proofs.replace_all.Goals as goal

pub loop-read-init : goal.loop-read-init
loop-read-init c = none_replaced c.requires

-- the run is copied
ran : (c : After-copy_before-run)
    → let a = c.args in
    Replacing a.room.now a.from a.n a.x a.by a.m a.to a.capacity c.copy_before-run.new.room (c.loop-read.read + c.copy_before-run.result) (c.loop-read.written + c.copy_before-run.result)
ran c =
    run_copied c.loop-read.invariant c.min.ensures c.copy_before-run.ensures.value _ c.copy_before-run.ensures.room_after

pub copy_before-run-requires : goal.copy_before-run-requires
copy_before-run-requires c = run_parts c.loop-read.invariant c.min.ensures

pub overflow_add-read : goal.overflow_add-read
overflow_add-read c = omega (arith, ran (goal.at.overflow_add-read c).After-copy_before-run)

pub overflow_add-written : goal.overflow_add-written
overflow_add-written c = omega (arith, ran (goal.at.overflow_add-written c).After-copy_before-run)

pub returns-then-n-read : goal.returns-then-n-read
returns-then-n-read c =
    let both = all-replaced (ran (goal.at.returns-then-n-read c).After-copy_before-run) c.if-n-read.true in
    record { value = both.0; room_after = both.1 }

pub overflow_add-from-in-loop-read : goal.overflow_add-from-in-loop-read
overflow_add-from-in-loop-read c = omega (arith, ran (goal.at.overflow_add-from-in-loop-read c).After-copy_before-run)

pub offset_bounds-room-from : goal.offset_bounds-room-from
offset_bounds-room-from c = omega (arith, ran (goal.at.offset_bounds-room-from c).After-copy_before-run)

pub bounds-room-from : goal.bounds-room-from
bounds-room-from c = omega (arith, ran (goal.at.bounds-room-from c).After-copy_before-run)

pub returns-then-room-from : goal.returns-then-room-from
returns-then-room-from c =
    let both = run_stopped c.loop-read.invariant c.min.ensures c.copy_before-run.ensures.value c.copy_before-run.ensures.room_after c.if-n-read.false c.if-room-from.true in
    record { value = both.0; room_after = both.1 }

pub overflow_sub-capacity-in-loop-read : goal.overflow_sub-capacity-in-loop-read
overflow_sub-capacity-in-loop-read c = omega (arith, ran (goal.at.overflow_sub-capacity-in-loop-read c).After-copy_before-run)

pub returns-then-capacity-written : goal.returns-then-capacity-written
returns-then-capacity-written c =
    let both = same_full (ran (goal.at.returns-then-capacity-written c).After-copy_before-run) c.if-n-read.false c.if-room-from.false (omega arith) in
    record { value = both.0; room_after = both.1 }

pub overflow_add-to-in-loop-read : goal.overflow_add-to-in-loop-read
overflow_add-to-in-loop-read c = omega (arith, ran (goal.at.overflow_add-to-in-loop-read c).After-copy_before-run)

pub copy-requires : goal.copy-requires
copy-requires c = same_parts (ran (goal.at.copy-requires c).After-copy_before-run) c.if-capacity-written.false

pub overflow_add-read-in-loop-read : goal.overflow_add-read-in-loop-read
overflow_add-read-in-loop-read c = omega (arith, ran (goal.at.overflow_add-read-in-loop-read c).After-copy_before-run)

pub overflow_add-written-in-loop-read : goal.overflow_add-written-in-loop-read
overflow_add-written-in-loop-read c = omega (arith, ran (goal.at.overflow_add-written-in-loop-read c).After-copy_before-run)

pub loop-read-smaller : goal.loop-read-smaller
loop-read-smaller c = omega (arith, ran (goal.at.loop-read-smaller c).After-copy_before-run)

pub loop-read-preserved : goal.loop-read-preserved
loop-read-preserved c =
    same_copied (ran (goal.at.loop-read-preserved c).After-copy_before-run) c.if-n-read.false _ c.if-room-from.false c.if-capacity-written.false c.copy.ensures
