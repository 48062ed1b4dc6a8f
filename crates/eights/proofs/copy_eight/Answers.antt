-- `eights::copy_eight`: the words read are those of the part, and what `contains` tells of them is told of it.
use Prim.Native.Nat.{◌+◌, ◌-◌}
use mathlib.Core.Path.{◌≡◌}
use native.Mathlib.Omega.{arith}
use Rattle.room.specs.Room.{seg}
use Rattle.eights.proofs.Eight.{clear_told, copied, left}
use Rattle.eights.proofs.copy_eight.Goals as goal

pub returns-then-clear : goal.returns-then-clear
unfolding seg
returns-then-clear c =
    let v = c.args in
    let eight : v.from + 8 - v.from ≡ 8 = omega arith in
    let read = rw eight at c.copy_from_slice.ensures.after in
    let told = c.contains-clear.ensures.value in
    record { value = clear_told v.room.now v.from v.x v.to read told; room_after = copied v.room.now v.from v.x v.to read told c.if-clear.true c.copy_in.ensures }

pub returns-else-clear : goal.returns-else-clear
unfolding seg
returns-else-clear c =
    let v = c.args in
    let eight : v.from + 8 - v.from ≡ 8 = omega arith in
    let read = rw eight at c.copy_from_slice.ensures.after in
    let told = c.contains-clear.ensures.value in
    record { value = clear_told v.room.now v.from v.x v.to read told; room_after = left v.room.now v.from v.x v.to read told c.if-clear.false }
