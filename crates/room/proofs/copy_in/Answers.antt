use mathlib.Core.Path.{ap, ◌∙◌}
use native.Mathlib.Omega.{arith}
use native.Mathlib.Nat.{zero-add}
use Rattle.room.specs.Room.{put, seg_all}
use Rattle.room.proofs.Copying.{none_copied, word_copied, all_copied}
use Rattle.room.proofs.copy_in.Goals as goal

pub loop-j-init : goal.loop-j-init
loop-j-init c = none_copied _ _ _ _ _

pub loop-j-preserved : goal.loop-j-preserved
loop-j-preserved c = word_copied c.loop-j.invariant (omega arith) _ c.loop-j-test.true (rw zero-add)

pub returns : goal.returns
returns c = all_copied c.loop-j.invariant (omega arith) c.loop-j-test.false ∙ ap (put _ _) (seg_all _)
