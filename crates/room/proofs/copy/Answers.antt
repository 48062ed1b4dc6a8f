use Rattle.room.proofs.Copying.{none_copied, word_moved, all_copied}
use Rattle.room.proofs.copy.Goals as goal

pub loop-j-init : goal.loop-j-init
loop-j-init c = none_copied _ _ _ _ _

pub loop-j-preserved : goal.loop-j-preserved
loop-j-preserved c = word_moved c.requires c.loop-j.invariant c.loop-j-test.true

pub returns : goal.returns
returns c = all_copied c.loop-j.invariant c.requires.from_within c.loop-j-test.false
