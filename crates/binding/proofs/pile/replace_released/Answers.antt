use Rattle.binding.proofs.Absent.{none_written}
use Rattle.binding.proofs.pile.replace_released.Goals as goal

pub returns-then-n-eq0 : goal.returns-then-n-eq0
returns-then-n-eq0 c = none_written _ _ _ _ _ _ _ _ _ c.if-n-eq0.true
