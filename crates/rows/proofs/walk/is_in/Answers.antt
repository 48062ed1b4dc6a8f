use mathlib.Core.Path.{◌∙◌}
use Rattle.rows.proofs.Walks.{holds_any}
use Rattle.rows.proofs.walk.is_in.Goals as goal

pub returns : goal.returns
returns c = c.contains.ensures.value ∙ holds_any _ _
