use Rattle.rows.specs.First.{rest_after}
use mathlib.Core.Path.{refl}
use Rattle.rows.proofs.first.rest_of.Goals as goal

pub returns : goal.returns
unfolding rest_after
returns c = refl
