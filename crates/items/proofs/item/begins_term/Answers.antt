-- `begins_term`: each answer is one case of `begins`.
use mathlib.Core.Path.{ap, ◌∙◌}
use Rattle.items.specs.Items.{begins}
use Rattle.items.proofs.FirstByte.{begins-one, begins-none}
use Rattle.items.proofs.item.begins_term.Goals as goal

pub returns-in-Some-eq120 : goal.returns-in-Some-eq120
returns-in-Some-eq120 c = rw c.in-Some-eq120.is (begins-one _ c.in-Some-eq120.field-0-test ∙ ap begins c.in-Some-eq120.field-0-is)

pub returns-in_default : goal.returns-in_default
returns-in_default c = rw c.in_default.is (begins-none _ c.in_default.field-0-test.1 ∙ ap begins c.in_default.field-0-is)

pub returns-in_default-2 : goal.returns-in_default-2
unfolding begins
returns-in_default-2 c = rw c.in_default.is
