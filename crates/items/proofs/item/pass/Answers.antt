-- `pass`: by the item's kind.
use mathlib.Core.Path.{◌∙◌}
use Rattle.items.proofs.AfterItem.{after-a_member, after-a_tail, after_an_argument}
use Rattle.items.proofs.item.pass.Goals as goal

pub returns-in-Member : goal.returns-in-Member
returns-in-Member c = c.pass_member.ensures ∙ after-a_member _ _ _ c.in-Member.is

pub returns-in-Tail : goal.returns-in-Tail
returns-in-Tail c = c.pass_tail.ensures _ ∙ after-a_tail _ _ _ c.in-Tail.is

pub returns-in-Argument : goal.returns-in-Argument
returns-in-Argument c = c.pass_argument.ensures _ ∙ after_an_argument _ _ _ _ c.in-Argument.is
