-- `only_child::next::told_of`: each case is the definition's.
use Rattle.std.proofs.Common.{ap, ◌∙◌}
use Rattle.only_child.specs.Next.{made_of, next_made, next_reached}
use Rattle.only_child.proofs.next.told_of.Goals as goal

pub returns-in-None : goal.returns-in-None
unfolding next_made
returns-in-None c = rw (c.reached.ensures ∙ ap made_of c.in-None.is)

pub returns-in-Some : goal.returns-in-Some
returns-in-Some c = rw (c.reached.ensures ∙ ap made_of c.in-Some.is) (next_reached _)
