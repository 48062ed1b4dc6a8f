-- `open_member`: by the first byte of the member, then by the room for its word.
use mathlib.Core.Path.{sym, ◌∙◌}
use borrow.Author.Rules.{rules}
use Rattle.items.proofs.WordsSoFar.{member_due, member_full, member_none}
use Rattle.items.proofs.item.open_member.Goals as goal

pub returns-then-not-begins_term : goal.returns-then-not-begins_term
returns-then-not-begins_term c = member_none _ _ _ c.peek.ensures (sym c.begins_term.ensures ∙ c.if-not-begins_term.true)

pub returns-then-is_full : goal.returns-then-is_full
returns-then-is_full c = member_full _ _ _ c.peek.ensures (sym c.begins_term.ensures ∙ c.if-not-begins_term.false) (search rules)

pub returns : goal.returns
returns c = rw c.push.ensures.items (member_due _ _ _ c.peek.ensures (sym c.begins_term.ensures ∙ c.if-not-begins_term.false) (search rules))
