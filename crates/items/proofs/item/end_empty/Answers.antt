-- `end_empty`: the empty set's word is added, or the words are full.
use borrow.Author.Rules.{rules}
use Rattle.items.proofs.WordsSoFar.{empty_closed, empty_full}
use Rattle.items.proofs.item.end_empty.Goals as goal

pub returns-then-is_full : goal.returns-then-is_full
returns-then-is_full c = empty_full _ _ (search rules)

pub returns : goal.returns
returns c = rw c.push.ensures.items (empty_closed _ _ (search rules))
