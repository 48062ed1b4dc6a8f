use borrow.Author.Rules.{rules}
use Rattle.lines.specs.ListLines.{answer_at}
use Rattle.lines.proofs.Lined.{numbered, numbered_not}
use borrow.Author.Rules.{rules}
use Rattle.lines.proofs.list_lines.AnswerThing.write.Goals as goal

pub returns-then-from-words : goal.returns-then-from-words
unfolding answer_at
returns-then-from-words c =
    numbered _ _ _ _ c.if-from-words.true _ _ c.from.ensures c.from-then-from-words.ensures c.put_number_line-next.ensures
    c.write_each.ensures

pub returns : goal.returns
unfolding answer_at
returns c = numbered_not _ _ _ _ c.if-from-words.false (search rules) (search rules)
