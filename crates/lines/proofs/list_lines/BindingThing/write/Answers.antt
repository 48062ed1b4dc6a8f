use borrow.Author.Rules.{rules}
use mathlib.Core.Path.{refl}
use Rattle.lines.specs.ListLines.{binding_at}
use Rattle.lines.proofs.Lined.{numbered, numbered_not}
use borrow.Author.Rules.{rules}
use Rattle.lines.proofs.list_lines.BindingThing.write.Goals as goal

pub returns-then-from-words : goal.returns-then-from-words
unfolding binding_at
returns-then-from-words c =
    numbered _ _ _ _ c.if-from-words.true _ _ c.from.ensures refl c.put_number_line-next.ensures
    c.write_term_line.ensures

pub returns : goal.returns
unfolding binding_at
returns c = numbered_not _ _ _ _ c.if-from-words.false (search rules) (search rules)
