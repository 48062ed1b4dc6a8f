use Rattle.choices.specs.Digits.{advanced_second, first-parts, advanced_first}
use Rattle.choices.proofs.picks.advance.Goals as goal

pub returns-then-advance_of : goal.returns-then-advance_of
returns-then-advance_of c =
    advanced_second c.requires.0 c.requires.1 (rw c.if-advance_of.true at c.advance_of.ensures)

pub advance_of-requires-2 : goal.advance_of-requires-2
advance_of-requires-2 c =
    first-parts c.requires.0 c.requires.1 (rw c.if-advance_of.false at c.advance_of.ensures)

pub returns : goal.returns
returns c =
    let advance_of_told = c.advance_of.ensures in
    advanced_first c.requires.0 c.requires.1 (rw c.if-advance_of.false at advance_of_told) c.advance_of-2.ensures
