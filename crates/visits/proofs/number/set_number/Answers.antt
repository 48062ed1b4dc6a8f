-- `visits::number::set_number`: the two words are those of the number.
use borrow.Author.Rules.{rules}
use Rattle.visits.specs.ChildNumber.{number_words}
use Rattle.visits.proofs.number.set_number.Goals as goal

pub returns : goal.returns
unfolding number_words
returns c = search rules
