-- `replace` meets its contract: each of the two functions has it, for its number of words.
use Rattle.replace.proofs.replace.Goals as goal

pub replace_word-requires : goal.replace_word-requires
replace_word-requires c = rw c.if-n-eq1.true at c.requires

pub returns-then-n-eq1 : goal.returns-then-n-eq1
returns-then-n-eq1 c =
    record { value = rw c.if-n-eq1.true c.replace_word.ensures.value; room_after = rw c.if-n-eq1.true c.replace_word.ensures.room_after }
