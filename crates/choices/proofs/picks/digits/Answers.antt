use Rattle.choices.specs.Digits.{both_decoded, length-copies}
use Rattle.choices.proofs.picks.digits.Goals as goal

pub returns : goal.returns
returns c = both_decoded (length-copies _ _) c.digits_of-left.ensures c.digits_of.ensures
