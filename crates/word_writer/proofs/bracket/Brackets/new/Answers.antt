use Rattle.word_writer.proofs.Stack.{brackets_none}
use Rattle.std.proofs.Common.{refl}
use Rattle.word_writer.proofs.bracket.Brackets.new.Goals as goal

pub returns : goal.returns
returns g c = brackets_none _ _ refl
