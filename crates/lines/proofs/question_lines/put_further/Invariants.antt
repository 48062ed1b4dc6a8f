use Rattle.std.proofs.Common.{drop}
use Rattle.text.specs.Text.{further_numbers}
use Rattle.word_writer.specs.Writing.{Owed}
use Rattle.lines.proofs.question_lines.put_further.Given as goal

abbrev pub invariant-loop-arity : goal.invariant-loop-arity
invariant-loop-arity l = Owed (further_numbers l.arities) l.initial.text l.at (further_numbers (drop l.arity-index l.arities)) l.text l.next
