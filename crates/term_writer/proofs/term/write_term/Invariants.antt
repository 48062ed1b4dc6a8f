use Rattle.std.proofs.Common.{◌≤◌, length, max}
use Rattle.term_writer.proofs.TermWalk.{Left}
use Rattle.term_writer.proofs.term.write_term.Given as goal

abbrev pub invariant-loop-word : goal.invariant-loop-word
invariant-loop-word l = record {
  left : Left l.arities l.words l.from l.initial.text l.at l.text l.brackets l.next l.word;
  no_further : l.word ≤ max l.from (length l.words);
}
