use Rattle.std.proofs.Common.{◌≡◌, length}
use Rattle.word_writer.specs.OpenBrackets.{closing, closed}
use Rattle.word_writer.specs.Writing.{Owed}
use Rattle.word_writer.proofs.bracket.Brackets.close.Given as goal

abbrev pub invariant-loop-due : goal.invariant-loop-due
invariant-loop-due g l = record {
  owed : Owed (closing l.initial.self) l.initial.text l.at (closing l.self) l.text l.next;
  keeps : closed l.self ≡ closed l.initial.self;
}

abbrev pub decreases-loop-due : goal.decreases-loop-due
decreases-loop-due g l = length l.self
