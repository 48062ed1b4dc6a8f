use Rattle.std.proofs.Common.{take}
use Rattle.word_writer.specs.Pen.{Wrote}
use Rattle.word_writer.proofs.put.put_bytes.Given as goal

abbrev pub invariant-loop-byte : goal.invariant-loop-byte
invariant-loop-byte l = Wrote l.initial.text l.at (take l.byte-index l.bytes) l.text l.next
