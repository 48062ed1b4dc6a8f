use Rattle.std.proofs.Common.{sym, add-one, rules}
use lib.Seq.{take-suc, take_all}
use Rattle.word_writer.specs.Writing.{wrote_nothing, wrote_then, wrote_as, length_wrote}
use Rattle.word_writer.proofs.put.put_bytes.Goals as goal

pub loop-byte-init : goal.loop-byte-init
loop-byte-init c = wrote_nothing (search rules) (search rules)

pub loop-byte-preserved : goal.loop-byte-preserved
loop-byte-preserved c = wrote_as (sym (rw add-one (take-suc _ _ 0 c.loop-byte-test.true))) (wrote_then c.loop-byte.invariant c.put_byte-next.ensures)

pub shape_of-text : goal.shape_of-text
shape_of-text c = length_wrote c.loop-byte.invariant

pub returns : goal.returns
returns c = wrote_as (take_all _ _ c.loop-byte-test.false) c.loop-byte.invariant
