use Rattle.std.proofs.Common.{rules, ap}
use Rattle.text.specs.Text.{decimal}
use Rattle.lines.proofs.Lined.{further-some, further_none}
use Rattle.word_writer.specs.Writing.{owed_all, owed_as, owed_wrote, owed_nothing, wrote_as}
use Rattle.lines.proofs.question_lines.put_further.Goals as goal

pub loop-arity-init : goal.loop-arity-init
loop-arity-init c = owed_all _ _ _ (search rules) (search rules)

pub loop-arity-preserved : goal.loop-arity-preserved
loop-arity-preserved c =
    owed_wrote (owed_wrote (owed_as (further-some _ _ c.loop-arity-test.true) c.loop-arity.invariant) c.put_byte-value.ensures)
    (wrote_as (ap decimal c.from.ensures) c.put_number-next.ensures)

pub returns : goal.returns
returns c = owed_nothing (owed_as (further_none _ _ c.loop-arity-test.false) c.loop-arity.invariant)
