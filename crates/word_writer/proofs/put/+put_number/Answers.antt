use native.Mathlib.Omega.{arith}
use mathlib.Core.Path.{sym}
use Rattle.text.specs.Decimal.{decimal_digit, decimal-more, tenth}
use Rattle.word_writer.specs.Writing.{wrote_then, wrote_as, length_wrote}
use Rattle.word_writer.proofs.put.+put_number.Goals as goal

pub shape_of-text-then-number-lt10 : goal.shape_of-text-then-number-lt10
shape_of-text-then-number-lt10 t c = length_wrote c.put_byte.ensures

pub returns-then-number-lt10 : goal.returns-then-number-lt10
returns-then-number-lt10 t c = wrote_as (sym (decimal_digit _ c.if-number-lt10.true)) c.put_byte.ensures

pub put_number-next-requires : goal.put_number-next-requires
put_number-next-requires t c = (omega (arith, tenth c.args.number c.if-number-lt10.false), tt)

pub shape_of-text : goal.shape_of-text
shape_of-text t c = length_wrote (wrote_then c.put_number-next.ensures c.put_byte-2.ensures)

pub returns : goal.returns
returns t c =
    wrote_as (sym (decimal-more _ c.if-number-lt10.false)) (wrote_then c.put_number-next.ensures c.put_byte-2.ensures)
