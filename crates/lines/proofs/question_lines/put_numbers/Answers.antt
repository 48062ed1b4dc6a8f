use Rattle.std.proofs.Common.{rules, ap}
use Rattle.text.specs.Text.{decimal}
use Rattle.lines.proofs.Lined.{numbers_none, numbers-some}
use Rattle.word_writer.specs.Writing.{wrote_nothing, wrote_then, wrote_as}
use Rattle.lines.proofs.question_lines.put_numbers.Goals as goal

pub returns-in-Some : goal.returns-in-Some
returns-in-Some c =
    wrote_as (numbers-some _ _ _ c.in-Some.ensures.cases.0)
    (wrote_then (wrote_as (ap decimal c.from.ensures) c.put_number-next.ensures) c.put_further.ensures)

pub returns : goal.returns
returns c = wrote_as (numbers_none _ c.in_default.ensures.cases) (wrote_nothing (search rules) (search rules))
