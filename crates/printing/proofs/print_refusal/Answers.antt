-- `printing::print_refusal`: two lines, which are short.
use mathlib.Core.Path.{◌∙◌}
use Rattle.printing.proofs.Printing.{refusal_printed}
use borrow.Author.Rules.{rules}
use Rattle.printing.proofs.print_refusal.Goals as goal

pub returns : goal.returns
returns c =
    refusal_printed _
    (c.from.ensures
    ∙ c.number_of.ensures)
    (search rules) c.requires
    c.put_number_line-second.ensures c.put_number_line.ensures
