-- `printing::print_list`: the writer takes the list, or its refusal is printed.
use mathlib.Core.Path.{◌∙◌}
use Rattle.printing.proofs.Printing.{list-printed, list-refused}
use Rattle.printing.proofs.print_list.Goals as goal

pub returns-in-Ok : goal.returns-in-Ok
returns-in-Ok c =
    list-printed _ _ _ _ (c.from-number.ensures ∙ c.number_of_end.ensures) c.requires (c.write_answers.ensures.value, c.write_answers.ensures.text_after)
    c.in-Ok.is

pub returns-in-Err : goal.returns-in-Err
returns-in-Err c =
    list-refused _ _ _ _ (c.from-number.ensures ∙ c.number_of_end.ensures) c.requires (c.write_answers.ensures.value, c.write_answers.ensures.text_after)
    c.in-Err.is c.print_refusal.ensures
