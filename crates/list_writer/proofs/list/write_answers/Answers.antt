use Rattle.std.proofs.Common.{sym, ◌∙◌, rules}
use Rattle.std.proofs.lemmas.Result.{err_from_is_err_and}
use Rattle.list_writer.proofs.AnswerLists.{list_nowhere, list-refused, list-checked}
use Rattle.list_writer.proofs.list.write_answers.Goals as goal

pub returns-in_default : goal.returns-in_default
returns-in_default c =
    let both = list_nowhere _ _ _ _ _ _ (sym c.end_of_number.ensures ∙ c.in_default.is) in
    record { value = both.0; text_after = both.1 }

pub returns-in_err-check_list : goal.returns-in_err-check_list
returns-in_err-check_list c =
    let p = err_from_is_err_and c.from_residual.result c.from_residual.ensures.1 in
    let both = list-refused _ _ _ _ _ _ _ (sym c.end_of_number.ensures ∙ c.in-Some.is) _ (sym c.check_list.ensures ∙ c.in_err-check_list.was) in
    rw (p.1, p.2) (record { value = both.0; text_after = both.1 })

pub returns : goal.returns
returns c =
    let both = list-checked _ _ _ _ _ _ _
    (sym c.end_of_number.ensures ∙ c.in-Some.is)
    (search rules) (sym c.check_list.ensures ∙ c.in_ok-check_list.was)
    c.write_checked.ensures.value c.write_checked.ensures.held in
    record { value = both.0; text_after = both.1 }
