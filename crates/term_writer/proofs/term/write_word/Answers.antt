use Rattle.std.proofs.Common.{sym, ap, ◌∙◌, rules}
use Rattle.std.specs.Prelude.{Some}
use Rattle.word_writer.proofs.Stack.{some_open}
use Rattle.word_writer.proofs.WordSteps.{word_first, word-rest, word_other}
use Rattle.term_writer.proofs.term.write_word.Goals as goal
use Rattle.term_writer.proofs.term.write_word.Goals.{in-Some+in_default-due, in_default}

pub continue_set-requires : goal.continue_set-requires
continue_set-requires g c = (search rules, some_open _ (sym c.innermost.ensures ∙ c.in-Some.is))

pub returns-in-Rest : goal.returns-in-Rest
returns-in-Rest g c = word-rest _ _ _ (sym c.innermost.ensures ∙ c.in-Some.is ∙ ap Some c.in-Rest.is) c.continue_set.ensures

pub returns : goal.returns
returns g c =
    elim c.match-innermost.branch [
      | in-Some+in_default-due w ↦ word_other _ _ _ (sym c.innermost.ensures ∙ w.in-Some.is) w.in_default-due.not-Rest c.begin.ensures
      | in_default w ↦ word_first _ _ _ (sym c.innermost.ensures ∙ w.in_default.is) c.begin.ensures
    ]
