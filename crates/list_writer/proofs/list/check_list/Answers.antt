use Rattle.list_writer.proofs.AnswerLists.{visited_above, visited_within}
use Rattle.list_writer.proofs.list.check_list.Goals as goal

pub returns-then-visited-gt-STEPS : goal.returns-then-visited-gt-STEPS
returns-then-visited-gt-STEPS c = visited_above _ _ c.if-visited-gt-STEPS.true

pub returns : goal.returns
returns c = visited_within _ _ c.if-visited-gt-STEPS.false c.check_answers.ensures
