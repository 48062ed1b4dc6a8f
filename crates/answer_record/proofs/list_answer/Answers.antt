-- `record::list_answer`: the number of bindings is stored, and the body copied after it.
use mathlib.Core.Path.{ap, ◌∙◌}
use lib.ListN.{length, length-set}
use native.Mathlib.Omega.{arith}
use Rattle.room.specs.Room.{length-put}
use Rattle.answer_record.proofs.AnswerPut.{part_length, listed_so}
use Rattle.answer_record.proofs.list_answer.Goals as goal

pub copy_in-requires : goal.copy_in-requires
copy_in-requires c = rw (length-set, part_length c.args.row.now c.args.n (omega arith)) (omega arith)

pub shape_of-answers : goal.shape_of-answers
shape_of-answers c = ap length c.copy_in.ensures ∙ rw (length-put, length-set)

pub returns : goal.returns
returns c =
    listed_so c.args.row.now c.args.n c.args.answers.now c.args.used c.copy_in.ensures
