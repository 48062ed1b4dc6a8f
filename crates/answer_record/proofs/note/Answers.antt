-- `record::note`: `AnswerNoted` says, for each way out, which answer the row's words are and whether they fit.
use mathlib.Core.Path.{sym}
use native.Mathlib.Omega.{arith}
use lib.Seq.{length-take-le}
use Rattle.answer_record.specs.RowAnswer.{within-row}
use Rattle.answer_record.proofs.AnswerNoted.{pending_left, pile_left, too_long, held}
use Rattle.answer_record.proofs.note.Goals as goal

pub slice_bounds-read_header-end : goal.slice_bounds-read_header-end
slice_bounds-read_header-end c = sym (length-take-le 5 c.args.row.now (omega arith))

pub read_header-header-requires : goal.read_header-header-requires
read_header-header-requires c = length-take-le 5 c.args.row.now (omega arith)

pub returns-then-header-gt0 : goal.returns-then-header-gt0
returns-then-header-gt0 c =
    let both = pending_left c.args.row.now c.read_header-header.ensures c.args.answers.now c.args.counts c.if-header-gt0.true in
    record { value = both.0; answers_after = both.1 }

pub returns-then-header-gt0-2 : goal.returns-then-header-gt0-2
returns-then-header-gt0-2 c =
    let both = pile_left c.args.row.now c.read_header-header.ensures c.args.answers.now c.args.counts c.if-header-gt0-2.true in
    record { value = both.0; answers_after = both.1 }

pub overflow_add-n : goal.overflow_add-n
overflow_add-n c =
    omega (arith, within-row c.args.row.now c.read_header-header.ensures c.requires c.if-header-gt0.false c.if-header-gt0-2.false)

pub returns-then-answers-used : goal.returns-then-answers-used
returns-then-answers-used c =
    let both = too_long c.args.row.now c.read_header-header.ensures c.args.answers.now c.args.counts c.if-header-gt0.false
    c.if-header-gt0-2.false (within-row c.args.row.now c.read_header-header.ensures c.requires c.if-header-gt0.false c.if-header-gt0-2.false)
    (omega (arith, c.if-answers-used.true)) in
    record { value = both.0; answers_after = both.1 }

pub list_answer-requires : goal.list_answer-requires
list_answer-requires c =
    let w = within-row c.args.row.now c.read_header-header.ensures c.requires c.if-header-gt0.false c.if-header-gt0-2.false in
    (omega (arith, w), omega arith)

pub returns : goal.returns
returns c =
    let both = held c.args.row.now c.read_header-header.ensures c.args.answers.now c.args.counts c.if-header-gt0.false
    c.if-header-gt0-2.false (within-row c.args.row.now c.read_header-header.ensures c.requires c.if-header-gt0.false c.if-header-gt0-2.false)
    c.if-answers-used.false c.list_answer.ensures in
    record { value = rw c.with_answer.ensures both.0; answers_after = both.1 }
