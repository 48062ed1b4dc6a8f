-- `read_question`: the text was refused, a buffer is too small, or both parts are laid out.
use Rattle.std.proofs.lemmas.Result.{err_from_is_err_and}
use Rattle.reader.proofs.Buffers.{whole-refused, table_too_long, held_too_long, all_laid}
use Rattle.reader.proofs.question.read_question.Goals as goal

pub returns-in_err-counts : goal.returns-in_err-counts
returns-in_err-counts c =
    let p = err_from_is_err_and c.from_residual.result c.from_residual.ensures.1 in
    rw (p.1, p.2) (whole-refused _ _ _ _ c.in_err-counts.ensures.exact)

pub returns-then-arities-counts : goal.returns-then-arities-counts
returns-then-arities-counts c =
    table_too_long _ _ _ _ _ _ c.in_ok-counts.ensures.exact c.in_ok-counts.ensures.counted c.if-arities-counts.true

pub returns-then-words-counts : goal.returns-then-words-counts
returns-then-words-counts c =
    held_too_long _ _ _ _ _ _ c.in_ok-counts.ensures.exact c.in_ok-counts.ensures.counted c.if-arities-counts.false c.if-words-counts.true

pub returns : goal.returns
returns c =
    rw (c.copy_from_slice.ensures.after, c.copy_from_slice-2.ensures.after, c.as_slice.ensures.value, c.as_slice-2.ensures.value)
    (all_laid _ _ _ _ _ _ c.in_ok-counts.ensures.exact c.in_ok-counts.ensures.counted c.if-arities-counts.false c.if-words-counts.false)
