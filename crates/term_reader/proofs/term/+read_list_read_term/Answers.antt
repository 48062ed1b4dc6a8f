use native.Mathlib.Omega.{arith}
use mathlib.Core.Path.{ap, sym}
use Rattle.std.proofs.Common.{Ok, Err}
use Rattle.std.proofs.lemmas.Result.{err_from_is_err_and}
use Rattle.term_reader.specs.ReadingAnswers.{is_due, is_done, term_is_read, term_is_refused}
use Rattle.term_reader.proofs.Nested.{begun_due, term_list, term_done, term_refused, next-ahead, list-more, list_done, list-refused, list-stopped}
use Rattle.term_reader.proofs.term.+read_list_read_term.Goals as goal

pub read_list-returns-in_err-end : goal.read_list-returns-in_err-end
read_list-returns-in_err-end t c =
    let p = err_from_is_err_and c.from_residual.result c.from_residual.ensures.1 in
    let T = term_is_refused _ _ _ _ _ _ _ c.read_term.ensures _ c.in_err-end.was in
    rw (p.1, p.2) (c.loop-end.invariant.0 (Err c.in_err-end.field-0.0) c.read_term.new.words.items (list-stopped _ _ _ _ _ _ _ _ c.read_term.new.words.items T))

pub read_list-returns-in_err-i : goal.read_list-returns-in_err-i
read_list-returns-in_err-i t c =
    let p = err_from_is_err_and c.from_residual-in_err-i.result c.from_residual-in_err-i.ensures.1 in
    let T = term_is_read _ _ _ _ _ _ _ c.read_term.ensures _ c.in_ok-end.was in
    rw (p.1, p.2) (c.loop-end.invariant.0 (Err c.in_err-i.field-0.0) c.pass.new.words.items (list-refused _ _ _ _ _ _ _ _ _ T _ c.pass.new.words.items (sym c.in_err-i.ensures)))

pub read_list-loop-end-smaller : goal.read_list-loop-end-smaller
read_list-loop-end-smaller t c =
    let T = term_is_read _ _ _ _ _ _ _ c.read_term.ensures _ c.in_ok-end.was in
    let F = is_due _ c.in_ok-i.ensures _ _ (ap Ok c.in-Due.is) in
    omega (arith, next-ahead _ _ _ _ _ _ _ _ _ T _ _ c.loop-end.invariant.2 F)

pub read_list-loop-end-preserved : goal.read_list-loop-end-preserved
read_list-loop-end-preserved t c =
    let T = term_is_read _ _ _ _ _ _ _ c.read_term.ensures _ c.in_ok-end.was in
    let F = is_due _ c.in_ok-i.ensures _ _ (ap Ok c.in-Due.is) in
    let w = next-ahead _ _ _ _ _ _ _ _ _ T _ _ c.loop-end.invariant.2 F in (
      λ g l L. c.loop-end.invariant.0 g l (list-more _ _ _ _ _ _ _ _ _ T _ _ _ g l c.loop-end.invariant.2 F L),
      omega arith,
      w.1,
    )

pub read_list-returns-in-Done : goal.read_list-returns-in-Done
read_list-returns-in-Done t c =
    let T = term_is_read _ _ _ _ _ _ _ c.read_term.ensures _ c.in_ok-end.was in
    let F = is_done _ c.in_ok-i.ensures _ (ap Ok c.in-Done.is) in
    c.loop-end.invariant.0 (Ok c.in-Done.q) c.pass.new.words.items (list_done _ _ _ _ _ _ _ _ _ T _ c.pass.new.words.items F)

pub read_term-returns-in_err-item : goal.read_term-returns-in_err-item
read_term-returns-in_err-item t c =
    let p = err_from_is_err_and c.from_residual.result c.from_residual.ensures.1 in
    rw (p.1, p.2) (term_refused _ _ _ _ _ _ _ c.begin.new.words.items (sym c.in_err-item.ensures))

pub read_term-overflow_add-depth : goal.read_term-overflow_add-depth
read_term-overflow_add-depth t c =
    omega (arith, begun_due _ _ _ _ _ _ _ _ _ c.requires (is_due _ c.in_ok-item.ensures _ _ (ap Ok c.in-Due.is)))

pub read_term-read_list-requires : goal.read_term-read_list-requires
read_term-read_list-requires t c =
    let w = begun_due _ _ _ _ _ _ _ _ _ c.requires (is_due _ c.in_ok-item.ensures _ _ (ap Ok c.in-Due.is)) in
    (omega arith, w.1)

pub read_term-returns-in-Due : goal.read_term-returns-in-Due
read_term-returns-in-Due t c =
    term_list _ _ _ _ _ _ _ _ _ c.read_list.result c.read_list.new.words.items c.requires
    (is_due _ c.in_ok-item.ensures _ _ (ap Ok c.in-Due.is)) c.read_list.ensures

pub read_term-returns-in-Done : goal.read_term-returns-in-Done
read_term-returns-in-Done t c =
    term_done _ _ _ _ _ _ _ c.begin.new.words.items (is_done _ c.in_ok-item.ensures _ (ap Ok c.in-Done.is))
