use Rattle.tails.proofs.OpenSplit.{numbers}
use Rattle.splits.proofs.NothingBound.{s-place, s_apart, plain-parts, plain, written_within, tails-parts, last_written, news_full, last_full, neither_parts, neither_made}
use Rattle.tails.proofs.Making.{child-made}
use Rattle.replace.specs.Fitting.{further}
use Rattle.rows.specs.Wrote.{done-fits, done-length}
use native.Mathlib.Omega.{arith}
use mathlib.Core.Path.{refl}
use Rattle.splits.proofs.nothing_bound.neither.Goals as goal

pub overflow_add-by-2 : goal.overflow_add-by-2
overflow_add-by-2 c = let N = numbers c.requires.due.opened in omega arith

pub offset_bounds-room-by : goal.offset_bounds-room-by
offset_bounds-room-by c = let N = numbers c.requires.due.opened in omega arith

pub bounds-room-by : goal.bounds-room-by
bounds-room-by c = let N = numbers c.requires.due.opened in omega arith

pub equations-requires : goal.equations-requires
equations-requires c =
    plain-parts c.requires.due _ (s-place c.requires.due) (s_apart c.requires.due 1 (omega arith))

pub overflow_add-to-3 : goal.overflow_add-to-3
overflow_add-to-3 c =
    let N = numbers c.requires.due.opened in
    let k = written_within c.requires.due (plain c.requires.due _ (s-place c.requires.due) (s_apart c.requires.due 1 (omega arith)) refl c.in_ok-w.ensures) in
    omega (arith, c.requires.due.before)

pub overflow_sub-size : goal.overflow_sub-size
overflow_sub-size c =
    let N = numbers c.requires.due.opened in
    let k = written_within c.requires.due (plain c.requires.due _ (s-place c.requires.due) (s_apart c.requires.due 1 (omega arith)) refl c.in_ok-w.ensures) in
    omega (arith, c.requires.due.before)

pub tails_equation-requires : goal.tails_equation-requires
tails_equation-requires c =
    tails-parts c.requires.due (plain c.requires.due _ (s-place c.requires.due) (s_apart c.requires.due 1 (omega arith)) refl c.in_ok-w.ensures)

pub overflow_add-w : goal.overflow_add-w
unfolding further
overflow_add-w c =
    let N = numbers c.requires.due.opened in
    let w = (last_written c.requires.due (plain c.requires.due _ (s-place c.requires.due) (s_apart c.requires.due 1 (omega arith)) refl c.in_ok-w.ensures) c.in_ok-v.ensures) in
    omega (arith, done-fits w, done-length w)

pub keep-requires : goal.keep-requires
unfolding further
keep-requires c =
    let h = s-place c.requires.due in
    neither_parts c.requires.due c.requires.kind (last_written c.requires.due (plain c.requires.due _ (s-place c.requires.due) (s_apart c.requires.due 1 (omega arith)) refl c.in_ok-w.ensures) c.in_ok-v.ensures) _ (omega arith) (s_apart c.requires.due 0 (omega arith))

pub returns : goal.returns
unfolding further
returns c =
    child-made (λ p D k. let h = s-place D in neither_made D k (last_written D (plain D _ (s-place D) (s_apart D 1 (omega arith)) refl c.in_ok-w.ensures) c.in_ok-v.ensures) _ (omega arith) (s_apart D 0 (omega arith)) c.keep.ensures)

pub returns-in_err-v : goal.returns-in_err-v
unfolding further
returns-in_err-v c =
    rw c.from_residual-in_err-v.ensures (child-made (λ p D k. last_full D k (last_written D (plain D _ (s-place D) (s_apart D 1 (omega arith)) refl c.in_ok-w.ensures) c.in_err-v.ensures)))

pub returns-in_err-w : goal.returns-in_err-w
returns-in_err-w c =
    rw c.from_residual.ensures (child-made (λ p D k. news_full D k (plain D _ (s-place D) (s_apart D 1 (omega arith)) refl c.in_err-w.ensures)))
