-- `read_functor`: a declared number is below 256 and has its arity in the table.
use native.Mathlib.Omega.{arith}
use mathlib.Core.Path.{◌∙◌}
use borrow.Author.Rules.{rules}
use Rattle.std.proofs.lemmas.Result.{err_from_is_err_and}
use Rattle.beginnings.proofs.NameWords.{named-told, functor_read, functor_unfit}
use Rattle.beginnings.proofs.beginning.read_functor.Goals as goal

pub returns-in_err-name : goal.returns-in_err-name
returns-in_err-name c =
    let p = err_from_is_err_and c.from_residual.result c.from_residual.ensures.1 in
    rw (p.1, p.2) (functor_unfit _ _ _ _ _ c.len.ensures.value _ c.in_err-name.ensures)

pub functor_word-requires : goal.functor_word-requires
functor_word-requires c = omega (arith, c.len.ensures.fits, named-told _ _ _ _ c.in_ok-name.ensures)

pub push-requires : goal.push-requires
push-requires c =
    let h = named-told _ _ _ _ c.in_ok-name.ensures in
    search rules

pub bounds-deref-name : goal.bounds-deref-name
bounds-deref-name c =
    let h = named-told _ _ _ _ c.in_ok-name.ensures in
    rw c.deref.ensures.0 (omega (arith, h, c.len.ensures.value))

pub returns : goal.returns
returns c =
    c.open_arguments.ensures _
    ∙ rw (c.push.ensures.items, c.from.ensures, c.deref.ensures.0, c.functor_word.ensures)
    (functor_read _ _ _ _ _ c.len.ensures.value c.in_ok-name.ensures)
