-- `read_unknown`: a declared number is below 256, so that the unknown's word fits.
use native.Mathlib.Omega.{arith}
use borrow.Author.Rules.{rules}
use Rattle.std.proofs.lemmas.Result.{err_from_is_err_and}
use Rattle.beginnings.proofs.NameWords.{named-told, unknown_read, unknown_unfit}
use Rattle.beginnings.proofs.beginning.read_unknown.Goals as goal

pub returns-in_err-name : goal.returns-in_err-name
returns-in_err-name c =
    let p = err_from_is_err_and c.from_residual.result c.from_residual.ensures.1 in
    rw (p.1, p.2) (unknown_unfit _ _ _ _ _ c.in_err-name.ensures)

pub unknown_word-requires : goal.unknown_word-requires
unknown_word-requires c = omega (arith, c.args.declared.now.few, named-told _ _ _ _ c.in_ok-name.ensures)

pub push-requires : goal.push-requires
push-requires c =
    let h = named-told _ _ _ _ c.in_ok-name.ensures in
    search rules

pub returns : goal.returns
returns c = rw (c.push.ensures.items, c.unknown_word.ensures) (unknown_read _ _ _ _ c.in_ok-name.ensures)
