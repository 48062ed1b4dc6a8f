-- `read_name`: the words are full, the number is refused, or it is tested against the declared ones.
use borrow.Author.Rules.{rules}
use Rattle.std.proofs.lemmas.Result.{err_from_is_err_and}
use Rattle.beginnings.proofs.NameWords.{name_full, name_unfit, name_declared, name_undeclared}
use Rattle.beginnings.proofs.beginning.read_name.Goals as goal

pub returns-then-is_full : goal.returns-then-is_full
returns-then-is_full c = name_full _ _ _ _ (search rules)

pub returns-in_err-read : goal.returns-in_err-read
returns-in_err-read c =
    let p = err_from_is_err_and c.from_residual.result c.from_residual.ensures.1 in
    rw (p.1, p.2) (name_unfit _ _ _ _ (search rules) _ c.in_err-read.ensures)

pub returns-then-read-declared : goal.returns-then-read-declared
returns-then-read-declared c = name_declared _ _ _ _ (search rules) c.in_ok-read.ensures c.if-read-declared.true

pub returns : goal.returns
returns c = name_undeclared _ _ _ _ (search rules) c.in_ok-read.ensures c.if-read-declared.false
