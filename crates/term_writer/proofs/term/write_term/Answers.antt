use Rattle.std.proofs.Common.{◌≡◌, rules}
use Rattle.std.proofs.lemmas.Result.{err_from_is_err_and}
use Rattle.term_writer.proofs.TermWalk.{all_left, left_none, left-deep, left_ended, left-more}
use Rattle.term_writer.proofs.term.write_term.Goals as goal

pub loop-word-init : goal.loop-word-init
loop-word-init c = record { left = rw c.new-brackets.ensures (all_left _ _ _ _ _ (search rules) (search rules)); no_further = search rules }

pub returns-in_err-next : goal.returns-in_err-next
returns-in_err-next c =
    let p = err_from_is_err_and c.from_residual.result c.from_residual.ensures.1 in
    let none = c.in_err-next.ensures.ok_part in
    let same : c.in_err-next.field-0.0 ≡ record { word = c.loop-word.word } =
    let e = rw none at c.in_err-next.ensures.value in cc in
    rw (p.1, p.2, same) (left-deep c.loop-word.invariant.left c.loop-word-test.true _ c.symbol_of-symbol.ensures c.write_word.ensures none)

pub returns-then-is_none : goal.returns-then-is_none
returns-then-is_none c =
    left_ended c.loop-word.invariant.left c.loop-word-test.true _ c.symbol_of-symbol.ensures _ c.write_word.ensures c.in_ok-next.ensures.ok_part
    (rw c.innermost.ensures at c.if-is_none.ensures)

pub loop-word-preserved : goal.loop-word-preserved
loop-word-preserved c = record {
  left =
      left-more c.loop-word.invariant.left c.loop-word-test.true _ c.symbol_of-symbol.ensures _ c.write_word.ensures c.in_ok-next.ensures.ok_part
      (rw c.innermost.ensures at c.if-is_none.ensures);
  no_further = search rules;
}

pub returns : goal.returns
returns c = left_none c.loop-word.invariant.left c.loop-word-test.false (search rules)
