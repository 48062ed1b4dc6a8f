use Rattle.std.proofs.Common.{rules}
use Rattle.std.proofs.lemmas.Result.{err_from_is_err_and}
use Rattle.lines.proofs.Lined.{repeat_all, repeat-some, repeat_none}
use Rattle.word_writer.specs.Passages.{rest_all, rest_as, rest_none, rest_then, rest-stop}
use Rattle.lines.proofs.each.write_each.Goals as goal

pub loop-init : goal.loop-init
loop-init g c = rest_as (repeat_all _ _ _) (rest_all _ _ _ (search rules) (search rules))

pub loop-preserved : goal.loop-preserved
loop-preserved g c = rest_then _ (rest_as (repeat-some _ _ _ _ c.loop-test.true) c.loop.invariant) c.write.ensures c.in_ok-passage.was

pub returns-in_err-passage : goal.returns-in_err-passage
returns-in_err-passage g c =
    let p = err_from_is_err_and c.from_residual.result c.from_residual.ensures.1 in
    rw (p.1, p.2) (rest-stop _ (rest_as (repeat-some _ _ _ _ c.loop-test.true) c.loop.invariant) c.write.ensures c.in_err-passage.was)

pub returns : goal.returns
returns g c = rest_none (rest_as (repeat_none _ _ _ _ c.loop-test.false) c.loop.invariant)
