use Rattle.std.proofs.Common.{sym, ◌∙◌}
use Rattle.std.proofs.lemmas.Result.{err_from_is_err_and}
use Rattle.writer.specs.Written.{untouched, written}
use Rattle.list_writer.proofs.list.write_checked.Goals as goal

pub returns-in_err-length : goal.returns-in_err-length
returns-in_err-length c =
    let p = err_from_is_err_and c.from_residual.result c.from_residual.ensures.1 in
    rw (p.1, p.2) (record { value = sym c.in_err-length.was ∙ c.measure_list.ensures; held = untouched })

pub returns : goal.returns
returns c = record { value = sym c.in_ok-length.was ∙ c.measure_list.ensures; held = written c.write_list.ensures }
