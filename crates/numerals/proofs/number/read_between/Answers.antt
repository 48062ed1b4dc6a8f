-- `read_between`: the number as it was read, tested against both limits.
use Rattle.std.proofs.lemmas.Result.{err_from_is_err_and}
use Rattle.numerals.proofs.DigitTests.{between-refused, between-below, between-above, between-read}
use Rattle.numerals.proofs.number.read_between.Goals as goal
use Rattle.numerals.proofs.number.read_between.Goals.{then-read-low-via-then-read-low, then-read-low-via-else-read-low+then-high-read}

pub returns-in_err-read : goal.returns-in_err-read
returns-in_err-read c =
    let p = err_from_is_err_and c.from_residual.result c.from_residual.ensures.1 in
    rw (p.1, p.2) (between-refused _ _ _ _ _ c.in_err-read.ensures)

pub returns-then-read-low : goal.returns-then-read-low
returns-then-read-low c =
    elim c.then-read-low.branch [
      | then-read-low-via-then-read-low w ↦ between-below _ _ _ _ c.in_ok-read.ensures w.if-read-low.true
      | then-read-low-via-else-read-low+then-high-read w ↦ between-above _ _ _ _ c.in_ok-read.ensures w.if-read-low.false w.if-high-read.true
    ]

pub returns : goal.returns
returns c = between-read _ _ _ _ c.in_ok-read.ensures c.if-read-low.false c.if-high-read.false
