use Rattle.tails.proofs.Bounding.{bound-parts, finish-parts, bound-made, bound_full}
use Rattle.tails.proofs.Making.{wrote_elsewhere, row_elsewhere}
use Rattle.tails.proofs.bound_tail.bound.Goals as goal

pub equations-requires : goal.equations-requires
equations-requires c = bound-parts c.requires.bound

pub finish-requires : goal.finish-requires
finish-requires c = finish-parts c.requires.bound c.in_ok-w.ensures

pub returns : goal.returns
returns c =
    let finish_told = c.finish.ensures in
    record { makes = λ p name value B. bound-made B c.in_ok-w.ensures finish_told; kept = row_elsewhere c.requires.bound.target c.equations.ensures finish_told }

pub returns-in_err-w : goal.returns-in_err-w
returns-in_err-w c =
    rw c.from_residual.ensures (record { makes = λ p name value B. bound_full B c.in_err-w.ensures; kept = wrote_elsewhere c.requires.bound.target c.equations.ensures })
