use Rattle.tails.proofs.Making.{not_large}
use Rattle.splits.proofs.Twice.{first-parts, second_parts, twice-made, twice-kept, twice_large}
use mathlib.Core.Path.{ap}
use Rattle.rows.specs.Made.{of_sized}
use Rattle.splits.proofs.different.bind_twice.Goals as goal

pub bound-requires : goal.bound-requires
bound-requires c = first-parts c.requires.parts

pub bind_again-requires : goal.bind_again-requires
bind_again-requires c =
    second_parts c.requires.parts c.bound.ensures (ap of_sized c.in_ok-bound.was)

pub returns : goal.returns
returns c =
    let bound_told = c.bound.ensures in
    let bind_again_told = c.bind_again.ensures in
    record { makes = λ p s r D. twice-made D bound_told (ap of_sized c.in_ok-bound.was) bind_again_told; kept = twice-kept c.requires.parts bound_told bind_again_told }

pub returns-in_err-bound : goal.returns-in_err-bound
returns-in_err-bound c =
    let bound_told = c.bound.ensures in
    rw c.from_residual.ensures (record { makes = λ p s r D. twice_large D bound_told (not_large (ap of_sized c.in_err-bound.was)); kept = bound_told.kept })
