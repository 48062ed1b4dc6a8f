use Rattle.splits.proofs.BothBound.{share_elsewhere, renew_large, renew_parts, renew_made}
use Rattle.choices.specs.OpenParent.{elsewhere_next}
use Rattle.splits.proofs.different.renew.Goals as goal

pub bind_twice-requires : goal.bind_twice-requires
bind_twice-requires c =
    let share_told = c.share.ensures in
    renew_parts c.requires.parts share_told _ c.in_ok-m.was

pub returns : goal.returns
returns c =
    let share_told = c.share.ensures in
    let bind_twice_told = c.bind_twice.ensures in
    record { makes = λ l₀ p s r R. renew_made R share_told _ c.in_ok-m.was bind_twice_told; kept = elsewhere_next (share_elsewhere c.requires.parts share_told) bind_twice_told.kept }

pub returns-in_err-m : goal.returns-in_err-m
returns-in_err-m c =
    let share_told = c.share.ensures in
    rw c.from_residual.ensures (record { makes = λ l₀ p s r R. renew_large R share_told c.in_err-m.was; kept = share_elsewhere c.requires.parts share_told })
