use Rattle.splits.proofs.SharedValues.{first_long, share_long, value-parts, values-shared}
use native.Mathlib.Omega.{arith}
use Rattle.splits.proofs.different.share.Goals as goal

pub unknown_word-word-requires : goal.unknown_word-word-requires
unknown_word-word-requires c = omega (arith, c.requires.few)

pub bounds-room-second : goal.bounds-room-second
bounds-room-second c =
    let p = c.requires in
    rw c.unknown_word-word.ensures (omega (arith, first_long _ _ _ _ _ p, p.space, p.u_within, p.t_within, p.few))

pub replace-requires : goal.replace-requires
replace-requires c =
    rw c.unknown_word-word.ensures (value-parts _ _ _ _ _ c.requires)

pub shape_of-room : goal.shape_of-room
shape_of-room c =
    share_long _ _ _ _ _ c.requires _ (rw c.unknown_word-word.ensures at c.replace.ensures.room_after)

pub returns : goal.returns
returns c =
    let f_0 = rw c.unknown_word-word.ensures at c.replace.ensures.value in let f_1 = rw c.unknown_word-word.ensures at c.replace.ensures.room_after in
    record { shared = λ l₀ p s H e h. values-shared _ _ _ _ _ c.requires H e h f_0 f_1 }
