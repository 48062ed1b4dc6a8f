use Rattle.tails.proofs.OpenSplit.{numbers}
use Rattle.splits.proofs.Sharing.{u-parts, t-parts, both-laid}
use native.Mathlib.Omega.{arith}
use Rattle.splits.proofs.different.lay_joined.Goals as goal

pub overflow_add-picks-2 : goal.overflow_add-picks-2
overflow_add-picks-2 c = let N = numbers c.requires.opened in omega arith

pub tail_members-u-requires : goal.tail_members-u-requires
tail_members-u-requires c = u-parts c.requires.opened

pub tail_members-t-requires : goal.tail_members-t-requires
tail_members-t-requires c =
    t-parts c.requires.opened c.tail_members-u.ensures.value c.tail_members-u.ensures.room_after

pub returns : goal.returns
returns c =
    record { laid = λ arities rest next p S. both-laid S c.tail_members-u.ensures.value c.tail_members-u.ensures.room_after c.tail_members-t.ensures.value c.tail_members-t.ensures.room_after }
