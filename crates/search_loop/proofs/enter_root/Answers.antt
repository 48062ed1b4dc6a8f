-- `root::enter_root`: `RootRun` says what is noted of the root, and that the search then goes on.
use mathlib.Core.Path.{sym, refl}
use Prim.Native.Nat.{◌+◌}
use native.Mathlib.Omega.{arith}
use lib.Seq.{length-take-le}
use Rattle.room.specs.Layout.{HEADER}
use Rattle.search_loop.proofs.RootRun.{row_fits, root_notable, root-held, root_space}
use Rattle.search_loop.proofs.enter_root.Goals as goal

pub slice_bounds-note-end : goal.slice_bounds-note-end
slice_bounds-note-end c = omega (arith, row_fits c.requires.1.suits)

pub slice_bounds-note-end-2 : goal.slice_bounds-note-end-2
slice_bounds-note-end-2 c = sym (length-take-le (c.args.limits.size + HEADER) c.args.room.now (omega (arith, row_fits c.requires.1.suits)))

pub note-requires : goal.note-requires
note-requires c = root_notable c.requires.1 refl

pub search_on-requires : goal.search_on-requires
search_on-requires c =
    (c.requires.0, root-held c.requires.1 refl (c.note.ensures.value, c.note.ensures.answers_after) c.in-Some.is)

pub returns-in-Some : goal.returns-in-Some
returns-in-Some c =
    λ to S. c.search_on.ensures to (root-held S refl (c.note.ensures.value, c.note.ensures.answers_after) c.in-Some.is)

pub returns-in-None : goal.returns-in-None
returns-in-None c = λ to S. root_space S refl (c.note.ensures.value, c.note.ensures.answers_after) c.in-None.is
