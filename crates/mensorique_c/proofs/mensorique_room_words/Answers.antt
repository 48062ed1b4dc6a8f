-- `mensorique_c::mensorique_room_words`: the product is small where depth and size are within their limits.
use Prim.Native.Nat.{◌+◌}
use borrow.Author.Tests.{lt-ltb, le-ltb}
use native.Mathlib.Nat.{mul-le-mul}
use native.Mathlib.Omega.{arith}
use Rattle.room.specs.Layout.{HEADER, SPARE_ROWS}
use Rattle.results.specs.Loans.{needed}
use Rattle.mensorique_c.proofs.mensorique_room_words.Goals as goal

pub returns : goal.returns
unfolding needed
returns c = simp (le-ltb _ _ c.if-depth-gt-DEPTH.false, le-ltb _ _ c.if-size-gt-SIZE.false)
