-- The equations of the t's picks, then those of the u's.
use Rattle.std.proofs.Common.{Option, Some, None}
use Prim.Native.Nat.{ℕ, ◌+◌, ◌-◌, ◌≤◌}
use mathlib.Core.List.{List}
use mathlib.Core.Bool.{true, false}
use native.Mathlib.Omega.{arith}
use Rattle.room.specs.Room.{seg}
use Rattle.room.specs.Replaced.{replaced, replaced-append}
use Rattle.replace.specs.Fitting.{further}
use Rattle.rows.specs.Wrote.{Wrote, wrote_more, full_more, done-fits, done-length}
use Rattle.choices.specs.Gathered.{meeting_piece, equations_piece, MeetParts}
use Rattle.choices.proofs.Frame.{meet-after, value_after, meeting_after}

module _ {l : List ℕ} {body ts n us k picks by m to capacity : ℕ}
    (P : MeetParts l body ts n us k picks by m to capacity × MeetParts l body us k ts n (picks + n) by m to capacity) (x : ℕ) where
  abbrev value : List ℕ
  value = seg l by m

  abbrev first : List ℕ
  first = meeting_piece l body ts picks false n us k

  pub first_full : {r : List ℕ} → Wrote l to capacity (replaced x value first) None r → Wrote l to capacity (replaced x value (equations_piece l body ts n us k picks)) None r
  unfolding equations_piece
  first_full w = rw replaced-append (full_more _ w)

  module _ {w : ℕ} {r : List ℕ} (W : Wrote l to capacity (replaced x value first) (Some w) r) where
    pub first-within : w ≤ capacity
    first-within = omega (arith, done-fits W, done-length W)

    pub second_parts : MeetParts r body us k ts n (picks + n) by m (to + w) (capacity - w)
    second_parts = meet-after P.1 r W.out to W.room (omega arith) (omega (arith, W.within)) w first-within

    pub equations-written : {a : Option ℕ} {r' : List ℕ}
        → Wrote r (to + w) (capacity - w) (replaced x (seg r by m) (meeting_piece r body us (picks + n) true k ts n)) a r'
        → Wrote l to capacity (replaced x value (equations_piece l body ts n us k picks)) (further w a) r'
    unfolding equations_piece
    equations-written v =
        let s = value_after P.1 r W.out to W.room (omega arith) (omega (arith, W.within)) in
        let q = meeting_after P.1 r W.out to W.room (omega arith) (omega (arith, W.within)) true in
        rw replaced-append (wrote_more W (rw (s, q) at v))
