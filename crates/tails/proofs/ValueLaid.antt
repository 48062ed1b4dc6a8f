-- A value laid out: the members that join a tail, then the other tail.
use Prim.Native.Nat.{ℕ, ◌+◌, ◌≤◌}
use mathlib.Core.Path.{◌≡◌, ap, ◌∙◌}
use mathlib.Core.List.{List}
use native.Mathlib.Omega.{arith}
use lib.ListN.{length, get_or, length-append}
use Rattle.room.specs.Room.{seg, put, length-put, length-seg, put-put}
use Rattle.room.specs.Parts.{CopyParts, apart_part, seg-put}
use Rattle.room.specs.Layout.{HEADER}
use Rattle.choices.specs.Gathered.{joining_piece}
use Rattle.tails.specs.Value.{value_piece, ValueParts}

module _ {r₀ : List ℕ} {from places picks n tail l to : ℕ} (P : ValueParts r₀ from places picks n tail l to) (others : ℕ) {k : ℕ} {r : List ℕ}
    (told : (k ≡ length (joining_piece r₀ (from + HEADER) places picks n others)) × (k ≤ get_or r₀ (places + n) 0))
    (room : r ≡ put r₀ to (joining_piece r₀ (from + HEADER) places picks n others)) where
  abbrev first : List ℕ
  first = joining_piece r₀ (from + HEADER) places picks n others

  long : length r ≡ length r₀
  long = ap length room ∙ length-put r₀ to first

  pub tail_parts : CopyParts r (from + HEADER + tail) l (to + k)
  tail_parts = record {
    from_within = rw long P.tail_within;
    to_within = rw long (omega (arith, P.to_within, told.1));
    apart = apart_part P.apart (omega arith) (omega arith) (omega arith) (omega (arith, told.1));
  }

  pub value-length : k + l ≡ length (value_piece r₀ from places picks n others tail l)
  unfolding value_piece
  value-length = omega (arith, told.0, length-append first (seg r₀ (from + HEADER + tail) l), length-seg r₀ (from + HEADER + tail) l P.tail_within)

  pub value_short : k + l ≤ get_or r₀ (places + n) 0 + l
  value_short = omega (arith, told.1)

  pub value-put : {q : List ℕ} → q ≡ put r (to + k) (seg r (from + HEADER + tail) l) → q ≡ put r₀ to (value_piece r₀ from places picks n others tail l)
  unfolding value_piece
  value-put e =
      let same : seg r (from + HEADER + tail) l ≡ seg r₀ (from + HEADER + tail) l =
      rw room (seg-put first r₀ (apart_part P.apart (omega arith) (omega arith) (omega arith) (omega (arith, told.0, told.1)))) in
      e ∙ rw (same, room, told.0) (put-put first r₀ (seg r₀ (from + HEADER + tail) l) to)
