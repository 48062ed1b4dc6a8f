-- What a tail is bound to, in words: the members that joined it, and then the other tail.
use Rattle.std.specs.Prelude.{ℕ, ◌+◌, List, ◌++◌, get_or}
use Rattle.room.specs.Room.{seg, Within}
use Rattle.room.specs.Parts.{Apart}
use Rattle.room.specs.Layout.{HEADER}
use Rattle.choices.specs.Gathered.{joining_piece, TailParts}

unfoldable pub value_piece : (room : List ℕ) → (from places picks n others tail l : ℕ) → List ℕ
value_piece r from places picks n others tail l = joining_piece r (from + HEADER) places picks n others ++ seg r (from + HEADER + tail) l

pub record ValueParts (r : List ℕ) (from places picks n tail l to : ℕ) : Type 0 where
  pub members : TailParts r (from + HEADER) places picks n to
  pub tail_within : Within r (from + HEADER + tail) l
  pub to_within : Within r to (get_or r (places + n) 0 + l)
  pub apart : Apart (from + HEADER + tail) l to (get_or r (places + n) 0 + l)
