-- The sides of a split that stands open: their numbers, which stand after the picks, and the sides read back from scratch.
use Rattle.std.specs.Prelude.{ℕ, ◌+◌, ◌*◌, ◌<◌, ◌≤◌, ◌^◌, List, [], ◌∷◌, length, get_or}
use Rattle.room.specs.Room.{Within}
use Rattle.room.specs.Layout.{stride, right_row, sides_at}
use Rattle.choices.specs.declared.sides.Sides.{Sides}

-- the numbers of members and of words
unfoldable pub numbers_of : Sides → List ℕ
numbers_of sides = sides.n ∷ sides.m ∷ sides.end ∷ []

-- where they are written
pub record NumberParts (l : List ℕ) (sides : Sides) (to : ℕ) : Type 0 where
  pub within : Within l to 3
  pub n_small : sides.n < 65536
  pub m_small : sides.m < 65536
  pub end_small : sides.end < 65536
  pub small : length l < 2 ^ 32

unfoldable pub sides_in : List ℕ → (lent scratch : ℕ) → Sides
sides_in l lent scratch = record {
  n = get_or l (sides_at lent scratch) 0;
  m = get_or l (sides_at lent scratch + 1) 0;
  right = get_or l (right_row lent scratch) 0;
  end = get_or l (sides_at lent scratch + 2) 0;
  s = get_or l (scratch + get_or l (sides_at lent scratch) 0) 0;
  r = get_or l (right_row lent scratch + get_or l (sides_at lent scratch + 1) 0) 0;
}

-- the rows that are read; a place is noted for each member and for the tail
pub record SidesParts (l : List ℕ) (lent scratch : ℕ) : Type 0 where
  pub within : Within l scratch (3 * stride lent)
  pub n_few : get_or l (sides_at lent scratch) 0 ≤ lent
  pub m_few : get_or l (sides_at lent scratch + 1) 0 ≤ lent
  pub small : length l < 2 ^ 32
