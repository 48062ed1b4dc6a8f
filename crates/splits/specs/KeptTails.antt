-- What a child of a split has that binds nothing: the equation of the two tails, in words; or the pile's new entry, where both are the same unknown.
use Rattle.std.specs.Prelude.{ℕ, ◌+◌, ◌-◌, ◌≤◌, ◌≡◌, true, List, [], ◌∷◌, ◌++◌, length}
use Rattle.room.specs.Room.{seg, Within}
use Rattle.room.specs.Parts.{Apart}
use Rattle.room.specs.Layout.{HEADER, value_row}
use Rattle.terms.specs.Term.{Term, kernel, over}
use Rattle.terms.specs.Shape.{is_unknown, number}
use Rattle.search.specs.State.{Entry}
use Rattle.rows.specs.declared.parts.Rest.{Rest}
use Rattle.binding.specs.Child.{Piled}
use Rattle.choices.specs.declared.sides.Sides.{Sides}
use Rattle.choices.specs.OpenParent.{Parent, Opened, Elsewhere, to_left, to_right}

unfoldable pub tails_piece : (room : List ℕ) → ℕ → Sides → List ℕ
tails_piece r from sides = seg r (from + HEADER + sides.s) (sides.right - sides.s) ++ seg r (from + HEADER + sides.r) (sides.end - sides.r)

pub record TailsParts (l : List ℕ) (from : ℕ) (sides : Sides) (to capacity : ℕ) : Type 0 where
  pub s_below : sides.s ≤ sides.right
  pub r_below : sides.r ≤ sides.end
  pub right_below : sides.right ≤ sides.end
  pub body_within : Within l (from + HEADER) sides.end
  pub to_within : Within l to capacity
  pub apart : Apart (from + HEADER) sides.end to capacity

-- the entry X = {ms|X}, if there is a member
unfoldable pub entry_of : List Term → Term → List Entry
entry_of [] x = []
entry_of (m ∷ ms) x = record { name = number x; term = over (m ∷ ms) x } ∷ []

pub record EntryParts (l : List ℕ) (from : ℕ) (sides : Sides) (lent scratch : ℕ) : Type 0 where
  pub arities : List ℕ
  pub rest : Rest
  pub next : ℕ
  pub p : Parent
  pub opened : Opened arities l from rest sides lent next scratch p

-- the entry is laid out there, and nothing below is changed
pub record EntryPut (l : List ℕ) (from : ℕ) (lent scratch : ℕ) (p : Parent) (a : ℕ) (r : List ℕ) : Type 0 where
  pub elsewhere : Elsewhere l r from lent scratch
  pub below : seg r 0 scratch ≡ seg l 0 scratch
  pub within : value_row lent scratch + a ≤ length l
  pub piled : is_unknown (kernel p.t) ≡ true → Piled r (value_row lent scratch) a (entry_of (to_right p ++ to_left p) (kernel p.t))

pub record EntryLaid (l : List ℕ) (from : ℕ) (sides : Sides) (lent scratch : ℕ) (a : ℕ) (r : List ℕ) : Type 0 where
  pub laid : (arities : List ℕ) (rest : Rest) (next : ℕ) (p : Parent) → Opened arities l from rest sides lent next scratch p → EntryPut l from lent scratch p a r
