-- A child of a split that binds an unknown to a term, whose words stand somewhere in the room.
use Rattle.std.specs.Prelude.{ℕ, ◌+◌, ◌*◌, ◌<◌, ◌≤◌, ◌≡◌, List}
use Rattle.room.specs.Room.{Within}
use Rattle.room.specs.Parts.{Apart}
use Rattle.room.specs.Layout.{stride}
use Rattle.terms.specs.Bounds.{edition_one, FIRST_UNKNOWN, PATH_UNKNOWNS}
use Rattle.terms.specs.Term.{Term}
use Rattle.search.specs.State.{Node, live}
use Rattle.search.specs.Children.{bound, bound_state}
use Rattle.rows.specs.declared.parts.Rest.{Rest}
use Rattle.rows.specs.declared.parts.Made.{Made}
use Rattle.rows.specs.Row.{Makes}
use Rattle.binding.specs.Child.{Stands, ahead}
use Rattle.choices.specs.declared.sides.Sides.{Sides}
use Rattle.choices.specs.OpenParent.{Parent, Opened, Elsewhere, news}

-- the unknown `name` is bound to a value
unfoldable pub bound_child : Parent → (next name : ℕ) → Term → Node
bound_child p next name value = live (bound_state name value (ahead (news p) next p.st))

-- where the row that is written lies
pub record Target (l : List ℕ) (from lent scratch to : ℕ) : Type 0 where
  pub to_within : Within l to (stride lent)
  pub low_apart : Apart 0 (from + stride lent) to (stride lent)
  pub high_apart : Apart scratch (3 * stride lent) to (stride lent)

pub record Bound (arities l : List ℕ) (from : ℕ) (rest : Rest) (sides : Sides) (x by m to lent next scratch : ℕ) (p : Parent) (name : ℕ) (value : Term) : Type 0 where
  -- the parent's next unknown
  pub named : ℕ
  pub opened : Opened arities l from rest sides lent named scratch p
  pub target : Target l from lent scratch to
  pub x_is : x ≡ FIRST_UNKNOWN + name
  pub name_small : name < FIRST_UNKNOWN
  pub stands : Stands l by m value
  pub few : next ≤ PATH_UNKNOWNS
  pub by_within : Within l by m
  pub by_apart : Apart by m to (stride lent)

pub record BoundParts (arities l : List ℕ) (from : ℕ) (rest : Rest) (sides : Sides) (x by m to lent next scratch : ℕ) : Type 0 where
  pub p : Parent
  pub name : ℕ
  pub value : Term
  pub bound : Bound arities l from rest sides x by m to lent next scratch p name value

-- the child of whichever parent it is; the parent's row and the first three rows of scratch are as they were
pub record BoundMade (arities l : List ℕ) (from : ℕ) (rest : Rest) (sides : Sides) (x by m to lent next scratch : ℕ) (a : Made) (r : List ℕ) : Type 0 where
  pub makes : (p : Parent) (name : ℕ) (value : Term) → Bound arities l from rest sides x by m to lent next scratch p name value
      → Makes edition_one l to lent (bound_child p next name value) a r
  pub kept : Elsewhere l r from lent scratch

-- or a dead end
pub record TailMade (arities l : List ℕ) (from : ℕ) (rest : Rest) (sides : Sides) (x by m to lent next scratch : ℕ) (a : Made) (r : List ℕ) : Type 0 where
  pub makes : (p : Parent) (name : ℕ) (value : Term) → Bound arities l from rest sides x by m to lent next scratch p name value
      → Makes edition_one l to lent (bound name value (ahead (news p) next p.st)) a r
  pub kept : Elsewhere l r from lent scratch
