-- A child of a split that is due, and what a function that makes it says.
use Rattle.std.specs.Prelude.{ℕ, ◌+◌, ◌≤◌, ◌≡◌, List}
use Rattle.room.specs.Layout.{stride}
use Rattle.terms.specs.Bounds.{edition_one}
use Rattle.terms.specs.Term.{kernel}
use Rattle.search.specs.declared.steps.Tails.{Tails}
use Rattle.search.specs.State.{Node}
use Rattle.search.specs.Classify.{tails}
use Rattle.search.specs.Children.{settle}
use Rattle.rows.specs.declared.parts.Rest.{Rest}
use Rattle.rows.specs.declared.parts.Made.{Made}
use Rattle.rows.specs.Row.{Makes}
use Rattle.search_laws.specs.Picking.{child_of}
use Rattle.choices.specs.declared.sides.Sides.{Sides}
use Rattle.choices.specs.OpenParent.{Parent, Opened, Elsewhere, own_left, own_right, to_left, to_right, news}

unfoldable pub child : Parent → Node
child p = child_of (tails p.t p.u) p.t p.u p.st p.ds p.es

-- its row lies between the parent's and the scratch
pub record Due (arities l : List ℕ) (from : ℕ) (rest : Rest) (sides : Sides) (to lent next scratch : ℕ) (p : Parent) : Type 0 where
  pub opened : Opened arities l from rest sides lent next scratch p
  pub after : from + stride lent ≤ to
  pub before : to + stride lent ≤ scratch

pub record ChildParts (arities l : List ℕ) (from : ℕ) (rest : Rest) (sides : Sides) (k : Tails) (to lent next scratch : ℕ) : Type 0 where
  pub p : Parent
  pub due : Due arities l from rest sides to lent next scratch p
  pub kind : tails p.t p.u ≡ k

-- the child of whichever parent it is
pub record ChildMade (arities l : List ℕ) (from : ℕ) (rest : Rest) (sides : Sides) (k : Tails) (to lent next scratch : ℕ) (a : Made) (r : List ℕ) : Type 0 where
  pub makes : (p : Parent) → Due arities l from rest sides to lent next scratch p → tails p.t p.u ≡ k → Makes edition_one l to lent (child p) a r
  -- the parent's row and the first three rows of scratch are as they were
  pub kept : (p : Parent) → Due arities l from rest sides to lent next scratch p → tails p.t p.u ≡ k → Elsewhere l r from lent scratch

pub child_is : (p : Parent) {k : Tails} → tails p.t p.u ≡ k → child p ≡ settle k (kernel p.t) (kernel p.u) (to_right p) (to_left p) (news p) p.st
unfolding child child_of to_right to_left news own_left own_right
child_is p e = rw e
