-- The picks of a split's child in scratch: how many each member has, what is asked of them, and what is told of the children from theirs on.
use Rattle.std.specs.Prelude.{ℕ, ◌+◌, ◌≤◌, ◌<◌, ◌≡◌, Bool, true, false, List, length, drop}
use Rattle.room.specs.Room.{seg}
use Rattle.room.specs.Layout.{stride, sides_at}
use Rattle.terms.specs.Term.{members, kernel}
use Rattle.terms.specs.Shape.{is_unknown}
use Rattle.search.specs.State.{Node, dead}
use Rattle.search.specs.Classify.{tails}
use Rattle.search.specs.Children.{split}
use Rattle.search.specs.declared.steps.Tails.{Tails}
use Rattle.search.specs.declared.steps.Tails.TheVariants.{Neither, Left, Right, Different, Same}
use Rattle.search.specs.RunLimits.{most_steps}
use Rattle.rows.specs.declared.parts.Rest.{Rest}
use Rattle.rows.specs.declared.parts.Reached.TheVariants.{Live}
use Rattle.search_laws.specs.ChoiceNumbers.{Digits}
use Rattle.search_laws.specs.Picking.{radix, child_number}
use Rattle.choices.specs.declared.sides.Sides.{Sides}
use Rattle.choices.specs.Digits.{copies}
use Rattle.choices.specs.OpenParent.{Parent, Opened}
use Rattle.tails.specs.Due.{child}
use Rattle.only_child.specs.declared.next.Next.{Next}
use Rattle.only_child.specs.declared.next.Next.TheVariants.{Node as Found}
use Rattle.only_child.specs.Next.{Tells}

-- is the left tail an unknown, and is the right one?
unfoldable pub left_open : Tails → Bool
left_open Neither = false
left_open Left = true
left_open Right = false
left_open Different = true
left_open Same = true

unfoldable pub right_open : Tails → Bool
right_open Neither = false
right_open Left = false
right_open Right = true
right_open Different = true
right_open Same = true

-- all children of a split, and the place among them of the one whose digits these are
unfoldable pub all_children : Parent → List Node
all_children p = split (tails p.t p.u) p.t p.u p.st

unfoldable pub place : Parent → ℕ
place p = child_number (tails p.t p.u) p.t p.u p.st p.ds p.es

-- a t has `first` picks and a u `second`; where a child may be opened there is a row for it
pub record Picks (arities l : List ℕ) (at : ℕ) (rest : Rest) (sides : Sides) (kind : Tails) (first second lent next scratch most : ℕ) (p : Parent) : Type 0 where
  pub opened : Opened arities l at rest sides lent next scratch p
  pub kind_is : tails p.t p.u ≡ kind
  pub first_is : first ≡ radix (is_unknown (kernel p.u)) (length (members p.u))
  pub second_is : second ≡ radix (is_unknown (kernel p.t)) (length (members p.t))
  pub proper_t : Digits (copies sides.n first) p.ds
  pub proper_u : Digits (copies sides.m second) p.es
  pub child : 0 < most → at + stride lent + stride lent ≤ scratch
  pub most_small : most ≤ most_steps

pub record PicksAt (arities l : List ℕ) (at : ℕ) (rest : Rest) (sides : Sides) (kind : Tails) (first second lent next scratch most : ℕ) : Type 0 where
  pub p : Parent
  pub here : Picks arities l at rest sides kind first second lent next scratch most p

-- the child whose picks these are may be opened, and is a dead end
pub record Ended (arities l : List ℕ) (at : ℕ) (rest : Rest) (sides : Sides) (kind : Tails) (first second lent next scratch most : ℕ) (p : Parent) : Type 0 where
  pub here : Picks arities l at rest sides kind first second lent next scratch most p
  pub may : 0 < most
  pub ended : child p ≡ dead

pub record EndedAt (arities l : List ℕ) (at : ℕ) (rest : Rest) (sides : Sides) (kind : Tails) (first second lent next scratch most : ℕ) : Type 0 where
  pub p : Parent
  pub here : Ended arities l at rest sides kind first second lent next scratch most p

-- ---- what is told of the children

-- the parent with other digits
abbrev pub again : Parent → List ℕ → List ℕ → Parent
again p ds es = record { t = p.t; u = p.u; st = p.st; ds = ds; es = es }

-- the picks are those of the child so many further on
pub record Further (arities l : List ℕ) (at : ℕ) (rest : Rest) (sides : Sides) (kind : Tails) (first second lent next scratch most : ℕ) (p : Parent) (k : ℕ) : Type 0 where
  pub ds : List ℕ
  pub es : List ℕ
  pub here : Picks arities l at rest sides kind first second lent next scratch most (again p ds es)
  pub place_at : place (again p ds es) ≡ place p + k

-- the rows up to the parent's and the numbers after the picks are as they were; where a child was opened, the picks are its own
pub record Picked (arities l : List ℕ) (at : ℕ) (rest : Rest) (sides : Sides) (kind : Tails) (first second lent next scratch most : ℕ) (p : Parent) (a : Next) (r : List ℕ) : Type 0 where
  pub long : length r ≡ length l
  pub below : seg r 0 (at + stride lent) ≡ seg l 0 (at + stride lent)
  pub told : seg r (sides_at lent scratch) 3 ≡ seg l (sides_at lent scratch) 3
  pub tells : Tells l (at + stride lent) lent (drop (place p) (all_children p)) most r a
  pub further : (k : ℕ) → a ≡ Found k Live → Further arities r at rest sides kind first second lent next scratch most p k
