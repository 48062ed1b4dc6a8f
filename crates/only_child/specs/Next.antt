-- What is asked of a row before its next child is looked for, and what is told of its children from a number on: dead ends are passed, and the first
-- child that is none is written to the next row.
use Rattle.std.specs.Prelude.{ℕ, zero, suc, ◌+◌, ◌*◌, ◌≤◌, ◌<◌, ◌^◌, ◌≡◌, List, [], ◌∷◌, ◌++◌, length, drop, Option, Some, None}
use Rattle.std.proofs.Common.{refl, sym, ap, ◌∙◌}
use Rattle.room.specs.Room.{seg, seg-seg}
use Rattle.room.specs.Layout.{stride}
use Rattle.terms.specs.Bounds.{edition_one}
use Rattle.search.specs.State.{State, Node, dead, live, state_size}
use Rattle.search.specs.Children.{children}
use Rattle.search.specs.RunLimits.{most_size, most_steps}
use Rattle.rows.specs.declared.parts.Made.{Made}
use Rattle.rows.specs.declared.parts.Made.TheVariants.{Dead, Names, Large, Live}
use Rattle.rows.specs.declared.parts.Reached.{Reached}
use Rattle.rows.specs.declared.parts.Reached.TheVariants as reached
use Rattle.rows.specs.Made.{of_reached}
use Rattle.rows.specs.Row.{Holds, Makes}
use Rattle.binding.specs.At.{Sound}
use Rattle.only_child.specs.declared.next.Next.{Next}
use Rattle.only_child.specs.declared.next.Next.TheVariants.{Spent, Node as Found, Due}

-- the row at `at` holds a state; where a child may be opened there is a row for it, and after that are seven rows of scratch
pub record Ready (arities l : List ℕ) (at number size scratch most : ℕ) (st : State) : Type 0 where
  pub sound : Sound arities st
  pub holds : Holds edition_one l at st
  pub fits : state_size st ≤ size
  pub row : at + stride size ≤ scratch
  pub child : 0 < most → at + stride size + stride size ≤ scratch
  pub scratch_rows : scratch + 7 * stride size ≤ length l
  pub lent_small : size ≤ most_size
  pub small : length l < 2 ^ 32
  pub numbers : number + most ≤ most_steps

unfoldable pub dead_ends : ℕ → List Node
dead_ends zero = []
dead_ends (suc k) = dead ∷ dead_ends k

pub data Tells (l : List ℕ) (to size : ℕ) (ns : List Node) (most : ℕ) (r : List ℕ) : Next → Type 0 where
  -- so many dead ends, and nothing more
  all_dead : {k : ℕ} → k ≤ most → ns ≡ dead_ends k ++ [] → Tells l to size ns most r (Spent k)
  -- after them a node that is none, and what became of it
  then_live : {k : ℕ} {a : Reached} (next : State) (rest : List Node) → k < most → ns ≡ dead_ends k ++ (live next ∷ rest) → Makes edition_one l to size (live next) (of_reached a) r
      → Tells l to size ns most r (Found k a)
  -- as many as may be passed, and another child after them
  then_due : {k : ℕ} (node : Node) (rest : List Node) → k ≡ most → ns ≡ dead_ends k ++ (node ∷ rest) → Tells l to size ns most r (Due k)

-- the rows up to the one whose children are looked for are as they were
pub record Child (l : List ℕ) (at number size most : ℕ) (st : State) (a : Next) (r : List ℕ) : Type 0 where
  pub long : length r ≡ length l
  pub below : seg r 0 (at + stride size) ≡ seg l 0 (at + stride size)
  pub tells : Tells l (at + stride size) size (drop number (children st)) most r a

-- the same, where no split is opened: what stood open in the first three rows of scratch still does
pub record Kept (l : List ℕ) (at number size scratch most : ℕ) (st : State) (a : Next) (r : List ℕ) : Type 0 where
  pub child : Child l at number size most st a r
  pub keeps : seg r scratch (3 * stride size) ≡ seg l scratch (3 * stride size)

-- what became of a node, where a dead end is none
abbrev pub made_of : Option Reached → Made
made_of None = Dead
made_of (Some a) = of_reached a

-- ---- a state that has one child

-- what is told of the only child, by what became of it
unfoldable pub next_made : Made → Next
next_made Dead = Spent 1
next_made Names = Found 0 reached.Names
next_made Large = Found 0 reached.Large
next_made Live = Found 0 reached.Live

pub next_reached : (a : Reached) → Found 0 a ≡ next_made (of_reached a)
unfolding next_made of_reached
next_reached reached.Names = refl
next_reached reached.Large = refl
next_reached reached.Live = refl

-- a part of what is as it was
pub same_part : (l r : List ℕ) (k n i j : ℕ) → i + j ≤ n → seg r k n ≡ seg l k n → seg r (k + i) j ≡ seg l (k + i) j
same_part l r k n i j h e = sym (seg-seg r k n i j h) ∙ ap (λ (ws : List ℕ). seg ws i j) e ∙ seg-seg l k n i j h
