-- What is asked of a row before its children are looked for: where its split stands open in scratch, the picks are those of the child before.
use Rattle.std.specs.Prelude.{ℕ, ◌+◌, ◌≤◌, ◌≡◌, List, Option, Some}
use Rattle.search.specs.State.{State}
use Rattle.search.specs.RunLimits.{most_depth}
use Rattle.only_child.specs.Next.{Ready}
use Rattle.pick_loop.specs.Shown.{Shown}

-- a state's split stands open, with the picks of the child before the one that is next
pub record Stands (l : List ℕ) (lent scratch : ℕ) (st : State) (child : ℕ) : Type 0 where
  pub last : ℕ
  pub after : child ≡ last + 1
  pub shown : Shown l lent scratch st last

-- the children of a row of this level may be looked for; where the level is the one that is shown, the row's split stands open
pub record Looking (arities l : List ℕ) (at level number size scratch most : ℕ) (shown : Option ℕ) (st : State) : Type 0 where
  pub level_small : level ≤ most_depth
  pub ready : Ready arities l at number size scratch most st
  pub stands : shown ≡ Some level → Stands l size scratch st number
