-- A row whose first equation is a split, before its next child is looked for.
use Rattle.std.specs.Prelude.{ℕ, ◌+◌, ◌≡◌, List, ◌∷◌}
use Rattle.terms.specs.Term.{size}
use Rattle.terms.specs.Formed.{Equation}
use Rattle.search.specs.State.{State}
use Rattle.search.specs.Classify.{classify}
use Rattle.search.specs.declared.steps.Tails.{Tails}
use Rattle.search.specs.declared.steps.Step.TheVariants.{Split}
use Rattle.rows.specs.declared.parts.Rest.{Rest}
use Rattle.rows.specs.Row.{header_for}
use Rattle.rows.specs.First.{rest_after}
use Rattle.only_child.specs.Next.{Ready}

-- the state that the row holds has the split e for its first equation, and the numbers are those of e
pub record Splitting (arities l : List ℕ) (at : ℕ) (rest : Rest) (right end : ℕ) (kind : Tails) (number lent next scratch most : ℕ) (st : State) (e : Equation) (es : List Equation) : Type 0 where
  pub ready : Ready arities l at number lent scratch most st
  pub cut : st.pending ≡ e ∷ es
  pub right_is : right ≡ size e.left
  pub end_is : end ≡ size e.left + size e.right
  pub rest_is : rest ≡ rest_after at (header_for st) (size e.left + size e.right)
  pub step_is : classify e.left e.right ≡ Split kind
  pub next_is : next ≡ st.next

-- there is such a state
pub record SplittingAt (arities l : List ℕ) (at : ℕ) (rest : Rest) (right end : ℕ) (kind : Tails) (number lent next scratch most : ℕ) : Type 0 where
  pub state : State
  pub first : Equation
  pub others : List Equation
  pub here : Splitting arities l at rest right end kind number lent next scratch most state first others
