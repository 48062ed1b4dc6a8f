-- A row whose first equation leaves no choice, before its next child is looked for.
use Rattle.std.specs.Prelude.{ℕ, ◌+◌, ◌≡◌, List, ◌∷◌}
use Rattle.terms.specs.Term.{size}
use Rattle.terms.specs.Formed.{Equation}
use Rattle.search.specs.State.{State}
use Rattle.search.specs.Classify.{classify}
use Rattle.rows.specs.declared.parts.Rest.{Rest}
use Rattle.rows.specs.Row.{header_for}
use Rattle.rows.specs.First.{rest_after}
use Rattle.plain_steps.specs.declared.plain.Forced.{Forced}
use Rattle.plain_steps.specs.Plain.{of_plain}
use Rattle.only_child.specs.Next.{Ready}

-- the state that the row holds has e for its first equation, and the step and the numbers are those of e
pub record Single (arities l : List ℕ) (at : ℕ) (rest : Rest) (first : Forced) (number lent next scratch most : ℕ) (st : State) (e : Equation) (es : List Equation) : Type 0 where
  pub ready : Ready arities l at number lent scratch most st
  pub cut : st.pending ≡ e ∷ es
  pub step_is : of_plain first.step ≡ classify e.left e.right
  pub right_is : first.right ≡ size e.left
  pub end_is : first.end ≡ size e.left + size e.right
  pub rest_is : rest ≡ rest_after at (header_for st) (size e.left + size e.right)
  pub next_is : next ≡ st.next

-- there is such a state
pub record SingleAt (arities l : List ℕ) (at : ℕ) (rest : Rest) (first : Forced) (number lent next scratch most : ℕ) : Type 0 where
  pub state : State
  pub equation : Equation
  pub others : List Equation
  pub here : Single arities l at rest first number lent next scratch most state equation others
