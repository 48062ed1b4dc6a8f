-- A row in which nothing is pending, before its next child is looked for.
use Rattle.std.specs.Prelude.{ℕ, ◌≡◌, List, []}
use Rattle.search.specs.State.{State}
use Rattle.rows.specs.declared.header.Header.{Header}
use Rattle.rows.specs.Row.{header_for}
use Rattle.only_child.specs.Next.{Ready}

-- nothing is pending in the state that the row holds, and the header is its own
pub record Quiet (arities l : List ℕ) (at : ℕ) (header : Header) (number lent scratch most : ℕ) (st : State) : Type 0 where
  pub ready : Ready arities l at number lent scratch most st
  pub header_is : header ≡ header_for st
  pub quiet : st.pending ≡ []
