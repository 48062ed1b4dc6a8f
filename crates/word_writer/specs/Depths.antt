-- How deep the bracket stands that each word of a term opens: refusal 6 is told at the first word whose bracket stands too deep.
-- SPECIFICATION 4.6: in words, at the word which that bracket would write.
use Rattle.std.specs.Prelude.{ℕ, suc, ◌+◌, Bool, true, false, List, [], ◌∷◌, ◌++◌, ltb}
use Rattle.terms.specs.Term.{Term, Terms, unknown, empty, with, functor, none, more}

unfoldable mutual
  -- for each word the number of brackets open, with the one that it opens; 0 where it opens none. n are open before the term
  pub depths : ℕ → Term → List ℕ
  depths n (unknown i) = 0 ∷ []
  depths n empty = 0 ∷ []
  depths n (with m r) = suc n ∷ (depths (suc n) m ++ rest_depths (suc n) r)
  depths n (functor k ts) = argument_depths n ts

  -- the rest of a set, whose bracket is open: a further member opens no bracket of its own
  pub rest_depths : ℕ → Term → List ℕ
  rest_depths n (unknown i) = 0 ∷ []
  rest_depths n empty = 0 ∷ []
  rest_depths n (with m r) = 0 ∷ (depths n m ++ rest_depths n r)
  rest_depths n (functor k ts) = argument_depths n ts

  -- a functor's word and its arguments
  pub argument_depths : ℕ → Terms → List ℕ
  argument_depths n none = 0 ∷ []
  argument_depths n (more t ts) = suc n ∷ (depths (suc n) t ++ further_depths (suc n) ts)

  pub further_depths : ℕ → Terms → List ℕ
  further_depths n none = []
  further_depths n (more t ts) = depths n t ++ further_depths n ts

-- terms one after the other
unfoldable pub row_depths : List Term → List ℕ
row_depths [] = []
row_depths (t ∷ ts) = depths 0 t ++ row_depths ts

-- the place of the first number above a limit
pub data First : Type 0 where
  all_within : First
  first_at : ℕ → First

unfoldable pub found : Bool → ℕ → First → First
found true p later = first_at p
found false p later = later

unfoldable pub first_above : ℕ → ℕ → List ℕ → First
first_above limit p [] = all_within
first_above limit p (d ∷ ds) = found (ltb limit d) p (first_above limit (p + 1) ds)
