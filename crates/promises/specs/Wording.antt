-- The words in which the promises are put. Whatever else they name is a definition of `terms` or of `search`, and `Solved` of `invariants`.
use Rattle.std.specs.Prelude.{ℕ, ◌≤◌, ◌≡◌, List, [], ◌∷◌, ◌++◌, length}
use Rattle.terms.specs.Bounds.{Bounds}
use Rattle.terms.specs.Lists.{All}
use Rattle.terms.specs.Answers.{Binding, answer_words}
use Rattle.terms.specs.Listing.{Bound}
use Rattle.search.specs.declared.ends.End.TheVariants.{Done}
use Rattle.search.specs.Run.{Loan, Outcome, Visit, found}
use Rattle.invariants.specs.SolvedForm.{Solved}

-- ---- of two runs

-- m lends no less than l
pub record NoLess (l m : Loan) : Type 0 where
  pub steps : l.steps ≤ m.steps
  pub depth : l.depth ≤ m.depth
  pub size : l.size ≤ m.size
  pub space : l.space ≤ m.space

-- xs begins ys
pub data Begins {A : Type 0} (xs ys : List A) : Type 0 where
  followed_by : (zs : List A) → ys ≡ xs ++ zs → Begins xs ys

-- ---- of a run that is done

-- the answers that visits state, in order
unfoldable pub all_found : Bounds → List Visit → List (List ℕ)
all_found b [] = []
all_found b (v ∷ vs) = found b v.answer ++ all_found b vs

-- every node was visited and every answer held
unfoldable pub whole : Bounds → List Visit → Outcome
whole b vs = record { end = Done; visited = length vs; answers = all_found b vs }

-- ---- of an answer

-- bindings in solved form, over the first n unknowns
pub record InForm (arities : List ℕ) (n : ℕ) (bs : List Binding) : Type 0 where
  pub solved : Solved bs
  pub formed : All (Bound arities n) bs

-- the words of bindings in form
pub data AnswersInForm (b : Bounds) (arities : List ℕ) (n : ℕ) : List ℕ → Type 0 where
  words_of : (bs : List Binding) → InForm arities n bs → AnswersInForm b arities n (answer_words b bs)
