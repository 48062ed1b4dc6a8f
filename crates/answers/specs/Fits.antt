-- What it is to fit a listed answer. An answer's words state its bindings. Values meet the answer when each bound unknown has the value of its
-- term. Values for a question's unknowns fit it when they meet it together with some ground values for its new unknowns, over the same
-- functor table.
use Rattle.std.specs.Prelude.{ℕ, ◌<◌, ◌≡◌, List}
use Rattle.terms.specs.Bounds.{Bounds}
use Rattle.terms.specs.Lists.{All}
use Rattle.terms.specs.Formed.{Question}
use Rattle.terms.specs.Answers.{Binding, answer_words}
use Rattle.terms.specs.Listing.{Bound}
use Rattle.laws.specs.Laws.{◌≈◌}
use Rattle.laws.specs.Values.{Values, value, GroundValues}

-- the bindings that an answer's words state, with unknowns that a path may have and the question's functors
pub record States (b : Bounds) (q : Question) (answer : List ℕ) : Type 0 where
  pub bindings : List Binding
  pub formed : All (Bound q.arities b.path_unknowns) bindings
  pub words : answer ≡ answer_words b bindings

pub record Meets (b : Bounds) (q : Question) (σ : Values) (answer : List ℕ) : Type 0 where
  pub states : States b q answer
  pub met : All (λ n. σ n.name ≈ value σ n.value) states.bindings

pub record Fits (b : Bounds) (q : Question) (table : List ℕ) (σ : Values) (answer : List ℕ) : Type 0 where
  pub values : Values
  pub grounded : GroundValues table values
  pub same : (i : ℕ) → i < q.unknowns → values i ≡ σ i
  pub meets : Meets b q values answer
