-- Formed terms: each unknown is one of the first n, each functor is of the table and has as many arguments as its arity.
-- A term is ground where n is 0. Questions, and when a question is good: SPECIFICATION 1.1 and 3.2.
use Rattle.std.specs.Prelude.{ℕ, ◌<◌, ◌≤◌, ◌≡◌, List, [], ◌∷◌, ◌++◌, length, get_or}
use Rattle.terms.specs.Bounds.{Bounds}
use Rattle.terms.specs.Lists.{All}
use Rattle.terms.specs.Term.{Term, Terms, unknown, empty, with, functor, none, more, words, count}

mutual
  pub data Formed (arities : List ℕ) (n : ℕ) : Term → Type 0 where
    formed_unknown : {i : ℕ} → i < n → Formed arities n (unknown i)
    formed_empty : Formed arities n empty
    formed_with : {m r : Term} → Formed arities n m → Formed arities n r → Formed arities n (with m r)
    formed_functor : {k : ℕ} {ts : Terms} → k < length arities → count ts ≡ get_or arities k 0 → Formed* arities n ts → Formed arities n (functor k ts)

  pub data Formed* (arities : List ℕ) (n : ℕ) : Terms → Type 0 where
    formed_none : Formed* arities n none
    formed_more : {t : Term} {ts : Terms} → Formed arities n t → Formed* arities n ts → Formed* arities n (more t ts)

abbrev pub Ground : List ℕ → Term → Type 0
Ground arities t = Formed arities 0 t

pub record Equation : Type 0 where
  pub left : Term
  pub right : Term

-- the sides of equations, left then right
unfoldable pub sides : List Equation → List Term
sides [] = []
sides (e ∷ es) = e.left ∷ e.right ∷ sides es

pub record Question : Type 0 where
  pub unknowns : ℕ
  pub arities : List ℕ
  pub equations : List Equation

-- the words of terms, one after the other
unfoldable pub row : Bounds → List Term → List ℕ
row b [] = []
row b (t ∷ ts) = words b t ++ row b ts

pub record Good (b : Bounds) (q : Question) : Type 0 where
  pub unknowns : q.unknowns ≤ b.unknowns
  pub functors : length q.arities ≤ b.functors
  pub arities : All (λ a. a ≤ b.arity) q.arities
  pub equations : length q.equations ≤ b.equations
  pub formed : All (Formed q.arities q.unknowns) (sides q.equations)
  pub symbols : length (row b (sides q.equations)) ≤ b.symbols
