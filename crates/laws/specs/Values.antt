-- Values for unknowns, and when they solve a question: after all values are put in, both sides of each equation are equal by the laws.
-- Ground values are formed over any functor table that extends the declared one. Laws are in `ValuesPut` and `Solving`.
use Rattle.std.specs.Prelude.{ℕ, ◌≡◌, List, ◌++◌, Bool, cond, eqb, get_or}
use Rattle.terms.specs.Lists.{All, all}
use Rattle.terms.specs.Term.{Term, Terms, unknown, empty, with, functor, none, more}
use Rattle.terms.specs.Formed.{Ground, Equation}
use Rattle.laws.specs.Laws.{◌≈◌}
use Rattle.laws.specs.Equal.{equal}

-- a term for each unknown
abbrev pub Values : Type 0
Values = ℕ → Term

-- all values put into a term at once
unfoldable mutual
  pub value : Values → Term → Term
  value σ (unknown i) = σ i
  value σ empty = empty
  value σ (with m r) = with (value σ m) (value σ r)
  value σ (functor k ts) = functor k (value* σ ts)

  pub value* : Values → Terms → Terms
  value* σ none = none
  value* σ (more t ts) = more (value σ t) (value* σ ts)

-- the value v for x, and σ's for all others
unfoldable pub given : ℕ → Term → Values → Values
given x v σ i = cond (eqb i x) v (σ i)

-- one value for each unknown, in order
unfoldable pub in_order : List Term → Values
in_order vs i = get_or vs i empty

-- a functor table that begins with the declared one
pub record Extends (declared table : List ℕ) : Type 0 where
  pub more_functors : List ℕ
  pub begins : table ≡ declared ++ more_functors

abbrev pub GroundValues : List ℕ → Values → Type 0
GroundValues table σ = (i : ℕ) → Ground table (σ i)

abbrev pub Holds : Values → Equation → Type 0
Holds σ e = value σ e.left ≈ value σ e.right

abbrev pub Solves : Values → List Equation → Type 0
Solves σ es = All (Holds σ) es

-- the same as a test
unfoldable pub holds_test : Values → Equation → Bool
holds_test σ e = equal (value σ e.left) (value σ e.right)

unfoldable pub solves_test : Values → List Equation → Bool
solves_test σ es = all (holds_test σ) es
