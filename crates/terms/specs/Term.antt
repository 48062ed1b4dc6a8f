-- What a term is, its words, and what is asked of it: size, occurrence, substitution, members and kernel, nesting.
-- SPECIFICATION 1 and 3.1. Laws are in `Flat`, `Formed` and `Reading`.
use Rattle.std.specs.Prelude.{ℕ, ◌+◌, suc, max, List, [], ◌∷◌, ◌++◌, Bool, false, ◌||◌, cond, eqb}
use Rattle.terms.specs.Bounds.{Bounds, EMPTY, MEMBER}

-- an unknown, the empty set, a member added to a rest, or a functor with its arguments
mutual
  pub data Term : Type 0 where
    unknown : ℕ → Term
    empty : Term
    with : Term → Term → Term
    functor : ℕ → Terms → Term

  pub data Terms : Type 0 where
    none : Terms
    more : Term → Terms → Terms

-- prefix words: 0, 1 before the member and then the rest, the unknown's word, the functor's word before its arguments
unfoldable mutual
  pub words : Bounds → Term → List ℕ
  words b (unknown i) = (b.first_unknown + i) ∷ []
  words b empty = EMPTY ∷ []
  words b (with m r) = MEMBER ∷ (words b m ++ words b r)
  words b (functor k ts) = (b.first_functor + k) ∷ words* b ts

  pub words* : Bounds → Terms → List ℕ
  words* b none = []
  words* b (more t ts) = words b t ++ words* b ts

-- the number of symbols; one word is one symbol
unfoldable mutual
  pub size : Term → ℕ
  size (unknown i) = 1
  size empty = 1
  size (with m r) = suc (size m + size r)
  size (functor k ts) = suc (size* ts)

  pub size* : Terms → ℕ
  size* none = 0
  size* (more t ts) = size t + size* ts

-- does the unknown x occur?
unfoldable mutual
  pub occurs : ℕ → Term → Bool
  occurs x (unknown i) = eqb i x
  occurs x empty = false
  occurs x (with m r) = occurs x m || occurs x r
  occurs x (functor k ts) = occurs* x ts

  pub occurs* : ℕ → Terms → Bool
  occurs* x none = false
  occurs* x (more t ts) = occurs x t || occurs* x ts

-- s put for the unknown x
unfoldable mutual
  pub subst : ℕ → Term → Term → Term
  subst x s (unknown i) = cond (eqb i x) s (unknown i)
  subst x s empty = empty
  subst x s (with m r) = with (subst x s m) (subst x s r)
  subst x s (functor k ts) = functor k (subst* x s ts)

  pub subst* : ℕ → Term → Terms → Terms
  subst* x s none = none
  subst* x s (more t ts) = more (subst x s t) (subst* x s ts)

-- the members that were added, the outermost first, and the kernel that is left when they are stripped
unfoldable pub members : Term → List Term
members (unknown i) = []
members empty = []
members (with m r) = m ∷ members r
members (functor k ts) = []

unfoldable pub kernel : Term → Term
kernel (unknown i) = unknown i
kernel empty = empty
kernel (with m r) = kernel r
kernel (functor k ts) = functor k ts

-- the members ms added to k: {ms|k}
unfoldable pub over : List Term → Term → Term
over [] k = k
over (m ∷ ms) k = with m (over ms k)

-- arguments as a list, and their number
unfoldable pub list : Terms → List Term
list none = []
list (more t ts) = t ∷ list ts

unfoldable pub count : Terms → ℕ
count none = 0
count (more t ts) = suc (count ts)

-- how deep brackets stand in brackets: {t,..|s} and f(t,..) are one more than the deepest term inside, the tail included
unfoldable mutual
  pub nesting : Term → ℕ
  nesting (unknown i) = 0
  nesting empty = 0
  nesting (with m r) = suc (max (nesting m) (inside r))
  nesting (functor k ts) = bracketed ts

  -- the deepest of what a bracket has left to write: further members, then the tail
  pub inside : Term → ℕ
  inside (unknown i) = 0
  inside empty = 0
  inside (with m r) = max (nesting m) (inside r)
  inside (functor k ts) = bracketed ts

  pub bracketed : Terms → ℕ
  bracketed none = 0
  bracketed (more t ts) = suc (max (nesting t) (deepest ts))

  pub deepest : Terms → ℕ
  deepest none = 0
  deepest (more t ts) = max (nesting t) (deepest ts)
