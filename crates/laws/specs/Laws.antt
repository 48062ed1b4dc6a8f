-- The least equality that keeps the laws {x,x|z} = {x|z} and {x,y|z} = {y,x|z} inside every term: SPECIFICATION
-- 2.1. A kernel may be any functor term (coloured sets), and an unknown stands for itself. Its agreement with the test is in `Agree`.
use Rattle.std.specs.Prelude.{ℕ, List}
use Rattle.terms.specs.Lists.{All, Any}
use Rattle.terms.specs.Term.{Term, Terms, with, functor, none, more}

infix 4 ◌≈◌ ◌≈*◌
mutual
  pub data ◌≈◌ : Term → Term → Type 0 where
    -- the two laws
    absorb : {x z : Term} → with x (with x z) ≈ with x z
    exchange : {x y z : Term} → with x (with y z) ≈ with y (with x z)
    -- inside every term
    ≈with : {m n r s : Term} → m ≈ n → r ≈ s → with m r ≈ with n s
    ≈functor : {k : ℕ} {ts us : Terms} → ts ≈* us → functor k ts ≈ functor k us
    -- an equality
    ≈refl : {t : Term} → t ≈ t
    ≈sym : {t u : Term} → t ≈ u → u ≈ t
    ≈trans : {t u v : Term} → t ≈ u → u ≈ v → t ≈ v

  -- arguments, one to one
  pub data ◌≈*◌ : Terms → Terms → Type 0 where
    ≈none : none ≈* none
    ≈more : {t u : Term} {ts us : Terms} → t ≈ u → ts ≈* us → more t ts ≈* more u us

-- t equals some of us; each of ts equals some of us
abbrev pub In : Term → List Term → Type 0
In t us = Any (λ u. t ≈ u) us

abbrev pub Within : List Term → List Term → Type 0
Within ts us = All (λ t. In t us) ts
