-- The test of a functor table against its limits, as the library's `any` tests a list.
use Rattle.std.proofs.Common.{◌≡◌, ℕ, ◌≤◌, Bool, ltb, List, [], ◌∷◌, ◌||◌, length, refl, ap, sym, ◌∙◌, le-ltb}
use Rattle.std.specs.List.{list_any}
use Rattle.terms.specs.Bounds.{Bounds}
use Rattle.terms.specs.Lists.{any}
use Rattle.checks.specs.Check.{arities_above}

list_any-any : (test : ℕ → Bool) (xs : List ℕ) → list_any test xs ≡ any test xs
unfolding any
list_any-any test [] = refl
list_any-any test (x ∷ xs) = ap (λ b. test x || b) (list_any-any test xs)

pub not_too_many : (b : Bounds) (arities : List ℕ) → length arities ≤ b.functors → list_any (ltb b.arity) arities ≡ arities_above b arities
unfolding arities_above
not_too_many b arities h = list_any-any (ltb b.arity) arities ∙ sym (rw (le-ltb b.functors (length arities) h))
