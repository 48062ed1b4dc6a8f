-- What equal terms must share: kernels; functors with one number and equal arguments; a member wherever the other has one. So a functor
-- term, the empty set and a set that has a member are never equal to one another.
use Rattle.std.specs.Prelude.{ℕ, ◌≡◌, refl, List, [], ◌∷◌}
use Rattle.terms.specs.Lists.{All, Any, both}
use Rattle.terms.specs.Term.{Term, Terms, empty, with, functor, members, kernel}
use Rattle.laws.specs.Laws.{◌≈◌, ◌≈*◌}
use Rattle.laws.specs.Alike.{Kernels, same_functor}
use Rattle.laws.proofs.Agree.{apart, kernels→≈, pairs→≈*}

pub kernel-≈ : {t u : Term} → t ≈ u → kernel t ≈ kernel u
kernel-≈ h = kernels→≈ (apart h).kernels

functor_kernels : {j k : ℕ} {ts us : Terms} → Kernels ◌≈◌ (functor j ts) (functor k us) → (j ≡ k) × (ts ≈* us)
functor_kernels (same_functor {ts = ts} {us = us} p) = (refl, pairs→≈* ts us p)

pub functor_parts : {j k : ℕ} {ts us : Terms} → functor j ts ≈ functor k us → (j ≡ k) × (ts ≈* us)
unfolding kernel
functor_parts h = functor_kernels (apart h).kernels

functor_kernel_empty : {k : ℕ} {ts : Terms} → Kernels ◌≈◌ (functor k ts) empty → ⊥
functor_kernel_empty h = elim h [ ]

pub functor_empty : {k : ℕ} {ts : Terms} → functor k ts ≈ empty → ⊥
unfolding kernel
functor_empty h = functor_kernel_empty (apart h).kernels

pub in_nothing : {P : Term → Type 0} → Any P [] → ⊥
in_nothing h = elim h [ ]

first : {P : Term → Type 0} {x : Term} {xs : List Term} → All P (x ∷ xs) → P x
first (both h hs) = h

pub with_empty : {m r : Term} → with m r ≈ empty → ⊥
unfolding members
with_empty h = in_nothing (first (apart h).there)

pub with_functor : {m r : Term} {k : ℕ} {ts : Terms} → with m r ≈ functor k ts → ⊥
unfolding members
with_functor h = in_nothing (first (apart h).there)
