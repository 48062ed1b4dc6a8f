-- The test of two terms for equality, the second reading (SPECIFICATION 2.2): strip the members from both terms; the kernels left must both be
-- empty sets, or the same functor with equal arguments; each member of either must equal some member of the other. An unknown is a
-- constant: it equals itself. `equal_is` says this of `equal`; the definition itself recurses into the left term.
use Rattle.std.specs.Prelude.{ℕ, ◌≡◌, refl, List, [], ◌∷◌, map, Bool, true, false, ◌||◌, ◌&&◌, eqb}
use Rattle.std.proofs.Common.{ap}
use Rattle.terms.specs.Lists.{all, any}
use Rattle.terms.specs.Term.{Term, Terms, unknown, empty, with, functor, none, more, members, kernel}

-- is a kernel this unknown, the empty set, this functor with arguments that pass p?
unfoldable pub is_this_unknown : ℕ → Term → Bool
is_this_unknown i (unknown j) = eqb i j
is_this_unknown i empty = false
is_this_unknown i (with m r) = false
is_this_unknown i (functor k ts) = false

unfoldable pub is_empty : Term → Bool
is_empty (unknown j) = false
is_empty empty = true
is_empty (with m r) = false
is_empty (functor k ts) = false

unfoldable pub is_this_functor : ℕ → (Terms → Bool) → Term → Bool
is_this_functor k p (unknown j) = false
is_this_functor k p empty = false
is_this_functor k p (with m r) = false
is_this_functor k p (functor j us) = eqb k j && p us

-- what a term asks of another: a test of its kernel, and for each of its own members a test of the other's members
pub record Tests : Type 0 where
  pub kernel : Term → Bool
  pub members : List (Term → Bool)

unfoldable pub pass : Tests → Term → Bool
pass v u = v.kernel (kernel u) && all (λ p. any p (members u)) v.members && all (λ y. any (λ p. p y) v.members) (members u)

unfoldable mutual
  pub tests : Term → Tests
  tests (unknown i) = record { kernel = is_this_unknown i; members = [] }
  tests empty = record { kernel = is_empty; members = [] }
  tests (with m r) = record { kernel = (tests r).kernel; members = pass (tests m) ∷ (tests r).members }
  tests (functor k ts) = record { kernel = is_this_functor k (λ us. equal* ts us); members = [] }

  -- arguments, one to one
  pub equal* : Terms → Terms → Bool
  equal* none none = true
  equal* none (more u us) = false
  equal* (more t ts) none = false
  equal* (more t ts) (more u us) = pass (tests t) u && equal* ts us

unfoldable pub equal : Term → Term → Bool
equal t u = pass (tests t) u

-- does x equal some of ys? does each of xs?
unfoldable pub is_in : Term → List Term → Bool
is_in x ys = any (λ y. equal x y) ys

unfoldable pub each_in : List Term → List Term → Bool
each_in xs ys = all (λ x. is_in x ys) xs

-- two kernels: both empty sets, the same functor with equal arguments, or the same unknown
unfoldable pub kernels_equal : Term → Term → Bool
kernels_equal (unknown i) k = is_this_unknown i k
kernels_equal empty k = is_empty k
kernels_equal (with m r) k = false
kernels_equal (functor f ts) k = is_this_functor f (λ us. equal* ts us) k

kernel_is : (t : Term) (k : Term) → (tests t).kernel k ≡ kernels_equal (kernel t) k
unfolding tests kernels_equal kernel
kernel_is (unknown i) k = refl
kernel_is empty k = refl
kernel_is (with m r) k = kernel_is r k
kernel_is (functor f ts) k = refl

members_are : (t : Term) → (tests t).members ≡ map equal (members t)
unfolding tests members equal
members_are (unknown i) = refl
members_are empty = refl
members_are (with m r) = ap (λ l. pass (tests m) ∷ l) (members_are r)
members_are (functor k ts) = refl

all_map : (p : (Term → Bool) → Bool) (xs : List Term) → all p (map equal xs) ≡ all (λ x. p (equal x)) xs
unfolding all
all_map p [] = refl
all_map p (x ∷ xs) = ap (λ b. p (equal x) && b) (all_map p xs)

any-map : (p : (Term → Bool) → Bool) (xs : List Term) → any p (map equal xs) ≡ any (λ x. p (equal x)) xs
unfolding any
any-map p [] = refl
any-map p (x ∷ xs) = ap (λ b. p (equal x) || b) (any-map p xs)

-- the sentence of SPECIFICATION 2.2; `Agree` has it with the last part turned round, `each_in (members u) (members t)`
pub equal_is : (t u : Term)
    → equal t u ≡ (kernels_equal (kernel t) (kernel u) && each_in (members t) (members u) && all (λ y. any (λ x. equal x y) (members t)) (members u))
unfolding equal pass each_in is_in
equal_is t u = rw (kernel_is t (kernel u), members_are t) (simp (all_map, any-map))

pub equal*-more : (t u : Term) (ts us : Terms) → equal* (more t ts) (more u us) ≡ (equal t u && equal* ts us)
unfolding tests equal
equal*-more t u ts us = refl

-- opens all that `equal` computes with
unfoldable pub computing_equal : Unit {0}
unfolding equal tests pass is_this_unknown is_empty is_this_functor all any members kernel
computing_equal = tt
