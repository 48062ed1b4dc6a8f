-- The second reading of equality (SPECIFICATION 2.2) as a relation: `Alike R t u` where R is the equality of parts. The kernels are both empty sets, or the same
-- functor with equal arguments, or the same unknown; each member of either equals some member of the other. Then its laws, for any R.
use Rattle.std.specs.Prelude.{ℕ, List, [], ◌∷◌}
use Rattle.terms.specs.Lists.{All, Any, none as All-none, both, All-map, All-both, All_self, Any-map, Any_with, Any-out}
use Rattle.terms.specs.Term.{Term, Terms, unknown, empty, with, functor, none, more, members, kernel, list}
use Rattle.terms.specs.Shape.{arguments}

-- two lists whose elements are related, one to one
pub data Pairs (R : Term → Term → Type 0) : List Term → List Term → Type 0 where
  no_pair : Pairs R [] []
  pair : {x y : Term} {xs ys : List Term} → R x y → Pairs R xs ys → Pairs R (x ∷ xs) (y ∷ ys)

pub data Kernels (R : Term → Term → Type 0) : Term → Term → Type 0 where
  same_unknown : {i : ℕ} → Kernels R (unknown i) (unknown i)
  both_empty : Kernels R empty empty
  same_functor : {k : ℕ} {ts us : Terms} → Pairs R (list ts) (list us) → Kernels R (functor k ts) (functor k us)

pub record Alike (R : Term → Term → Type 0) (t u : Term) : Type 0 where
  pub kernels : Kernels R (kernel t) (kernel u)
  pub there : All (λ x. Any (λ y. R x y) (members u)) (members t)
  pub back : All (λ y. Any (λ x. R x y) (members t)) (members u)

-- what a term has whenever its members and its kernel's arguments have it, every term has
module _ (P : Term → Type 0) (step : (t : Term) → All P (members t) → All P (arguments (kernel t)) → P t) where
  mutual
    unfolding members kernel arguments list

    on_members : (t : Term) → All P (members t)
    on_members (unknown i) = All-none
    on_members empty = All-none
    on_members (with m r) = both (step m (on_members m) (on_arguments m)) (on_members r)
    on_members (functor k ts) = All-none

    on_arguments : (t : Term) → All P (arguments (kernel t))
    on_arguments (unknown i) = All-none
    on_arguments empty = All-none
    on_arguments (with m r) = on_arguments r
    on_arguments (functor k ts) = on_list ts

    on_list : (ts : Terms) → All P (list ts)
    on_list none = All-none
    on_list (more t ts) = both (step t (on_members t) (on_arguments t)) (on_list ts)

  pub by_parts : (t : Term) → P t
  by_parts t = step t (on_members t) (on_arguments t)

module _ {R : Term → Term → Type 0} where
  pairs_refl : {xs : List Term} → All (λ x. R x x) xs → Pairs R xs xs
  pairs_refl All-none = no_pair
  pairs_refl (both h hs) = pair h (pairs_refl hs)

  pairs_trans : {xs ys zs : List Term} → All (λ x. (y z : Term) → R x y → R y z → R x z) xs → Pairs R xs ys → Pairs R ys zs → Pairs R xs zs
  pairs_trans All-none no_pair no_pair = no_pair
  pairs_trans (both f fs) (pair {y = y} h hs) (pair {y = z} k ks) = pair (f y z h k) (pairs_trans fs hs ks)

  kernels_refl : (t : Term) → All (λ x. R x x) (arguments (kernel t)) → Kernels R (kernel t) (kernel t)
  unfolding kernel arguments
  kernels_refl (unknown i) h = same_unknown
  kernels_refl empty h = both_empty
  kernels_refl (with m r) h = kernels_refl r h
  kernels_refl (functor k ts) h = same_functor (pairs_refl h)

  kernels_trans : {k l n : Term} → All (λ x. (y z : Term) → R x y → R y z → R x z) (arguments k) → Kernels R k l → Kernels R l n → Kernels R k n
  unfolding arguments
  kernels_trans f same_unknown same_unknown = same_unknown
  kernels_trans f both_empty both_empty = both_empty
  kernels_trans f (same_functor h) (same_functor k) = same_functor (pairs_trans f h k)

  pub alike_refl : (t : Term) → All (λ x. R x x) (members t) → All (λ x. R x x) (arguments (kernel t)) → Alike R t t
  alike_refl t ms gs = record { kernels = kernels_refl t gs; there = All_self ms; back = All_self ms }

  pub alike_trans : {t u v : Term} → All (λ x. (y z : Term) → R x y → R y z → R x z) (members t) → All (λ x. (y z : Term) → R x y → R y z → R x z) (arguments (kernel t))
      → Alike R t u → Alike R u v → Alike R t v
  alike_trans ms gs a b =
      record {
        kernels = kernels_trans gs a.kernels b.kernels;
        there = All-map (λ x h. Any-out (λ y k. Any-map (λ z e. h.0 y z k.1 e) k.0) (Any_with b.there h.1)) (All-both ms a.there);
        back = All-map (λ z l. Any-out (λ y k. Any-map (λ x h. h.0 y z h.1 k.1) (Any_with ms k.0)) (Any_with a.back l)) b.back;
      }

-- from one equality of parts to another; the turned one for symmetry
module _ {R S : Term → Term → Type 0} where
  pairs_map : {xs ys : List Term} → All (λ x. (y : Term) → R x y → S x y) xs → Pairs R xs ys → Pairs S xs ys
  pairs_map All-none no_pair = no_pair
  pairs_map (both f fs) (pair {y = y} h k) = pair (f y h) (pairs_map fs k)

  kernels_map : {k l : Term} → All (λ x. (y : Term) → R x y → S x y) (arguments k) → Kernels R k l → Kernels S k l
  unfolding arguments
  kernels_map f same_unknown = same_unknown
  kernels_map f both_empty = both_empty
  kernels_map f (same_functor h) = same_functor (pairs_map f h)

  pub alike_map : {t u : Term} → All (λ x. (y : Term) → R x y → S x y) (members t) → All (λ x. (y : Term) → R x y → S x y) (arguments (kernel t)) → Alike R t u → Alike S t u
  alike_map ms gs a =
      record {
        kernels = kernels_map gs a.kernels;
        there = All-map (λ x h. Any-map (λ y e. h.0 y e) h.1) (All-both ms a.there);
        back = All-map (λ y l. Any-map (λ x h. h.0 y h.1) (Any_with ms l)) a.back;
      }

module _ {R : Term → Term → Type 0} where
  pairs_turn : {xs ys : List Term} → Pairs R xs ys → Pairs (λ y x. R x y) ys xs
  pairs_turn no_pair = no_pair
  pairs_turn (pair h k) = pair h (pairs_turn k)

  kernels_turn : {k l : Term} → Kernels R k l → Kernels (λ y x. R x y) l k
  kernels_turn same_unknown = same_unknown
  kernels_turn both_empty = both_empty
  kernels_turn (same_functor h) = same_functor (pairs_turn h)

  pub alike_turn : {t u : Term} → Alike R t u → Alike (λ y x. R x y) u t
  alike_turn a = record { kernels = kernels_turn a.kernels; there = a.back; back = a.there }
