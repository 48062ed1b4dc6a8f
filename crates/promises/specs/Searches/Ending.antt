-- Every search ends: below some depth lies no node, so from there on the list of visits no longer changes. Three numbers fall from a state to its
-- children: the unbound unknowns, the weight of the pending equations, the length of the pile.
use Rattle.std.specs.Prelude.{ℕ, ◌+◌, suc, zero, ◌≤◌, ◌≡◌, refl, length}
use Rattle.std.proofs.Common.{ap, arith}
use mathlib.Core.List.{List, ◌∷◌, flat_map}
use Rattle.terms.specs.Lists.{All, none as All-none, both, All-map}
use Rattle.terms.specs.Formed.{Question}
use Rattle.search.specs.State.{State, Node, dead, live, start}
use Rattle.search.specs.Children.{children}
use Rattle.search.specs.Run.{visit, visits, root}
use Rattle.promises.specs.Searches.Measures.{Below, by_first, by_second, by_third, by_measures}
use Rattle.invariants.proofs.Orderly.{Orderly}
use Rattle.invariants.specs.Weight.{weights}
use Rattle.invariants.proofs.Falling.{unbound, Falls, ends_dead, fewer_unbound, lighter, shorter}
use Rattle.invariants.proofs.JoinFalls.{children_fall}
use Rattle.invariants.proofs.Tree.{FormedQuestion, start_orderly}

-- the tree from a node on has at most n levels
abbrev pub Levels : ℕ → Node → Type 0
Levels zero node = ⊥
Levels (suc n) dead = Unit {0}
Levels (suc n) (live st) = All (Levels n) (children st)

levels_up : (n m : ℕ) (node : Node) → n ≤ m → Levels n node → Levels m node
levels_up zero m node h x = absurd x
levels_up (suc n) zero node h x = absurd (omega arith)
levels_up (suc n) (suc m) dead h x = tt
levels_up (suc n) (suc m) (live st) h x = All-map (λ c y. levels_up n m c (omega arith) y) x

-- one number for all of a list
levels_common : {ns : List Node} → All (λ k. (n : ℕ) × Levels n k) ns → (n : ℕ) × All (Levels n) ns
levels_common All-none = (0, All-none)
levels_common (both {x = k} h hs) =
    let r = levels_common hs in
    (h.0 + r.0, both {x = k} (levels_up h.0 (h.0 + r.0) k (omega arith) h.1) (All-map (λ c y. levels_up r.0 (h.0 + r.0) c (omega arith) y) r.1))

-- ---- the three numbers

module _ (arities : List ℕ) where
  abbrev InOrder : Type 0
  InOrder = (st : State) × Orderly arities st

  unfoldable unbound_in : InOrder → ℕ
  unbound_in x = unbound x.0

  unfoldable weight_in : InOrder → ℕ
  weight_in x = weights x.0.pending

  unfoldable pile_in : InOrder → ℕ
  pile_in x = length x.0.pile

  pub levels : (st : State) → Orderly arities st → (n : ℕ) × Levels n (live st)
  unfolding unbound_in weight_in pile_in weights
  levels st o = by_measures unbound_in weight_in pile_in (λ x. (n : ℕ) × Levels n (live x.0)) step (st, o)
    where
      step : (x : InOrder) → ((y : InOrder) → Below unbound_in weight_in pile_in y x → (n : ℕ) × Levels n (live y.0)) → (n : ℕ) × Levels n (live x.0)
      step x below = let r = levels_common (All-map each (children_fall x.0 x.1)) in (suc r.0, r.1)
        where
          each : (k : Node) → Falls arities x.0 k → (n : ℕ) × Levels n k
          each k ends_dead = (1, tt)
          each k (fewer_unbound {st = st} o w l m) = below (st, o) (by_first l)
          each k (lighter {st = st} o m l w) = below (st, o) (by_second (omega arith) w)
          each k (shorter {st = st} o e e' l m p) = below (st, o) (by_third l (rw e' (omega arith)) p)

-- ---- the list of visits

flat_map_same : {A B : Type 0} (f g : A → List B) {xs : List A} → All (λ x. f x ≡ g x) xs → flat_map f xs ≡ flat_map g xs
unfolding flat_map
flat_map_same f g All-none = refl
flat_map_same f g (both h hs) = rw (h, flat_map_same f g hs)

-- more levels than there are show nothing more
pub levels_seen : (n m d : ℕ) (node : Node) → Levels n node → n ≤ m → visits m d node ≡ visits n d node
unfolding visits
levels_seen zero m d node x h = absurd x
levels_seen (suc n) zero d node x h = absurd (omega arith)
levels_seen (suc n) (suc m) d dead x h = refl
levels_seen (suc n) (suc m) d (live st) x h = ap (λ l. visit d st ∷ l) (flat_map_same _ _ (All-map (λ c y. levels_seen n m (suc d) c y (omega arith)) x))

pub visits-settle : (q : Question) → FormedQuestion q → (n : ℕ) × ((m : ℕ) → n ≤ m → visits m 0 (root q) ≡ visits n 0 (root q))
unfolding root
visits-settle q h = let r = levels q.arities (start q) (start_orderly q h) in (r.0, λ m l. levels_seen r.0 m 0 (live (start q)) r.1 l)
