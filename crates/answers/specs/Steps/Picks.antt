-- The picks of a split. Each member of a side picks some member of the other, or the other's tail; a choice has one pick for each member. First
-- what every choice is (`split-all`), then the choice that loses nothing (`split-any`): a member whose value is in the other tail's value picks
-- the tail. The picks of the t's and of the u's differ only in which side of an equation the picking member stands on: `pair` says so.
use Rattle.std.specs.Prelude.{◌≡◌, refl, Bool, ◌⊎◌}
use Rattle.std.proofs.Common.{ap, sym, ◌∙◌}
use mathlib.Core.List.{List, [], ◌∷◌, ◌++◌, map}
use Rattle.std.proofs.Math.Bool.{true, false}
use Rattle.std.proofs.lemmas.Bool.{false≢true}
use Rattle.std.proofs.Math.Logic.{inl, inr}
use Rattle.terms.specs.Lists.{All, Any, none, both, here, there, any, cases, product, All-map, All_self, All-append, All_of_map, All_of_flat_map, Any-left, Any-right, Any_of_map, Any_of_flat_map}
use Rattle.terms.specs.Term.{Term, members, kernel}
use Rattle.terms.specs.Shape.{is_unknown}
use Rattle.terms.specs.Formed.{Equation}
use Rattle.laws.specs.Laws.{◌≈◌, ≈refl, In}
use Rattle.laws.specs.Equal.{is_in}
use Rattle.laws.proofs.Agree.{is_in_agree}
use Rattle.laws.specs.Values.{Values, value, Holds, Solves}
use Rattle.laws.proofs.Tails.{those_in}
use Rattle.search.specs.declared.steps.Tails.{Tails}
use Rattle.search.specs.State.{State, Node}
use Rattle.search.specs.Children.{Pick, meets, joins, tail_pick, picks_of_t, picks_of_u, new_equations, joining, settle, split}
use Rattle.terms.specs.Lists.{All_unmap, Any_unmap}

-- ---- one of each list

pub data Chosen {A B : Type 0} (P : A → B → Type 0) : List A → List B → Type 0 where
  no_choice : Chosen P [] []
  choice : {x : A} {y : B} {xs : List A} {ys : List B} → P x y → Chosen P xs ys → Chosen P (x ∷ xs) (y ∷ ys)

module _ {A B : Type 0} {P : A → B → Type 0} (f : A → List B) where
  product-all : ((x : A) → All (P x) (f x)) → (xs : List A) → All (Chosen P xs) (product (map f xs))
  unfolding product
  product-all h [] = both no_choice none
  product-all h (x ∷ xs) = All_of_flat_map _ (λ y p. All_of_map (λ l. y ∷ l) (λ l c. choice p c) (product-all h xs)) (h x)

  product_any : {xs : List A} → All (λ x. Any (P x) (f x)) xs → Any (Chosen P xs) (product (map f xs))
  unfolding product
  product_any none = here no_choice
  product_any (both h hs) = Any_of_flat_map _ (λ y p. Any_of_map (λ l. y ∷ l) (λ l c. choice p c) (product_any hs)) h

-- ---- which picks a member has

abbrev pub t_first : Term → Term → Equation
t_first t u = record { left = t; right = u }

abbrev pub t_second : Term → Term → Equation
t_second u t = record { left = t; right = u }

pub data Picks (pair : Term → Term → Equation) (tail : Bool) (others : List Term) (m : Term) : Pick → Type 0 where
  picks_one : {o : Term} → Any (λ z. o ≡ z) others → Picks pair tail others m (meets (pair m o))
  picks_tail : tail ≡ true → Picks pair tail others m (joins m)

all_same : (ms : List Term) → All (λ m. m ≡ m) ms
all_same [] = none
all_same (m ∷ ms) = both refl (all_same ms)

tail_picks : (pair : Term → Term → Equation) (tail : Bool) (others : List Term) (m : Term) → All (Picks pair tail others m) (tail_pick tail m)
unfolding tail_pick
tail_picks pair true others m = both (picks_tail refl) none
tail_picks pair false others m = none

all-picks : (pair : Term → Term → Equation) (tail : Bool) (others : List Term) (m : Term) → All (Picks pair tail others m) (map (λ o. meets (pair m o)) others ++ tail_pick tail m)
all-picks pair tail others m = All-append (All_of_map _ (λ o h. picks_one h) (All_self {R = ◌≡◌} (all_same others))) (tail_picks pair tail others m)

-- every child of a split
pub split-all : {Q : Node → Type 0} (k : Tails) (t u : Term) (st : State)
    → ((ps qs : List Pick) → Chosen (Picks t_first (is_unknown (kernel u)) (members u)) (members t) ps → Chosen (Picks t_second (is_unknown (kernel t)) (members t)) (members u) qs
    → Q (settle k (kernel t) (kernel u) (joining ps) (joining qs) (new_equations ps ++ new_equations qs) st))
    → All Q (split k t u st)
unfolding split picks_of_t picks_of_u
split-all k t u st h =
    All_of_flat_map _ (λ ps c. All_of_map _ (λ qs d. h ps qs c d) (product-all _ (all-picks t_second (is_unknown (kernel t)) (members t)) (members u)))
    (product-all _ (all-picks t_first (is_unknown (kernel u)) (members u)) (members t))

-- ---- what picks say, where their equations hold

module _ (σ : Values) (pair : Term → Term → Equation) where
  pub sound_each : {tail : Bool} {others ms : List Term} {ps : List Pick} → ((m o : Term) → Holds σ (pair m o) → value σ m ≈ value σ o) → Chosen (Picks pair tail others) ms ps
      → Solves σ (new_equations ps) → All (λ v. In v (map (value σ) others) ⊎ In v (map (value σ) (joining ps))) (map (value σ) ms)
  unfolding new_equations joining
  sound_each f no_choice h = none
  sound_each {others = os} f (choice {x = m} (picks_one {o = o} a) c) (both h hs) = both {x = value σ m} (inl (Any_of_map (value σ) (λ z e. rw (← e) (f m o h)) a)) (sound_each f c hs)
  sound_each {others = os} f (choice {x = m} {ys = ps} (picks_tail e) c) hs = both (inr (here ≈refl)) (All-map go (sound_each f c hs))
    where
      go : (v : Term) → In v (map (value σ) os) ⊎ In v (map (value σ) (joining ps)) → In v (map (value σ) os) ⊎ In v (value σ m ∷ map (value σ) (joining ps))
      go v (inl k) = inl k
      go v (inr k) = inr (there k)

-- those who pick the tail are members, and none where there is no tail to pick
pub joining-all : {P : Term → Type 0} {pair : Term → Term → Equation} {tail : Bool} {others ms : List Term} {ps : List Pick} → Chosen (Picks pair tail others) ms ps
    → All P ms → All P (joining ps)
unfolding joining
joining-all no_choice h = none
joining-all (choice (picks_one a) c) (both h hs) = joining-all c hs
joining-all (choice (picks_tail e) c) (both h hs) = both h (joining-all c hs)

pub no_tail : {pair : Term → Term → Equation} {tail : Bool} {others ms : List Term} {ps : List Pick} → tail ≡ false → Chosen (Picks pair tail others) ms ps → joining ps ≡ []
unfolding joining
no_tail f no_choice = refl
no_tail f (choice (picks_one a) c) = no_tail f c
no_tail f (choice (picks_tail e) c) = absurd (false≢true (sym f ∙ e))

-- ---- the choice that loses nothing

-- a member whose value is in r picks the tail, and only such a one
pub data Best (σ : Values) (pair : Term → Term → Equation) (r : Term) (m : Term) : Pick → Type 0 where
  best_one : {o : Term} → is_in (value σ m) (members r) ≡ false → value σ m ≈ value σ o → Best σ pair r m (meets (pair m o))
  best_tail : is_in (value σ m) (members r) ≡ true → Best σ pair r m (joins m)

not_in_nothing : (v : Term) {ms : List Term} → ms ≡ [] → is_in v ms ≡ false
unfolding is_in any
not_in_nothing v e = rw e

module _ (σ : Values) (pair : Term → Term → Equation) (r : Term) (tail : Bool) (bare : tail ≡ false → members r ≡ []) where
  best_joins : (m : Term) → is_in (value σ m) (members r) ≡ true → Any (Best σ pair r m) (tail_pick tail m)
  unfolding tail_pick
  best_joins m i = go tail bare
    where
      go : (c : Bool) → (c ≡ false → members r ≡ []) → Any (Best σ pair r m) (tail_pick c m)
      go true g = here (best_tail i)
      go false g = absurd (false≢true (sym (not_in_nothing (value σ m) (g refl)) ∙ i))

  best_pick : (others : List Term) (m : Term) → In (value σ m) (map (value σ) others) ⊎ In (value σ m) (members r)
      → Any (Best σ pair r m) (map (λ o. meets (pair m o)) others ++ tail_pick tail m)
  best_pick others m h =
      cases (is_in (value σ m) (members r)) (λ i. Any-right (map (λ o. meets (pair m o)) others) (best_joins m i))
      (λ i. Any-left (tail_pick tail m) (Any_of_map _ (λ o k. best_one i k) (Any_unmap (value σ) others (go i h))))
    where
      go : is_in (value σ m) (members r) ≡ false → In (value σ m) (map (value σ) others) ⊎ In (value σ m) (members r) → In (value σ m) (map (value σ) others)
      go i (inl k) = k
      go i (inr k) = absurd (false≢true (sym i ∙ (is_in_agree _ _).0 k))

  best_picks : (others ms : List Term) → All (λ v. In v (map (value σ) others) ⊎ In v (members r)) (map (value σ) ms)
      → Any (Chosen (Best σ pair r) ms) (product (map (λ m. map (λ o. meets (pair m o)) others ++ tail_pick tail m) ms))
  best_picks others ms h = product_any _ (All-map (best_pick others) (All_unmap (value σ) ms h))

-- what the best choice joins and says
pub best_joining : {σ : Values} {pair : Term → Term → Equation} {r : Term} {ms : List Term} {ps : List Pick} → Chosen (Best σ pair r) ms ps
    → map (value σ) (joining ps) ≡ those_in r (map (value σ) ms)
unfolding joining those_in
best_joining no_choice = refl
best_joining (choice (best_one i h) c) = rw i (best_joining c)
best_joining {σ} (choice {x = m} (best_tail i) c) = rw i (ap (λ l. value σ m ∷ l) (best_joining c))

pub best_equations : {σ : Values} {pair : Term → Term → Equation} {r : Term} {ms : List Term} {ps : List Pick} → ((m o : Term) → value σ m ≈ value σ o → Holds σ (pair m o))
    → Chosen (Best σ pair r) ms ps → Solves σ (new_equations ps)
unfolding new_equations
best_equations f no_choice = none
best_equations f (choice {x = m} (best_one {o = o} i h) c) = both (f m o h) (best_equations f c)
best_equations f (choice (best_tail i) c) = best_equations f c

-- the child of that choice
pub split-any : {Q : Node → Type 0} (σ : Values) (k : Tails) (t u : Term) (s r : Term) (st : State)
    → (is_unknown (kernel t) ≡ false → members s ≡ []) → (is_unknown (kernel u) ≡ false → members r ≡ [])
    → All (λ v. In v (map (value σ) (members u)) ⊎ In v (members r)) (map (value σ) (members t)) → All (λ v. In v (map (value σ) (members t)) ⊎ In v (members s)) (map (value σ) (members u))
    → ((ps qs : List Pick) → Chosen (Best σ t_first r) (members t) ps → Chosen (Best σ t_second s) (members u) qs
    → Q (settle k (kernel t) (kernel u) (joining ps) (joining qs) (new_equations ps ++ new_equations qs) st))
    → Any Q (split k t u st)
unfolding split picks_of_t picks_of_u
split-any σ k t u s r st f g ht hu h =
    Any_of_flat_map _ (λ ps c. Any_of_map _ (λ qs d. h ps qs c d) (best_picks σ t_second s (is_unknown (kernel t)) f (members t) (members u) hu))
    (best_picks σ t_first r (is_unknown (kernel u)) g (members u) (members t) ht)
