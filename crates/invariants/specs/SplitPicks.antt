-- The picks of a split: what each member has, the equations and the joining members of every choice have; and a choice gives no more new
-- equations than there are members.
use Rattle.std.specs.Prelude.{◌+◌, suc, ◌≤◌, ◌≡◌, refl, List, [], ◌∷◌, ◌++◌, Bool, length}
use Rattle.std.proofs.Common.{ap}
use Rattle.std.proofs.Math.Bool.{true, false}
use Rattle.std.proofs.Math.ListN.{length-append, length-map}
use native.Mathlib.Omega.{arith}
use Rattle.terms.specs.Lists.{All, none as All-none, both, All-append, All_of_map, All_of_flat_map, product}
use Rattle.terms.specs.Term.{Term, members, kernel}
use Rattle.terms.specs.Shape.{is_unknown}
use Rattle.terms.specs.Formed.{Equation}
use Rattle.search.specs.declared.steps.Tails.{Tails}
use Rattle.search.specs.State.{State, Node}
use Rattle.search.specs.Children.{Pick, meets, joins, tail_pick, picks_of_t, picks_of_u, new_equations, joining, settle, split}

-- an equation that has P, or a member that has Q
pub data Picked (P : Equation → Type 0) (Q : Term → Type 0) : Pick → Type 0 where
  met : {e : Equation} → P e → Picked P Q (meets e)
  joined : {t : Term} → Q t → Picked P Q (joins t)

-- a choice of picks for the members ts and us: T, U and the new equations
pub record Choice (R S : Term → Type 0) (P : Equation → Type 0) (ts us T U : List Term) (es : List Equation) : Type 0 where
  pub joining_r : All R T
  pub joining_s : All S U
  pub new : All P es
  pub few : length es ≤ length ts + length us

product_each : {A : Type 0} {P : A → Type 0} {xss : List (List A)} → All (All P) xss → All (λ l. All P l × (length l ≡ length xss)) (product xss)
unfolding product
product_each All-none = both (All-none, refl) All-none
product_each (both h hs) = All_of_flat_map _ (λ x p. All_of_map _ (λ l q. (both p q.0, ap suc q.1)) (product_each hs)) h

new_length : (ps : List Pick) → length (new_equations ps) ≤ length ps
unfolding new_equations
new_length [] = omega arith
new_length (meets e ∷ ps) = omega (arith, new_length ps)
new_length (joins t ∷ ps) = omega (arith, new_length ps)

module _ {P : Equation → Type 0} {Q : Term → Type 0} where
  new_each : {ps : List Pick} → All (Picked P Q) ps → All P (new_equations ps)
  unfolding new_equations
  new_each All-none = All-none
  new_each (both (met p) hs) = both p (new_each hs)
  new_each (both (joined q) hs) = new_each hs

  joining_each : {ps : List Pick} → All (Picked P Q) ps → All Q (joining ps)
  unfolding joining
  joining_each All-none = All-none
  joining_each (both (met p) hs) = joining_each hs
  joining_each (both (joined q) hs) = both q (joining_each hs)

  tail_each : (c : Bool) (t : Term) → Q t → All (Picked P Q) (tail_pick c t)
  unfolding tail_pick
  tail_each true t q = both (joined q) All-none
  tail_each false t q = All-none

module _ {R S : Term → Type 0} {P : Equation → Type 0} (pairs : (t u : Term) → R t → S u → P (record { left = t; right = u })) where
  t_each : (r : Term) {us : List Term} → All S us → (t : Term) → R t → All (Picked P R) (picks_of_t r us t)
  unfolding picks_of_t
  t_each r hs t h = All-append (All_of_map _ (λ u k. met (pairs t u h k)) hs) (tail_each (is_unknown r) t h)

  u_each : (s : Term) {ts : List Term} → All R ts → (u : Term) → S u → All (Picked P S) (picks_of_u s ts u)
  unfolding picks_of_u
  u_each s hs u h = All-append (All_of_map _ (λ t k. met (pairs t u k h)) hs) (tail_each (is_unknown s) u h)

  pub split_each : {X : Node → Type 0} (k : Tails) (t u : Term) (st : State) → All R (members t) → All S (members u)
      → ((T U : List Term) (es : List Equation) → Choice R S P (members t) (members u) T U es → X (settle k (kernel t) (kernel u) T U es st)) → All X (split k t u st)
  unfolding split
  split_each k t u st hs ks f =
      All_of_flat_map _
      (λ ps p. All_of_map _
      (λ qs q. f (joining ps) (joining qs) (new_equations ps ++ new_equations qs)
      (record {
        joining_r = joining_each p.0;
        joining_s = joining_each q.0;
        new = All-append (new_each p.0) (new_each q.0);
        few =
            omega (
              arith,
              length-append (new_equations ps) (new_equations qs),
              new_length ps,
              new_length qs,
              p.1,
              q.1,
              length-map (members t) (picks_of_t (kernel u) (members u)),
              length-map (members u) (picks_of_u (kernel t) (members t)),
            );
      }))
      (product_each (All_of_map _ (λ u h. u_each (kernel t) hs u h) ks)))
      (product_each (All_of_map _ (λ t h. t_each (kernel u) ks t h) hs))
