-- Which unknowns occur in a term after a step has taken it apart, put it together or put a term into it; and that it stays formed.
use Rattle.std.specs.Prelude.{ℕ, ◌≡◌, refl, List, Bool, true, false, ◌||◌, cond, eqb}
use Rattle.std.proofs.Common.{◌∙◌, eqb-true}
use Rattle.std.proofs.lemmas.Bool.{false≢true, eqb-false}
use Rattle.terms.specs.Lists.{All, none as All-none, both, All-map, or_left, or_right, or_else}
use Rattle.terms.specs.Term.{Term, Terms, unknown, empty, with, functor, none, more, members, kernel, over, list, occurs, occurs*, subst, subst*}

-- each unknown of the one occurs in the other
abbrev pub Within : Term → Term → Type 0
Within s t = (y : ℕ) → occurs y s ≡ true → occurs y t ≡ true

pub members-within : (t : Term) → All (λ m. Within m t) (members t)
unfolding members occurs
members-within (unknown i) = All-none
members-within empty = All-none
members-within (with m r) = both (λ y o. or_left (occurs y r) o) (All-map (λ n h y o. or_right (occurs y m) (h y o)) (members-within r))
members-within (functor k ts) = All-none

pub kernel-within : (t : Term) → Within (kernel t) t
unfolding kernel occurs
kernel-within (unknown i) y o = o
kernel-within empty y o = o
kernel-within (with m r) y o = or_right (occurs y m) (kernel-within r y o)
kernel-within (functor k ts) y o = o

pub list-within : (ts : Terms) → All (λ t. (y : ℕ) → occurs y t ≡ true → occurs* y ts ≡ true) (list ts)
unfolding list occurs
list-within none = All-none
list-within (more t ts) = both (λ y o. or_left (occurs* y ts) o) (All-map (λ n h y o. or_right (occurs y t) (h y o)) (list-within ts))

-- what each member and the kernel have, their set has
pub over_each : {Q : ℕ → Type 0} {ms : List Term} (k : Term) → All (λ m. (y : ℕ) → occurs y m ≡ true → Q y) ms → ((y : ℕ) → occurs y k ≡ true → Q y) → (y : ℕ)
    → occurs y (over ms k) ≡ true → Q y
unfolding over occurs
over_each k All-none g y o = g y o
over_each k (both {x = m} {xs = ms} h hs) g y o = or_else (occurs y m) (occurs y (over ms k)) (h y) (λ p. over_each k hs g y p) o

-- an unknown that occurs after s is put for x
pub data Put (x : ℕ) (s : Term) (y : ℕ) (was : Bool) : Type 0 where
  from_put : occurs y s ≡ true → Put x s y was
  from_other : (y ≡ x → ⊥) → was ≡ true → Put x s y was

put_map : {x y : ℕ} {s : Term} {a b : Bool} → (a ≡ true → b ≡ true) → Put x s y a → Put x s y b
put_map f (from_put o) = from_put o
put_map f (from_other d o) = from_other d (f o)

put_unknown : (x : ℕ) (s : Term) (i y : ℕ) → occurs y (cond (eqb i x) s (unknown i)) ≡ true → Put x s y (eqb i y)
unfolding occurs
put_unknown x s i y = go (eqb i x) refl
  where
    go : (c : Bool) → eqb i x ≡ c → occurs y (cond c s (unknown i)) ≡ true → Put x s y (eqb i y)
    go true e o = from_put o
    go false e o = from_other (λ d. eqb-false i x e (eqb-true i y o ∙ d)) o

put_or : {x y : ℕ} {s : Term} (a b : Bool) {c d : Bool} → (a ≡ true → Put x s y c) → (b ≡ true → Put x s y d) → (a || b) ≡ true → Put x s y (c || d)
put_or a b {c} {d} f g o = or_else a b (λ p. put_map (λ h. or_left d h) (f p)) (λ p. put_map (λ h. or_right c h) (g p)) o

mutual
  unfolding subst occurs

  pub occurs_subst : (x : ℕ) (s t : Term) (y : ℕ) → occurs y (subst x s t) ≡ true → Put x s y (occurs y t)
  occurs_subst x s (unknown i) y o = put_unknown x s i y o
  occurs_subst x s empty y o = absurd (false≢true o)
  occurs_subst x s (with m r) y o = put_or (occurs y (subst x s m)) (occurs y (subst x s r)) (λ p. occurs_subst x s m y p) (λ p. occurs_subst x s r y p) o
  occurs_subst x s (functor k ts) y o = occurs*-subst x s ts y o

  occurs*-subst : (x : ℕ) (s : Term) (ts : Terms) (y : ℕ) → occurs* y (subst* x s ts) ≡ true → Put x s y (occurs* y ts)
  occurs*-subst x s none y o = absurd (false≢true o)
  occurs*-subst x s (more t ts) y o = put_or (occurs y (subst x s t)) (occurs* y (subst* x s ts)) (λ p. occurs_subst x s t y p) (λ p. occurs*-subst x s ts y p) o
