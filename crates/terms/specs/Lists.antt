-- Each, and some, of a list: `All` and `Any` as data, the tests `all` and `any` that compute, and the way from one to the other.
-- Facts of a test are stated as `b ≡ true`. Then laws of `All` and `Any` under map, append and flat_map.
use mathlib.Core.List.{List, [], ◌∷◌, ◌++◌, map, flat_map}
use Rattle.std.specs.Prelude.{◌≡◌, Bool, false, ◌||◌, ◌&&◌, cond, ◌⊎◌}
use Rattle.std.proofs.Math.Path.{refl}
use Rattle.std.proofs.Math.Bool.{true}
use Rattle.std.proofs.lemmas.Bool.{false≢true}
use Rattle.std.proofs.Common.{inl, inr}
pub use Rattle.room.specs.Cases.{cases}

pub data All {A : Type 0} (P : A → Type 0) : List A → Type 0 where
  none : All P []
  both : {x : A} {xs : List A} → P x → All P xs → All P (x ∷ xs)

pub data Any {A : Type 0} (P : A → Type 0) : List A → Type 0 where
  here : {x : A} {xs : List A} → P x → Any P (x ∷ xs)
  there : {x : A} {xs : List A} → Any P xs → Any P (x ∷ xs)

pub and_left : (a b : Bool) → (a && b) ≡ true → a ≡ true
and_left true b t = refl
and_left false b t = t

pub and_right : (a b : Bool) → (a && b) ≡ true → b ≡ true
and_right true b t = t
and_right false b t = absurd (false≢true t)

pub and_both : {a b : Bool} → a ≡ true → b ≡ true → (a && b) ≡ true
and_both {a = true} s t = t
and_both {a = false} s t = s

pub or_cases : (a b : Bool) → (a || b) ≡ true → (a ≡ true) ⊎ (b ≡ true)
or_cases true b t = inl refl
or_cases false b t = inr t

pub or_else : {P : Type 0} (a b : Bool) → (a ≡ true → P) → (b ≡ true → P) → (a || b) ≡ true → P
or_else true b f g o = f refl
or_else false b f g o = g o

pub or_left : {a : Bool} (b : Bool) → a ≡ true → (a || b) ≡ true
or_left {a = true} b t = refl
or_left {a = false} b t = absurd (false≢true t)

pub or_right : (a : Bool) {b : Bool} → b ≡ true → (a || b) ≡ true
or_right true t = refl
or_right false t = t

pub or_neither : (a b : Bool) → (a || b) ≡ false → (a ≡ false) × (b ≡ false)
or_neither true b e = (e, cc)
or_neither false b e = (refl, e)

pub cond_or : {A : Type 0} (c d : Bool) (y z : A) → cond (c || d) y z ≡ cond c y (cond d y z)
cond_or true d y z = refl
cond_or false d y z = refl

pub false_unless : (b : Bool) → (b ≡ true → ⊥) → b ≡ false
false_unless true n = absurd (n refl)
false_unless false n = refl

module _ {A : Type 0} where
  unfoldable pub all : (A → Bool) → List A → Bool
  all p [] = true
  all p (x ∷ xs) = p x && all p xs

  unfoldable pub any : (A → Bool) → List A → Bool
  any p [] = false
  any p (x ∷ xs) = p x || any p xs

  pub all→ : (p : A → Bool) (xs : List A) → all p xs ≡ true → All (λ x. p x ≡ true) xs
  unfolding all
  all→ p [] t = none
  all→ p (x ∷ xs) t = both (and_left (p x) (all p xs) t) (all→ p xs (and_right (p x) (all p xs) t))

  pub →all : {p : A → Bool} {xs : List A} → All (λ x. p x ≡ true) xs → all p xs ≡ true
  unfolding all
  →all none = refl
  →all (both h k) = and_both h (→all k)

  pub any→ : (p : A → Bool) (xs : List A) → any p xs ≡ true → Any (λ x. p x ≡ true) xs
  unfolding any
  any→ p [] t = absurd (false≢true t)
  any→ p (x ∷ xs) t = go (or_cases (p x) (any p xs) t) (any→ p xs)
    where
      go : (p x ≡ true) ⊎ (any p xs ≡ true) → (any p xs ≡ true → Any (λ x. p x ≡ true) xs) → Any (λ x. p x ≡ true) (x ∷ xs)
      go (inl h) f = here h
      go (inr h) f = there (f h)

  pub →any : {p : A → Bool} {xs : List A} → Any (λ x. p x ≡ true) xs → any p xs ≡ true
  unfolding any
  →any {p} (here {xs = xs} h) = or_left (any p xs) h
  →any {p} (there {x = x} h) = or_right (p x) (→any h)

  -- each is there
  pub All_units : (xs : List A) → All (λ x. Unit {0}) xs
  All_units [] = none
  All_units (x ∷ xs) = both tt (All_units xs)

  pub All-map : {P Q : A → Type 0} {xs : List A} → ((x : A) → P x → Q x) → All P xs → All Q xs
  All-map f none = none
  All-map f (both {x = x} h k) = both (f x h) (All-map f k)

  pub All-both : {P Q : A → Type 0} {xs : List A} → All P xs → All Q xs → All (λ x. P x × Q x) xs
  All-both none h = none
  All-both (both g gs) (both h hs) = both (g, h) (All-both gs hs)

  pub All-append : {P : A → Type 0} {xs ys : List A} → All P xs → All P ys → All P (xs ++ ys)
  All-append none k = k
  All-append (both h hs) k = both h (All-append hs k)

  pub All-front : {P : A → Type 0} (xs ys : List A) → All P (xs ++ ys) → All P xs
  All-front [] ys h = none
  All-front (x ∷ xs) ys (both h hs) = both h (All-front xs ys hs)

  pub All-back : {P : A → Type 0} (xs ys : List A) → All P (xs ++ ys) → All P ys
  All-back [] ys h = h
  All-back (x ∷ xs) ys (both h hs) = All-back xs ys hs

  -- each element stands in the list
  pub All_self : {R : A → A → Type 0} {xs : List A} → All (λ x. R x x) xs → All (λ x. Any (λ y. R x y) xs) xs
  All_self none = none
  All_self (both h k) = both (here h) (All-map (λ y l. there l) (All_self k))

  pub Any-map : {P Q : A → Type 0} {xs : List A} → ((x : A) → P x → Q x) → Any P xs → Any Q xs
  Any-map f (here {x = x} h) = here (f x h)
  Any-map f (there h) = there (Any-map f h)

  pub Any-left : {P : A → Type 0} {xs : List A} (ys : List A) → Any P xs → Any P (xs ++ ys)
  Any-left ys (here h) = here h
  Any-left ys (there h) = there (Any-left ys h)

  pub Any-right : {P : A → Type 0} (xs : List A) {ys : List A} → Any P ys → Any P (xs ++ ys)
  Any-right [] h = h
  Any-right (x ∷ xs) h = there (Any-right xs h)

  pub Any_cases : {P : A → Type 0} (xs ys : List A) → Any P (xs ++ ys) → Any P xs ⊎ Any P ys
  Any_cases [] ys h = inr h
  Any_cases (x ∷ xs) ys (here h) = inl (here h)
  Any_cases {P} (x ∷ xs) ys (there h) = go (Any_cases xs ys h)
    where
      go : Any P xs ⊎ Any P ys → Any P (x ∷ xs) ⊎ Any P ys
      go (inl k) = inl (there k)
      go (inr k) = inr k

  -- what each has and what some has, one has together
  pub Any_with : {P Q : A → Type 0} {xs : List A} → All P xs → Any Q xs → Any (λ x. P x × Q x) xs
  Any_with {P = P} {Q = Q} none x3 = elim x3 [ ]
  Any_with (both g gs) (here h) = here (g, h)
  Any_with (both g gs) (there h) = there (Any_with gs h)

  pub Any-out : {P : A → Type 0} {C : Type 0} {xs : List A} → ((x : A) → P x → C) → Any P xs → C
  Any-out f (here {x = x} h) = f x h
  Any-out f (there h) = Any-out f h

module _ {A B : Type 0} where
  pub All_of_map : {P : A → Type 0} {Q : B → Type 0} (f : A → B) → ((x : A) → P x → Q (f x)) → {xs : List A} → All P xs → All Q (map f xs)
  All_of_map f g none = none
  All_of_map f g (both {x = x} h hs) = both (g x h) (All_of_map f g hs)

  pub All_of_flat_map : {P : A → Type 0} {Q : B → Type 0} (f : A → List B) → ((x : A) → P x → All Q (f x)) → {xs : List A} → All P xs → All Q (flat_map f xs)
  unfolding flat_map
  All_of_flat_map f g none = none
  All_of_flat_map f g (both {x = x} h hs) = All-append (g x h) (All_of_flat_map f g hs)

  pub Any_of_map : {P : A → Type 0} {Q : B → Type 0} (f : A → B) → ((x : A) → P x → Q (f x)) → {xs : List A} → Any P xs → Any Q (map f xs)
  Any_of_map f g (here {x = x} h) = here (g x h)
  Any_of_map f g (there h) = there (Any_of_map f g h)

  pub Any_of_flat_map : {P : A → Type 0} {Q : B → Type 0} (f : A → List B) → ((x : A) → P x → Any Q (f x)) → {xs : List A} → Any P xs → Any Q (flat_map f xs)
  unfolding flat_map
  Any_of_flat_map f g (here {x = x} {xs = xs} h) = Any-left (flat_map f xs) (g x h)
  Any_of_flat_map f g (there {x = x} h) = Any-right (f x) (Any_of_flat_map f g h)

-- ---- the first and the rest, under a map taken back, and for each of many predicates at once

pub All-first : {A : Type 0} {P : A → Type 0} {x : A} {xs : List A} → All P (x ∷ xs) → P x
All-first (both h hs) = h

pub All-rest : {A : Type 0} {P : A → Type 0} {x : A} {xs : List A} → All P (x ∷ xs) → All P xs
All-rest (both h hs) = hs

-- each has what all predicates ask of it
pub All_for_each : {A I : Type 0} {P : I → A → Type 0} (xs : List A) → ((i : I) → All (P i) xs) → All (λ x. (i : I) → P i x) xs
All_for_each [] h = none
All_for_each (x ∷ xs) h = both (λ i. All-first (h i)) (All_for_each xs (λ i. All-rest (h i)))

module _ {A B : Type 0} {P : B → Type 0} (f : A → B) where
  pub All_unmap : (xs : List A) → All P (map f xs) → All (λ x. P (f x)) xs
  All_unmap [] none = none
  All_unmap (x ∷ xs) (both h hs) = both h (All_unmap xs hs)

  pub Any_unmap : (xs : List A) → Any P (map f xs) → Any (λ x. P (f x)) xs
  Any_unmap [] x' = elim x' [ ]
  Any_unmap (x ∷ xs) (here h) = here h
  Any_unmap (x ∷ xs) (there h) = there (Any_unmap xs h)

-- one of each list, the first slowest
unfoldable pub product : {A : Type 0} → List (List A) → List (List A)
product [] = [] ∷ []
product (xs ∷ xss) = flat_map (λ x. map (λ l. x ∷ l) (product xss)) xs
