-- The members of the set at a place, one step at a time: what each test of them comes to where a member adding stands, and where none does.
use Rattle.std.specs.Prelude.{ℕ, suc, ◌+◌, ◌<◌, ◌≡◌, refl, List, ◌∷◌, true, false, ◌||◌, ◌&&◌, ◌⊎◌, get_or}
use Rattle.std.proofs.Math.Path.{ap}
use Rattle.std.proofs.Common.{inl, inr, arith}
use Rattle.terms.specs.Lists.{all, any}
use Rattle.terms.specs.Term.{Term, members, kernel, size}
use Rattle.terms.specs.Bounds.{MEMBER}
use Rattle.laws.specs.Equal.{equal, is_in, each_in}
use Rattle.term_places.specs.Places.{Held, valued, Has, first, later, member_of, rest_of}
use Rattle.term_places.specs.Classes.{some_equals, each_equalled}
use Rattle.term_places.specs.Opened.{Opened, Closed}

module _ {h : Held} {p : ℕ} (o : Opened h p) where
  unfolded_members : {R : Type 0} (f : List Term → R) → f (members (valued h p)) ≡ f (valued h (member_of h p) ∷ members (valued h (rest_of h p)))
  unfolding members
  unfolded_members f = ap (λ t. f (members t)) o.whole

  pub kernel_open : kernel (valued h p) ≡ kernel (valued h (rest_of h p))
  unfolding kernel
  kernel_open = ap kernel o.whole

  pub is_in_open : (t : Term) → is_in t (members (valued h p)) ≡ (equal t (valued h (member_of h p)) || is_in t (members (valued h (rest_of h p))))
  unfolding is_in any
  is_in_open t = unfolded_members (is_in t)

  pub each_in_open : (ys : List Term) → each_in (members (valued h p)) ys ≡ (is_in (valued h (member_of h p)) ys && each_in (members (valued h (rest_of h p))) ys)
  unfolding each_in all
  each_in_open ys = unfolded_members (λ xs. each_in xs ys)

  pub some_open : (y : Term) → some_equals (members (valued h p)) y ≡ (equal (valued h (member_of h p)) y || some_equals (members (valued h (rest_of h p))) y)
  unfolding some_equals any
  some_open y = unfolded_members (λ xs. some_equals xs y)

  pub each_open : (xs : List Term) → each_equalled xs (members (valued h p)) ≡ (some_equals xs (valued h (member_of h p)) && each_equalled xs (members (valued h (rest_of h p))))
  unfolding each_equalled all
  each_open xs = unfolded_members (each_equalled xs)

  whole-size : size (valued h p) ≡ suc (size (valued h (member_of h p)) + size (valued h (rest_of h p)))
  unfolding size
  whole-size = ap size o.whole

  pub member_smaller : size (valued h (member_of h p)) < size (valued h p)
  member_smaller = omega (arith, whole-size)

  pub rest_smaller : size (valued h (rest_of h p)) < size (valued h p)
  rest_smaller = omega (arith, whole-size)

module _ {h : Held} {p : ℕ} (c : Closed h p) where
  pub is_in-closed : (t : Term) → is_in t (members (valued h p)) ≡ false
  unfolding is_in any
  is_in-closed t = rw c.members

  pub each_in-closed : (ys : List Term) → each_in (members (valued h p)) ys ≡ true
  unfolding each_in all
  each_in-closed ys = rw c.members

  pub some-closed : (y : Term) → some_equals (members (valued h p)) y ≡ false
  unfolding some_equals any
  some-closed y = rw c.members

  pub each_closed : (xs : List Term) → each_equalled xs (members (valued h p)) ≡ true
  unfolding each_equalled all
  each_closed xs = rw c.members

-- the place of a member: of the first, or of one in the rest
pub has_open : {h : Held} {p x : ℕ} → Has h p x → (member_of h p ≡ x) ⊎ Has h (rest_of h p) x
has_open (first e) = inl refl
has_open (later e l) = inr l

pub has_closed : {P : Type 0} {h : Held} {p x : ℕ} → (get_or h.words p 0 ≡ MEMBER → ⊥) → Has h p x → P
has_closed c (first e) = absurd (c e)
has_closed c (later e l) = absurd (c e)
