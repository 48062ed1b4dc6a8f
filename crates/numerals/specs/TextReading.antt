-- Reading a text from the left, the first fault told: what was read and where reading goes on, or a refusal.
use Rattle.std.specs.Prelude.{ℕ, ◌≡◌}
use Rattle.terms.specs.declared.refusal.Cause.{Cause}
use Rattle.terms.specs.declared.refusal.Refusal.{Refusal}

pub data Reading (A : Type 0) : Type 0 where
  read : ℕ → A → Reading A
  refused : Refusal → Reading A

abbrev pub fault : {A : Type 0} → Cause → ℕ → Reading A
fault cause p = refused (record { cause = cause; place = p })

-- what was read, and what is read from there on; nothing is read after a fault
unfoldable pub and_then : {A B : Type 0} → Reading A → (ℕ → A → Reading B) → Reading B
and_then (read p a) k = k p a
and_then (refused r) k = refused r

module _ {A B : Type 0} {X : Reading A} (k : ℕ → A → Reading B) where
  pub then-read : {p : ℕ} {a : A} → X ≡ read p a → and_then X k ≡ k p a
  unfolding and_then
  then-read e = rw e

  pub then-refused : {r : Refusal} → X ≡ refused r → and_then X k ≡ refused r
  unfolding and_then
  then-refused e = rw e
