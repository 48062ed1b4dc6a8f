-- Names: the number of an unknown or a functor after its letter, and the word that is stored for it.
use Prim.Native.Nat.{ℕ, ◌+◌, ◌≤◌, ◌<◌}
use native.Mathlib.Omega.{arith}
use mathlib.Core.Path.{◌≡◌, sym, ◌∙◌}
use mathlib.Core.List.{List, [], ◌∷◌, ◌++◌}
use borrow.Author.Tests.{lt-ltb, le-ltb, ltb-true}
use lib.Dec.{ltb}
use lib.ListN.{length, get_or}
use Rattle.terms.specs.Bounds.{edition_one, SYMBOLS, FIRST_UNKNOWN, FIRST_FUNCTOR}
use Rattle.terms.specs.Lists.{cases}
use Rattle.terms.specs.declared.refusal.Cause.TheVariants.{Limit, Undeclared}
use Rattle.terms.specs.declared.refusal.Refusal.{Refusal}
use Rattle.text.specs.Text.{choose}
use Rattle.numerals.specs.TextReading.{Reading, read, refused, fault, and_then, then-read, then-refused}
use Rattle.numerals.specs.Numbers.{number}
use Rattle.items.specs.Items.{done, symbol, name, an_unknown, a_functor, arguments}

module _ (s : List ℕ) (declared p n : ℕ) where
  pub name_full : SYMBOLS ≤ n → fault Limit p ≡ name edition_one s declared p n
  unfolding name symbol edition_one
  name_full h = rw (le-ltb n SYMBOLS h)

  -- the number after the letter was read, or refused
  module _ (h : n < SYMBOLS) where
    pub name_unfit : (f : Refusal) → refused f ≡ number s (p + 1) → refused f ≡ name edition_one s declared p n
    unfolding name symbol edition_one
    name_unfit f e = rw (lt-ltb n SYMBOLS h) (sym (then-refused _ (sym e)))

    module _ {i q : ℕ} (e : read q i ≡ number s (p + 1)) where
      pub name_declared : i < declared → read q i ≡ name edition_one s declared p n
      unfolding name symbol edition_one
      name_declared d = rw (lt-ltb n SYMBOLS h) (sym (then-read _ (sym e) ∙ rw (lt-ltb i declared d)))

      pub name_undeclared : declared ≤ i → fault Undeclared p ≡ name edition_one s declared p n
      unfolding name symbol edition_one
      name_undeclared d = rw (lt-ltb n SYMBOLS h) (sym (then-read _ (sym e) ∙ rw (le-ltb i declared d)))

  -- a name that was read has a symbol's room, and is declared
  pub name-told : (q i : ℕ) → name edition_one s declared p n ≡ read q i → (n < SYMBOLS) × (i < declared)
  unfolding name symbol edition_one and_then
  name-told q i e =
      cases (ltb n SYMBOLS)
      (λ t. (ltb-true n SYMBOLS t, go (number s (p + 1)) (rw t at e)))
      (λ t. let z : ◌≡◌ {A = Reading ℕ} (fault Limit p) (read q i) = rw t at e in let y : ◌≡◌ {A = ℕ} 0 1 = cc in absurd (omega arith))
    where
      go : (X : Reading ℕ) → and_then X (λ q i. choose (ltb i declared) (λ _. read q i) (λ _. fault Undeclared p)) ≡ read q i → i < declared
      go (refused r) z = let y : ◌≡◌ {A = ℕ} 0 1 = cc in absurd (omega arith)
      go (read q' i') z =
          cases (ltb i' declared)
          (λ t. let y : ◌≡◌ {A = Reading ℕ} (read q' i') (read q i) = rw t at z in let x : i' ≡ i = cc in omega (arith, ltb-true i' declared t))
          (λ t. let x : ◌≡◌ {A = Reading ℕ} (fault Undeclared p) (read q i) = rw t at z in let y : ◌≡◌ {A = ℕ} 0 1 = cc in absurd (omega arith))

module _ (s : List ℕ) (declared p : ℕ) (ws : List ℕ) where
  module _ {i q : ℕ} (e : read q i ≡ name edition_one s declared p (length ws)) where
    pub named-told : (length ws < SYMBOLS) × (i < declared)
    named-told = name-told s declared p (length ws) q i (sym e)

    pub unknown_read : read q (done (ws ++ ((FIRST_UNKNOWN + i) ∷ []))) ≡ an_unknown edition_one s declared p ws
    unfolding an_unknown edition_one
    unknown_read = sym (then-read _ (sym e))

  pub unknown_unfit : (f : Refusal) → refused f ≡ name edition_one s declared p (length ws) → refused f ≡ an_unknown edition_one s declared p ws
  unfolding an_unknown
  unknown_unfit f e = sym (then-refused _ (sym e))

-- m functors are declared
module _ (s arities : List ℕ) (depth p : ℕ) (ws : List ℕ) {m : ℕ} (h : m ≡ length arities) where
  pub functor_read : {k q : ℕ} → read q k ≡ name edition_one s m p (length ws)
      → arguments edition_one s depth (get_or arities k 0) q (ws ++ ((FIRST_FUNCTOR + k) ∷ [])) ≡ a_functor edition_one s arities depth p ws
  unfolding a_functor edition_one
  functor_read e = sym (then-read _ (sym (rw h at e)))

  pub functor_unfit : (f : Refusal) → refused f ≡ name edition_one s m p (length ws) → refused f ≡ a_functor edition_one s arities depth p ws
  unfolding a_functor
  functor_unfit f e = sym (then-refused _ (sym (rw h at e)))
