-- Words so far: one is added at the end, or there are as many as a question may have.
use Prim.Native.Nat.{ℕ, ◌+◌, ◌≤◌, ◌<◌}
use mathlib.Core.Path.{◌≡◌, sym}
use mathlib.Core.List.{List, [], ◌∷◌, ◌++◌}
use mathlib.Core.Bool.{true, false}
use borrow.Author.Tests.{lt-ltb, le-ltb}
use lib.ListN.{length}
use Rattle.terms.specs.Bounds.{edition_one, SYMBOLS, EMPTY, MEMBER}
use Rattle.terms.specs.declared.refusal.Cause.TheVariants.{Byte, Limit}
use Rattle.numerals.specs.TextReading.{Reading, read, fault}
use Rattle.numerals.specs.Bytes.{byte}
use Rattle.items.specs.Items.{due, done, begins, symbol, due_member, close_empty}
use Rattle.items.specs.declared.item.Item.TheVariants.{Member}

module _ (ws : List ℕ) where
  pub symbol_free : {A : Type 0} (p : ℕ) (k : Unit {0} → Reading A) → length ws < SYMBOLS → symbol edition_one p (length ws) k ≡ k tt
  unfolding symbol edition_one
  symbol_free p k h = rw (lt-ltb (length ws) SYMBOLS h)

  pub symbol_full : {A : Type 0} (p : ℕ) (k : Unit {0} → Reading A) → SYMBOLS ≤ length ws → symbol edition_one p (length ws) k ≡ fault Limit p
  unfolding symbol edition_one
  symbol_full p k h = rw (le-ltb (length ws) SYMBOLS h)

  -- the empty set's word
  pub empty_closed : (p : ℕ) → length ws < SYMBOLS → read (p + 1) (done (ws ++ (EMPTY ∷ []))) ≡ close_empty edition_one p ws
  unfolding close_empty
  empty_closed p h = sym (symbol_free p _ h)

  pub empty_full : (p : ℕ) → SYMBOLS ≤ length ws → fault Limit p ≡ close_empty edition_one p ws
  unfolding close_empty
  empty_full p h = sym (symbol_full p _ h)

  -- the word of a member adding
  module _ (s : List ℕ) (p : ℕ) {b : ℕ} (e : b ≡ byte s p) where
    pub member_due : begins b ≡ true → length ws < SYMBOLS → read p (due Member (ws ++ (MEMBER ∷ []))) ≡ due_member edition_one s p ws
    unfolding due_member
    member_due t h = rw (← e, t) (sym (symbol_free p _ h))

    pub member_full : begins b ≡ true → SYMBOLS ≤ length ws → fault Limit p ≡ due_member edition_one s p ws
    unfolding due_member
    member_full t h = rw (← e, t) (sym (symbol_full p _ h))

    pub member_none : begins b ≡ false → fault Byte p ≡ due_member edition_one s p ws
    unfolding due_member
    member_none t = rw (← e, t)
