-- What follows an item, by the byte b that stands at p after it.
use Prim.Native.Nat.{ℕ, ◌+◌, ◌-◌}
use mathlib.Core.Path.{◌≡◌}
use mathlib.Core.List.{List}
use borrow.Author.Tests.{ne_eqb}
use Rattle.terms.specs.Bounds.{edition_one}
use Rattle.terms.specs.declared.refusal.Cause.TheVariants.{Byte, Arguments}
use Rattle.numerals.specs.TextReading.{read, fault}
use Rattle.numerals.specs.Bytes.{byte}
use Rattle.items.specs.Items.{due, done, due_member, due_tail, close_empty, after_member, after_tail, after_argument, after}
use Rattle.items.specs.declared.item.Item.{Item}
use Rattle.items.specs.declared.item.Item.TheVariants.{Member, Tail, Argument}

module _ (s : List ℕ) (p : ℕ) {b : ℕ} (e : b ≡ byte s p) (ws : List ℕ) where
  pub tail_refused : b ≡ 123 → fault Byte p ≡ due_tail s p ws
  unfolding due_tail
  tail_refused h = rw (← e, h)

  pub tail_due : (b ≡ 123 → ⊥) → read p (due Tail ws) ≡ due_tail s p ws
  unfolding due_tail
  tail_due h = rw (← e, ne_eqb b 123 h)

  pub after_member-more : b ≡ 44 → due_member edition_one s (p + 1) ws ≡ after_member edition_one s p ws
  unfolding after_member
  after_member-more h = rw (← e, h)

  pub after_member_tail : (b ≡ 44 → ⊥) → b ≡ 124 → due_tail s (p + 1) ws ≡ after_member edition_one s p ws
  unfolding after_member
  after_member_tail m h = rw (← e, h)

  pub after_member_close : (b ≡ 44 → ⊥) → (b ≡ 124 → ⊥) → b ≡ 125 → close_empty edition_one p ws ≡ after_member edition_one s p ws
  unfolding after_member
  after_member_close m t h = rw (← e, h)

  pub after_member_none : (b ≡ 44 → ⊥) → (b ≡ 124 → ⊥) → (b ≡ 125 → ⊥) → fault Byte p ≡ after_member edition_one s p ws
  unfolding after_member
  after_member_none m t h = rw (← e, ne_eqb b 44 m, ne_eqb b 124 t, ne_eqb b 125 h)

  pub after_tail_close : b ≡ 125 → read (p + 1) (done ws) ≡ after_tail s p ws
  unfolding after_tail
  after_tail_close h = rw (← e, h)

  pub after_tail_none : (b ≡ 125 → ⊥) → fault Byte p ≡ after_tail s p ws
  unfolding after_tail
  after_tail_none h = rw (← e, ne_eqb b 125 h)

  module _ (left : ℕ) where
    pub after_argument_many : b ≡ 44 → left ≡ 0 → fault Arguments p ≡ after_argument s left p ws
    unfolding after_argument
    after_argument_many h z = rw (← e, h, z)

    pub after_argument-more : b ≡ 44 → (left ≡ 0 → ⊥) → read (p + 1) (due (Argument (left - 1)) ws) ≡ after_argument s left p ws
    unfolding after_argument
    after_argument-more h z = rw (← e, h, ne_eqb left 0 z)

    pub after_argument_close : (b ≡ 44 → ⊥) → b ≡ 41 → left ≡ 0 → read (p + 1) (done ws) ≡ after_argument s left p ws
    unfolding after_argument
    after_argument_close m h z = rw (← e, h, z)

    pub after_argument_few : (b ≡ 44 → ⊥) → b ≡ 41 → (left ≡ 0 → ⊥) → fault Arguments p ≡ after_argument s left p ws
    unfolding after_argument
    after_argument_few m h z = rw (← e, h, ne_eqb left 0 z)

    pub after_argument_none : (b ≡ 44 → ⊥) → (b ≡ 41 → ⊥) → fault Byte p ≡ after_argument s left p ws
    unfolding after_argument
    after_argument_none m h = rw (← e, ne_eqb b 44 m, ne_eqb b 41 h)

-- the item's kind
module _ (s : List ℕ) (p : ℕ) (ws : List ℕ) {i : Item} where
  pub after-a_member : i ≡ Member → after_member edition_one s p ws ≡ after edition_one s i p ws
  unfolding after
  after-a_member k = rw k

  pub after-a_tail : i ≡ Tail → after_tail s p ws ≡ after edition_one s i p ws
  unfolding after
  after-a_tail k = rw k

  pub after_an_argument : (left : ℕ) → i ≡ Argument left → after_argument s left p ws ≡ after edition_one s i p ws
  unfolding after
  after_an_argument left k = rw k
