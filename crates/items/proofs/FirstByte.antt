-- How a term begins, by the byte b that stands at p.
use Prim.Native.Nat.{ℕ, ◌+◌, ◌-◌, ◌≤◌, ◌<◌}
use mathlib.Core.Path.{◌≡◌}
use mathlib.Core.Logic.{inl, inr, ◌⊎◌}
use mathlib.Core.List.{List}
use borrow.Author.Tests.{lt-ltb, le-ltb, ne_eqb}
use mathlib.Core.Bool.{true, false}
use Rattle.terms.specs.Bounds.{edition_one, NESTING}
use Rattle.terms.specs.declared.refusal.Cause.TheVariants.{Byte, Arguments, Nesting}
use Rattle.numerals.specs.TextReading.{read, fault}
use Rattle.numerals.specs.Bytes.{byte}
use Rattle.items.specs.Items.{due, done, begins, due_member, close_empty, an_unknown, a_functor, arguments, a_set, beginning}
use Rattle.items.specs.declared.item.Item.TheVariants.{Argument}

pub begins-one : (b : ℕ) → (b ≡ 102) ⊎ ((b ≡ 120) ⊎ (b ≡ 123)) → true ≡ begins b
unfolding begins
begins-one b (inl e) = rw e
begins-one b (inr (inl e)) = rw e
begins-one b (inr (inr e)) = rw e

pub begins-none : (b : ℕ) → ((b ≡ 102) ⊎ ((b ≡ 120) ⊎ (b ≡ 123)) → ⊥) → false ≡ begins b
unfolding begins
begins-none b h = rw (ne_eqb b 120 (λ e. h (inr (inl e))), ne_eqb b 102 (λ e. h (inl e)), ne_eqb b 123 (λ e. h (inr (inr e))))

-- a byte was found at p
module _ (s : List ℕ) (p : ℕ) {b : ℕ} (e : b ≡ byte s p) where
  module _ (depth a : ℕ) (ws : List ℕ) where
    pub arguments-refused : b ≡ 40 → a ≡ 0 → fault Arguments p ≡ arguments edition_one s depth a p ws
    unfolding arguments
    arguments-refused h z = rw (← e, h, z)

    pub arguments_open : b ≡ 40 → (a ≡ 0 → ⊥) → depth < NESTING → read (p + 1) (due (Argument (a - 1)) ws) ≡ arguments edition_one s depth a p ws
    unfolding arguments edition_one
    arguments_open h z d = rw (← e, h, ne_eqb a 0 z, lt-ltb depth NESTING d)

    pub arguments-deep : b ≡ 40 → (a ≡ 0 → ⊥) → NESTING ≤ depth → fault Nesting p ≡ arguments edition_one s depth a p ws
    unfolding arguments edition_one
    arguments-deep h z d = rw (← e, h, ne_eqb a 0 z, le-ltb depth NESTING d)

    pub arguments_none : (b ≡ 40 → ⊥) → a ≡ 0 → read p (done ws) ≡ arguments edition_one s depth a p ws
    unfolding arguments
    arguments_none h z = rw (← e, ne_eqb b 40 h, z)

    pub arguments_lacking : (b ≡ 40 → ⊥) → (a ≡ 0 → ⊥) → fault Arguments p ≡ arguments edition_one s depth a p ws
    unfolding arguments
    arguments_lacking h z = rw (← e, ne_eqb b 40 h, ne_eqb a 0 z)

  module _ (unknowns : ℕ) (arities : List ℕ) (depth : ℕ) (ws : List ℕ) where
    pub begin_unknown : b ≡ 120 → an_unknown edition_one s unknowns p ws ≡ beginning edition_one s unknowns arities depth p ws
    unfolding beginning
    begin_unknown h = rw (← e, h)

    pub begin_functor : (b ≡ 120 → ⊥) → b ≡ 102 → a_functor edition_one s arities depth p ws ≡ beginning edition_one s unknowns arities depth p ws
    unfolding beginning
    begin_functor x h = rw (← e, h)

    pub begin_set : (b ≡ 120 → ⊥) → (b ≡ 102 → ⊥) → b ≡ 123 → a_set edition_one s depth p ws ≡ beginning edition_one s unknowns arities depth p ws
    unfolding beginning
    begin_set x f h = rw (← e, h)

    pub begin_none : (b ≡ 120 → ⊥) → (b ≡ 102 → ⊥) → (b ≡ 123 → ⊥) → fault Byte p ≡ beginning edition_one s unknowns arities depth p ws
    unfolding beginning
    begin_none x f h = rw (← e, ne_eqb b 120 x, ne_eqb b 102 f, ne_eqb b 123 h)

-- a byte was found after the opening bracket at p
module _ (s : List ℕ) (p : ℕ) {b : ℕ} (e : b ≡ byte s (p + 1)) (depth : ℕ) (ws : List ℕ) where
  pub set_empty : b ≡ 125 → close_empty edition_one (p + 1) ws ≡ a_set edition_one s depth p ws
  unfolding a_set
  set_empty h = rw (← e, h)

  pub set_open : (b ≡ 125 → ⊥) → depth < NESTING → due_member edition_one s (p + 1) ws ≡ a_set edition_one s depth p ws
  unfolding a_set edition_one
  set_open h d = rw (← e, ne_eqb b 125 h, lt-ltb depth NESTING d)

  pub set-deep : (b ≡ 125 → ⊥) → NESTING ≤ depth → fault Nesting p ≡ a_set edition_one s depth p ws
  unfolding a_set edition_one
  set-deep h d = rw (← e, ne_eqb b 125 h, le-ltb depth NESTING d)
