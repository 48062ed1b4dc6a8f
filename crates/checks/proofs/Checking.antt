-- The check's walk in the code's terms: a place, and what is left of the words from there on. One law for each way a turn of a loop goes on or ends.
use Rattle.std.specs.Prelude.{Err, Ok}
use mathlib.Core.Path.{◌≡◌, ◌∙◌}
use mathlib.Core.List.{List, ◌∷◌}
use Prim.Native.Nat.{ℕ, zero, suc, ◌+◌, ◌-◌, ◌≤◌, ◌<◌}
use native.Mathlib.Omega.{arith}
use native.Mathlib.Numerals.{add-one, sub-one}
use lib.ListN.{length, drop, get_or, drop_of_length-le, length-drop}
use lib.Seq.{drop-cons}
use borrow.Author.Tests.{lt-ltb, le-ltb, ne_eqb}
use Rattle.terms.specs.Bounds.{Bounds}
use Rattle.checks.specs.Check.{checked, follow, after, refused, Follow}
use Rattle.checks.specs.Short.{stopped, short}
use Rattle.terms.specs.declared.refusal.Cause.{Cause}
use Rattle.terms.specs.declared.refusal.Cause.TheVariants.{WordsStop, WordsUndeclared, WordsLeft}

module _ (b : Bounds) (arities : List ℕ) (n : ℕ) (ws : List ℕ) (p : ℕ) where
  -- ---- no words are left

  pub stopped-out : length ws ≤ p → stopped b arities n (drop p ws) p ≡ refused WordsStop p
  unfolding stopped
  stopped-out h = rw (drop_of_length-le ws h)

  pub checked-out : (a k t : ℕ) → length ws ≤ p → 0 < a + k + t → checked b arities n (drop p ws) p a k t ≡ refused WordsStop p
  unfolding checked
  checked-out a k t h z = rw (drop_of_length-le ws h, ne_eqb (a + k + t) 0 (λ e. omega arith))

  pub checked-all : (a k t : ℕ) → length ws ≤ p → a ≡ 0 → k ≡ 0 → t ≡ 0 → checked b arities n (drop p ws) p a k t ≡ Ok tt
  unfolding checked
  checked-all a k t h x y z = rw (drop_of_length-le ws h, x, y, z)

  -- ---- the word at the place

  pub checked_short : (a k t : ℕ) → length ws - p < t → checked b arities n (drop p ws) p a k t ≡ stopped b arities n (drop p ws) p
  checked_short a k t h = short b arities n (drop p ws) p a k t (rw (length-drop p ws) h)

  module _ (h : p < length ws) where
    next : drop p ws ≡ get_or ws p 0 ∷ drop (p + 1) ws
    next = drop-cons ws p 0 h ∙ rw add-one

    module _ {f : Follow} (e : f ≡ follow b arities n (get_or ws p 0)) where
      pub stopped_step : (m : ℕ) → f ≡ Ok m → stopped b arities n (drop p ws) p ≡ stopped b arities n (drop (p + 1) ws) (p + 1)
      unfolding stopped after
      stopped_step m k = rw (next, ← e, k)

      pub stopped_at : (cause : Cause) → f ≡ Err cause → stopped b arities n (drop p ws) p ≡ refused cause p
      unfolding stopped after
      stopped_at cause k = rw (next, ← e, k)

      pub term_step : (a k t m : ℕ) → 0 < t → f ≡ Ok m → checked b arities n (drop p ws) p a k t ≡ checked b arities n (drop (p + 1) ws) (p + 1) a k (t - 1 + m)
      unfolding checked after
      term_step a k zero m z g = absurd (omega arith)
      term_step a k (suc t) m z g = rw (next, sub-one, ← e, g)

      pub term_at : (a k t : ℕ) (cause : Cause) → 0 < t → f ≡ Err cause → checked b arities n (drop p ws) p a k t ≡ refused cause p
      unfolding checked after
      term_at a k zero cause z g = absurd (omega arith)
      term_at a k (suc t) cause z g = rw (next, ← e, g)

    pub name_step : (a k t : ℕ) → t ≡ 0 → 0 < k → get_or ws p 0 < n → checked b arities n (drop p ws) p a k t ≡ checked b arities n (drop (p + 1) ws) (p + 1) a (k - 1) 1
    unfolding checked
    name_step a zero t y z l = absurd (omega arith)
    name_step a (suc k) t y z l = rw (next, y, lt-ltb (get_or ws p 0) n l, sub-one)

    pub name_at : (a k t : ℕ) → t ≡ 0 → 0 < k → n ≤ get_or ws p 0 → checked b arities n (drop p ws) p a k t ≡ refused WordsUndeclared p
    unfolding checked
    name_at a zero t y z l = absurd (omega arith)
    name_at a (suc k) t y z l = rw (next, y, le-ltb (get_or ws p 0) n l)

    pub count_step : (a k t : ℕ) → t ≡ 0 → k ≡ 0 → 0 < a → checked b arities n (drop p ws) p a k t ≡ checked b arities n (drop (p + 1) ws) (p + 1) (a - 1) (get_or ws p 0) t
    unfolding checked
    count_step zero k t x y z = absurd (omega arith)
    count_step (suc a) k t x y z = rw (next, x, y, sub-one)

    pub left_at : (a k t : ℕ) → t ≡ 0 → k ≡ 0 → a ≡ 0 → checked b arities n (drop p ws) p a k t ≡ refused WordsLeft p
    unfolding checked
    left_at a k t x y z = rw (next, x, y, z)
