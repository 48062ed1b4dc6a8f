-- What a turn of the comparison with a key does.
use Prim.Native.Nat.{ℕ, ◌+◌, ◌≤◌, ◌<◌}
use native.Mathlib.Numerals.{add-one}
use mathlib.Core.Path.{◌≡◌}
use mathlib.Core.List.{List}
use borrow.Author.Tests.{eq-eqb, ne_eqb}
use lib.ListN.{length, get_or, drop, drop_of_length-le}
use lib.Seq.{drop-cons}
use Rattle.terms.specs.declared.refusal.Cause.TheVariants.{Byte}
use Rattle.numerals.specs.Bytes.{byte, met}
use Rattle.std.proofs.Common.{Ok, Err}

module _ (s key : List ℕ) (p i : ℕ) where
  pub met_all : length key ≤ i → met s (drop i key) p ≡ Ok p
  unfolding met
  met_all h = rw (drop_of_length-le key h)

  module _ (h : i < length key) where
    pub met_same : byte s p ≡ get_or key i 0 → met s (drop i key) p ≡ met s (drop (i + 1) key) (p + 1)
    unfolding met
    met_same e = rw (drop-cons key i 0 h, add-one i) (rw (eq-eqb (byte s p) (get_or key i 0) e))

    pub met_other : (byte s p ≡ get_or key i 0 → ⊥) → met s (drop i key) p ≡ Err (record { cause = Byte; place = p })
    unfolding met
    met_other e = rw (drop-cons key i 0 h) (rw (ne_eqb (byte s p) (get_or key i 0) e))
