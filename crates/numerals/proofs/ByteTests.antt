-- What a test of the byte at a place tells of it.
use Prim.Native.Nat.{ℕ, ◌<◌}
use native.Mathlib.Omega.{arith}
use mathlib.Core.Path.{◌≡◌, sym}
use mathlib.Core.List.{List}
use mathlib.Core.Bool.{Bool, true, false, not}
use borrow.Author.Tests.{eqb-true, eq-eqb, ltb-true, ltb-false}
use lib.Dec.{eqb}
use lib.ListN.{length}
use Rattle.std.specs.Option.{option_eq, option_copied}
use Rattle.std.specs.Slice.{IsItemAt}
use Rattle.std.proofs.lemmas.Grind.{get_or_default_zero}
use Rattle.std.proofs.Common.{Bor, Option, Some, None, ◌∙◌}
use Rattle.terms.specs.Bounds.{BYTES}
use Rattle.numerals.specs.Bytes.{byte, of_byte, byte_in, byte-out, in_text}

stands_it : (r : Option ℕ) (k : ℕ) → true ≡ option_eq eqb r (Some k) → of_byte r ≡ k
stands_it (Some b) k h = eqb-true b k (sym h)
stands_it None k h = absurd cc

stands_no : (r : Option ℕ) (k : ℕ) → k < BYTES → false ≡ option_eq eqb r (Some k) → of_byte r ≡ k → ⊥
stands_no (Some b) k l h e = let z : true ≡ false = sym (eq-eqb b k e) ∙ sym h in absurd cc
stands_no None k l h e = absurd (omega arith)

module _ (s : List ℕ) (p : ℕ) (r : Option ℕ) (k : ℕ) (e : of_byte r ≡ byte s p) where
  pub stands : true ≡ option_eq eqb r (Some k) → byte s p ≡ k
  stands h = sym e ∙ stands_it r k h

  pub stands-in : true ≡ option_eq eqb r (Some k) → k < BYTES → p < length s
  stands-in h l = let i = stands h in in_text s p (omega arith)

  pub stands-not : k < BYTES → false ≡ option_eq eqb r (Some k) → byte s p ≡ k → ⊥
  stands-not l h i = stands_no r k l h (e ∙ i)

-- the byte that is lent of a text
pub of_byte_item : (s : List ℕ) (p : ℕ) (r : Option (Bor ℕ)) → IsItemAt s p r → of_byte (option_copied r) ≡ byte s p
of_byte_item s p None h = sym (byte-out s p (ltb-false p (length s) (sym h.0)))
of_byte_item s p (Some x) h =
    let l = ltb-true p (length s) (sym h.0) in
    h.1 ∙ get_or_default_zero s p x.now l ∙ sym (byte_in s p l)

pub not_flip : (x y : Bool) → x ≡ not y → not x ≡ y
not_flip x true e = rw e
not_flip x false e = rw e
