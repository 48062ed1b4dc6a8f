-- Laws of digits and numbers, as the code's tests meet them.
use Prim.Native.Nat.{ℕ, zero, suc, ◌+◌, ◌-◌, ◌*◌, ◌≤◌, ◌<◌}
use native.Mathlib.Omega.{arith}
use mathlib.Core.Path.{◌≡◌, refl, sym, ◌∙◌}
use mathlib.Core.Logic.{inl, inr}
use mathlib.Core.List.{List}
use borrow.Author.Tests.{ne_eqb, lt-ltb, le-ltb, ltb-true, ltb-false}
use lib.Dec.{ltb}
use lib.ListN.{length}
use Rattle.std.specs.Char.{IsNotAsciiDigit}
use Rattle.std.specs.Option.{is_some}
use Rattle.std.specs.Prelude.{Option, Some, None, IfSome, true, false}
use Rattle.terms.specs.Lists.{cases}
use Rattle.terms.specs.declared.refusal.Cause.TheVariants.{Number, Limit}
use Rattle.terms.specs.declared.refusal.Refusal.{Refusal}
use Rattle.text.specs.Text.{choose}
use Rattle.numerals.specs.TextReading.{read, refused, fault, then-read, then-refused}
use Rattle.numerals.specs.Bytes.{byte, in_text}
use Rattle.numerals.specs.Numbers.{digit, digits, number, between, digit-below, digit-above, of_digit}

-- a byte that is a digit is a byte of the text
pub digit_in : (s : List ℕ) (p : ℕ) → digit (byte s p) < 10 → p < length s
digit_in s p h =
    cases (ltb (byte s p) 58)
    (λ t. in_text s p (omega (arith, ltb-true (byte s p) 58 t)))
    (λ t. let l = ltb-false (byte s p) 58 t in absurd (omega (arith, digit-above (byte s p) l)))

pub digit_none : (b : ℕ) → IsNotAsciiDigit b → 10 ≡ digit b
digit_none b (inl h) = sym (digit-below b h)
digit_none b (inr h) = sym (digit-above b (omega arith))

-- whether a digit was found, as the code tests it
pub digit_some : (r : Option ℕ) → is_some r ≡ true → IfSome r (λ d. d < 10) → of_digit r < 10
digit_some (Some d) e h = h
digit_some None e h = let z : ◌≡◌ {A = ℕ} 0 1 = cc in absurd (omega arith)

pub digit_missing : (r : Option ℕ) → is_some r ≡ false → 10 ≤ of_digit r
digit_missing (Some d) e = let z : ◌≡◌ {A = ℕ} 0 1 = cc in absurd (omega arith)
digit_missing None e = omega arith

-- d was found at p
module _ (s : List ℕ) (p : ℕ) {d : ℕ} (e : d ≡ digit (byte s p)) where
  pub digit_there : d < 10 → p < length s
  digit_there h = digit_in s p (rw e at h)

  pub digits-end : (n from v : ℕ) → 10 ≤ d → digits n s from p v ≡ read p v
  unfolding digits
  digits-end zero from v h = rw (← e, le-ltb d 10 h)
  digits-end (suc n) from v h = rw (← e, le-ltb d 10 h)

  pub digits_full : (n from v : ℕ) → n ≡ 0 → d < 10 → digits n s from p v ≡ fault Limit from
  unfolding digits
  digits_full n from v k h = rw (k, ← e, lt-ltb d 10 h)

  pub digits_more : (n from v : ℕ) → (n ≡ 0 → ⊥) → d < 10 → digits n s from p v ≡ digits (n - 1) s from (p + 1) (v * 10 + d)
  unfolding digits
  digits_more zero from v k h = absurd (k refl)
  digits_more (suc n) from v k h = let i : suc n - 1 ≡ n = omega arith in rw (← e, lt-ltb d 10 h, i)

  pub number_none : 10 ≤ d → number s p ≡ fault Number p
  unfolding number
  number_none h = rw (← e, le-ltb d 10 h)

  pub number_more : d < 10 → (d ≡ 0 → ⊥) → number s p ≡ digits 4 s p (p + 1) d
  unfolding number
  number_more h k = rw (← e, lt-ltb d 10 h, ne_eqb d 0 k)

  module _ {g : ℕ} (i : g ≡ digit (byte s (p + 1))) (k : d ≡ 0) where
    pub number_led : g < 10 → number s p ≡ fault Number p
    unfolding number
    number_led h = rw (← e, k, ← i, lt-ltb g 10 h)

    pub number-zero : 10 ≤ g → number s p ≡ read (p + 1) 0
    unfolding number
    number-zero h = rw (← e, k, ← i, le-ltb g 10 h)

-- a number after which n of five digits may follow is below this
unfoldable pub room : ℕ → ℕ
room zero = 100000
room (suc zero) = 10000
room (suc (suc zero)) = 1000
room (suc (suc (suc zero))) = 100
room (suc (suc (suc (suc zero)))) = 10
room (suc (suc (suc (suc (suc n))))) = 0

pub room_less : (n v d : ℕ) → (n ≡ 0 → ⊥) → v < room n → d < 10 → v * 10 + d < room (n - 1)
unfolding room
room_less zero v d e h k = absurd (e refl)
room_less (suc zero) v d e h k = omega arith
room_less (suc (suc zero)) v d e h k = omega arith
room_less (suc (suc (suc zero))) v d e h k = omega arith
room_less (suc (suc (suc (suc zero)))) v d e h k = omega arith
room_less (suc (suc (suc (suc (suc n))))) v d e h k = absurd (omega arith)

pub room_most : (n v : ℕ) → v < room n → v < 100000
unfolding room
room_most zero v h = h
room_most (suc zero) v h = omega arith
room_most (suc (suc zero)) v h = omega arith
room_most (suc (suc (suc zero))) v h = omega arith
room_most (suc (suc (suc (suc zero)))) v h = omega arith
room_most (suc (suc (suc (suc (suc n))))) v h = absurd (omega arith)

-- a number was read, or refused, at p
module _ (low high : ℕ) (s : List ℕ) (p : ℕ) where
  pub between-refused : (f : Refusal) → refused f ≡ number s p → refused f ≡ between low high s p
  unfolding between
  between-refused f e = sym (then-refused _ (sym e))

  module _ {v q : ℕ} (e : read q v ≡ number s p) where
    between_is : between low high s p ≡ choose (ltb v low) (λ _. fault Limit p) (λ _. choose (ltb high v) (λ _. fault Limit p) (λ _. read q v))
    unfolding between
    between_is = then-read _ (sym e)

    pub between-below : v < low → fault Limit p ≡ between low high s p
    between-below h = sym (between_is ∙ rw (lt-ltb v low h))

    pub between-above : low ≤ v → high < v → fault Limit p ≡ between low high s p
    between-above l h = sym (between_is ∙ rw (le-ltb v low l, lt-ltb high v h))

    pub between-read : low ≤ v → v ≤ high → read q v ≡ between low high s p
    between-read l h = sym (between_is ∙ rw (le-ltb v low l, le-ltb high v h))
