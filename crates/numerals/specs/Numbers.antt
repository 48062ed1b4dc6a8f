-- Numbers of a text: plain decimal, without a leading zero, of at most five digits.
use Rattle.std.specs.Prelude.{ℕ, zero, suc, ◌+◌, ◌-◌, ◌*◌, ◌≤◌, ◌<◌, ◌≡◌, List, eqb, ltb, Option, Some, None, Result, Ok, Err}
use Rattle.std.proofs.Common.{arith, ltb-false, lt-ltb, le-ltb}
use Rattle.terms.specs.Lists.{cases}
use Rattle.terms.specs.declared.refusal.Cause.TheVariants.{Number, Limit}
use Rattle.terms.specs.declared.refusal.Refusal.{Refusal}
use Rattle.text.specs.Text.{choose}
use Rattle.numerals.specs.TextReading.{Reading, read, refused, fault, and_then}
use Rattle.numerals.specs.Bytes.{byte}
use Rattle.numerals.specs.declared.number.Numeral.{Numeral}

-- the value of the digit b, or 10 where b is none
unfoldable pub digit : ℕ → ℕ
digit b = choose (ltb b 48) (λ _. 10) (λ _. choose (ltb b 58) (λ _. b - 48) (λ _. 10))

pub digit-below : (b : ℕ) → b < 48 → digit b ≡ 10
unfolding digit
digit-below b h = rw (lt-ltb b 48 h)

pub digit_value : (b : ℕ) → 48 ≤ b → b < 58 → digit b ≡ b - 48
unfolding digit
digit_value b l h = rw (le-ltb b 48 l, lt-ltb b 58 h)

pub digit-above : (b : ℕ) → 58 ≤ b → digit b ≡ 10
unfolding digit
digit-above b h = rw (le-ltb b 48 (omega arith), le-ltb b 58 h)

-- the digits at p after digits of value v, of which n may follow; `from` is the number's first byte
unfoldable pub digits : ℕ → List ℕ → ℕ → ℕ → ℕ → Reading ℕ
digits zero s from p v = choose (ltb (digit (byte s p)) 10) (λ _. fault Limit from) (λ _. read p v)
digits (suc n) s from p v =
    choose (ltb (digit (byte s p)) 10) (λ _. digits n s from (p + 1) (v * 10 + digit (byte s p))) (λ _. read p v)

-- the number at p
unfoldable pub number : List ℕ → ℕ → Reading ℕ
number s p =
    choose (ltb (digit (byte s p)) 10)
    (λ _.
    choose (eqb (digit (byte s p)) 0)
    (λ _. choose (ltb (digit (byte s (p + 1))) 10) (λ _. fault Number p) (λ _. read (p + 1) 0))
    (λ _. digits 4 s p (p + 1) (digit (byte s p))))
    (λ _. fault Number p)

-- the number at p, which is to be at least `low` and at most `high`
unfoldable pub between : ℕ → ℕ → List ℕ → ℕ → Reading ℕ
between low high s p =
    and_then (number s p)
    (λ q v. choose (ltb v low) (λ _. fault Limit p) (λ _. choose (ltb high v) (λ _. fault Limit p) (λ _. read q v)))

-- the same, of the code's answers
abbrev pub of_digit : Option ℕ → ℕ
of_digit (Some d) = d
of_digit None = 10

abbrev pub of_numeral : Result Numeral Refusal → Reading ℕ
of_numeral (Ok n) = read n.end n.value
of_numeral (Err r) = refused r

-- a number that was read is within its limit
pub between-most : (low high : ℕ) (s : List ℕ) (p q v : ℕ) → between low high s p ≡ read q v → v ≤ high
unfolding between and_then
between-most low high s p q v e = go (number s p) e
  where
    no : {w : ℕ} → ◌≡◌ {A = Reading ℕ} (fault Limit p) (read q v) → w ≤ high
    no z = let y : ◌≡◌ {A = ℕ} 0 1 = cc in absurd (omega arith)

    go : (X : Reading ℕ)
        → and_then X (λ q v. choose (ltb v low) (λ _. fault Limit p) (λ _. choose (ltb high v) (λ _. fault Limit p) (λ _. read q v))) ≡ read q v → v ≤ high
    go (refused r) z = let y : ◌≡◌ {A = ℕ} 0 1 = cc in absurd (omega arith)
    go (read q' v') z =
        cases (ltb v' low)
        (λ t. no (rw t at z))
        (λ t.
        cases (ltb high v')
        (λ u. no (rw (t, u) at z))
        (λ u.
        let y : ◌≡◌ {A = Reading ℕ} (read q' v') (read q v) = rw (t, u) at z in
        let x : v' ≡ v = cc in
        omega (arith, ltb-false high v' u)))
