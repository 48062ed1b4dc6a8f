-- A number that stands in the text, followed by no digit, is read as it was written.
use Rattle.std.specs.Prelude.{ℕ, zero, suc, ◌+◌, ◌-◌, ◌*◌, ◌/◌, ◌%◌, ◌≤◌, ◌<◌, ◌≡◌, refl, List, [], ◌∷◌, ◌++◌, ltb, length, drop}
use Rattle.std.proofs.Common.{div-add-mod', arith, ◌∙◌, lt-ltb, le-ltb, ne_eqb, ltb-true, ltb-false}
use Rattle.terms.specs.Lists.{All, none, both, cases}
use Rattle.text.specs.Text.{decimal}
use Rattle.text.specs.Decimal.{last-digit, by_digits, decimal_digit, decimal-more, decimal_bytes, decimal-length}
use Rattle.numerals.specs.TextReading.{read, then-read}
use Rattle.numerals.specs.Bytes.{byte, stopped}
use Rattle.numerals.specs.Numbers.{digit, digits, number, between, digit-below, digit_value, digit-above}
use Rattle.roundtrip.specs.Suffix.{first_byte, after-byte, no_byte}

-- what may follow a number: no digit
pub data Ends : List ℕ → Type 0 where
  stops : Ends []
  other : {b : ℕ} {r : List ℕ} → 58 ≤ b → Ends (b ∷ r)
  early : {b : ℕ} {r : List ℕ} → b < 48 → Ends (b ∷ r)

abbrev pub Digits : List ℕ → Type 0
Digits ds = All (λ b. (48 ≤ b) × (b < 58)) ds

pub no_digit : (s : List ℕ) (p : ℕ) (r : List ℕ) → Ends r → drop p s ≡ r → digit (byte s p) ≡ 10
no_digit s p [] stops e = rw (no_byte s p e) (digit-above stopped (omega arith))
no_digit s p (b ∷ r) (other h) e = rw (first_byte s p b r e) (digit-above b h)
no_digit s p (b ∷ r) (early h) e = rw (first_byte s p b r e) (digit-below b h)

-- the value of digits after others of value v
unfoldable value : ℕ → List ℕ → ℕ
value v [] = v
value v (d ∷ ds) = value (v * 10 + (d - 48)) ds

value-more : (ds : List ℕ) (v d : ℕ) → value v (ds ++ (d ∷ [])) ≡ value v ds * 10 + (d - 48)
unfolding value
value-more [] v d = refl
value-more (e ∷ ds) v d = value-more ds (v * 10 + (e - 48)) d

one-digit : (n : ℕ) → value 0 ((48 + n) ∷ []) ≡ n
unfolding value
one-digit n = omega arith

value-decimal : (n : ℕ) → value 0 (decimal n) ≡ n
value-decimal =
    by_digits (λ n. value 0 (decimal n) ≡ n)
    (λ n h. rw (decimal_digit n h) (one-digit n))
    (λ n h k. rw (decimal-more n h, value-more (decimal (n / 10)) 0 (48 + n % 10), k) (omega (arith, div-add-mod' n 10)))

digits-read : (n : ℕ) (s : List ℕ) (from p v : ℕ) (ds r : List ℕ) → Digits ds → length ds ≤ n → Ends r → drop p s ≡ ds ++ r
    → digits n s from p v ≡ read (p + length ds) (value v ds)
unfolding digits value
digits-read zero s from p v [] r none l i e = let z : p + 0 ≡ p = omega arith in rw (no_digit s p r i e, z)
digits-read (suc n) s from p v [] r none l i e = let z : p + 0 ≡ p = omega arith in rw (no_digit s p r i e, z)
digits-read zero s from p v (d ∷ ds) r x l i e = absurd (omega arith)
digits-read (suc n) s from p v (d ∷ ds) r (both x xs) l i e =
    let f : digit (byte s p) ≡ d - 48 = rw (first_byte s p d (ds ++ r) e) (digit_value d x.0 x.1) in
    let z : p + 1 + length ds ≡ p + suc (length ds) = omega arith in
    rw (f, lt-ltb (d - 48) 10 (omega (arith, x.0, x.1)), ← z)
    (digits-read n s from (p + 1) (v * 10 + (d - 48)) ds r xs (omega arith) i (after-byte s p d (ds ++ r) e))

-- the first digit of a number that is not 0 is not 0
pub data Leads : List ℕ → Type 0 where
  leads : {d : ℕ} {ds : List ℕ} → 48 < d → Leads (d ∷ ds)

leads_more : {ds : List ℕ} (e : List ℕ) → Leads ds → Leads (ds ++ e)
leads_more e (leads h) = leads h

decimal_leads : (n : ℕ) → 0 < n → Leads (decimal n)
decimal_leads =
    by_digits (λ n. 0 < n → Leads (decimal n))
    (λ n h k. rw (decimal_digit n h) (leads {d = 48 + n} (omega arith)))
    (λ n h f k. rw (decimal-more n h) (leads_more ((48 + n % 10) ∷ []) (f (omega (arith, div-add-mod' n 10, last-digit n)))))

zero-read : (s : List ℕ) (p : ℕ) (r : List ℕ) → Ends r → drop p s ≡ 48 ∷ r → number s p ≡ read (p + 1) 0
unfolding number
zero-read s p r i e =
    let f : digit (byte s p) ≡ 0 = rw (first_byte s p 48 r e) (digit_value 48 (omega arith) (omega arith)) in
    rw (f, no_digit s (p + 1) r i (after-byte s p 48 r e))

lead_read : (s : List ℕ) (p d : ℕ) (ds r : List ℕ) → 48 < d → d < 58 → Digits ds → length ds ≤ 4 → Ends r → drop p s ≡ d ∷ (ds ++ r)
    → number s p ≡ read (p + 1 + length ds) (value (d - 48) ds)
unfolding number
lead_read s p d ds r l h x n i e =
    let f : digit (byte s p) ≡ d - 48 = rw (first_byte s p d (ds ++ r) e) (digit_value d (omega arith) h) in
    rw (f, lt-ltb (d - 48) 10 (omega arith), ne_eqb (d - 48) 0 (λ z. omega arith))
    (digits-read 4 s p (p + 1) (d - 48) ds r x n i (after-byte s p d (ds ++ r) e))

run_read : (s : List ℕ) (p : ℕ) (ds r : List ℕ) → Leads ds → Digits ds → length ds ≤ 5 → Ends r → drop p s ≡ ds ++ r → number s p ≡ read (p + length ds) (value 0 ds)
unfolding value
run_read s p [] r l _ n i e = elim l [ ]
run_read s p (d ∷ ds) r (leads l) (both x xs) n i e =
    let z : p + 1 + length ds ≡ p + suc (length ds) = omega arith in
    let y : 0 * 10 + (d - 48) ≡ d - 48 = omega arith in
    rw (← z, y) (lead_read s p d ds r l x.1 xs (omega arith) i e)

-- a number of at most five digits
pub number_read : (n : ℕ) (s : List ℕ) (p : ℕ) (r : List ℕ) → n < 100000 → Ends r → drop p s ≡ decimal n ++ r → number s p ≡ read (p + length (decimal n)) n
number_read n s p r h i e =
    cases (ltb 0 n)
    (λ t. rw (value-decimal n) at (run_read s p (decimal n) r (decimal_leads n (ltb-true 0 n t)) (decimal_bytes n) (decimal-length 4 n h) i e))
    (λ t.
    let z : n ≡ 0 = omega (arith, ltb-false 0 n t) in
    let d : decimal n ≡ 48 ∷ [] = rw z (decimal_digit 0 (omega arith)) in
    rw (d, z) (zero-read s p r i (rw d at e)))

pub between-read : (low high n : ℕ) (s : List ℕ) (p : ℕ) (r : List ℕ) → low ≤ n → n ≤ high → high < 100000 → Ends r → drop p s ≡ decimal n ++ r
    → between low high s p ≡ read (p + length (decimal n)) n
unfolding between
between-read low high n s p r l h k i e =
    then-read _ (number_read n s p r (omega arith) i e) ∙ rw (le-ltb n low l, le-ltb high n h)
