-- Laws of decimal numbers: the one-step equations of `decimal`, its bytes, and its length.
use Rattle.std.specs.Prelude.{ℕ, zero, suc, ◌+◌, ◌/◌, ◌%◌, ◌^◌, ◌≤◌, ◌<◌, ◌≡◌, refl, [], ◌∷◌, ◌++◌, ltb, length}
use Rattle.std.proofs.Common.{div-add-mod', mod-lt, arith, length-append, lt-ltb, le-ltb, ltb-true, ltb-false}
use Rattle.terms.specs.Lists.{All, none, both, All-append, cases}
use Rattle.text.specs.Text.{digits, decimal}

-- a quotient by ten is smaller, and ten times it with the last digit is the number
pub tenth : (n : ℕ) → 10 ≤ n → n / 10 < n
tenth n h = omega (arith, div-add-mod' n 10)

pub last-digit : (n : ℕ) → n % 10 < 10
last-digit n = mod-lt n (omega arith)

-- as many digits as wanted or more
pub digits_enough : (f g n : ℕ) → n ≤ f → n ≤ g → digits f n ≡ digits g n
unfolding digits
digits_enough zero zero n h k = refl
digits_enough zero (suc g) n h k = rw (lt-ltb n 10 (omega arith))
digits_enough (suc f) zero n h k = rw (lt-ltb n 10 (omega arith))
digits_enough (suc f) (suc g) n h k =
    cases (ltb n 10)
    (λ t. rw t)
    (λ t. let l = ltb-false n 10 t in let s = tenth n (omega arith) in rw (t, digits_enough f g (n / 10) (omega arith) (omega arith)))

pub decimal_digit : (n : ℕ) → n < 10 → decimal n ≡ (48 + n) ∷ []
unfolding decimal digits
decimal_digit zero h = refl
decimal_digit (suc n) h = rw (lt-ltb (suc n) 10 h)

pub decimal-more : (n : ℕ) → 10 ≤ n → decimal n ≡ decimal (n / 10) ++ ((48 + n % 10) ∷ [])
unfolding decimal digits
decimal-more zero h = absurd (omega arith)
decimal-more (suc n) h =
    let s = tenth (suc n) h in
    rw (le-ltb (suc n) 10 h, digits_enough n (suc n / 10) (suc n / 10) (omega arith) (omega arith))

-- what holds of one digit, and of a number where it holds of its tenth, holds of every number
pub by_digits : (P : ℕ → Type 0) → ((n : ℕ) → n < 10 → P n) → ((n : ℕ) → 10 ≤ n → P (n / 10) → P n) → (n : ℕ) → P n
by_digits P one step n = go n n (omega arith)
  where
    go : (f n : ℕ) → n ≤ f → P n
    go zero n h = one n (omega arith)
    go (suc f) n h =
        cases (ltb n 10)
        (λ t. one n (ltb-true n 10 t))
        (λ t. let l = ltb-false n 10 t in let s = tenth n (omega arith) in step n (omega arith) (go f (n / 10) (omega arith)))

-- each byte is a digit
pub decimal_bytes : (n : ℕ) → All (λ b. (48 ≤ b) × (b < 58)) (decimal n)
decimal_bytes =
    by_digits (λ n. All (λ b. (48 ≤ b) × (b < 58)) (decimal n))
    (λ n h. rw (decimal_digit n h) (both {x = 48 + n} (omega arith, omega arith) none))
    (λ n h k. rw (decimal-more n h) (All-append k (both {x = 48 + n % 10} (omega arith, omega (arith, last-digit n)) none)))

-- a number below the k-th power of ten has at most k digits, and every number has one
pub decimal-length : (k n : ℕ) → n < 10 ^ suc k → length (decimal n) ≤ suc k
decimal-length zero n h = rw (decimal_digit n (omega arith)) (omega arith)
decimal-length (suc k) n h =
    cases (ltb n 10)
    (λ t. rw (decimal_digit n (ltb-true n 10 t)) (omega arith))
    (λ t.
    let l = ltb-false n 10 t in
    let e = div-add-mod' n 10 in
    let r = decimal-length k (n / 10) (omega arith) in
    rw (decimal-more n l) (omega (arith, length-append (decimal (n / 10)) ((48 + n % 10) ∷ []))))

pub decimal-some : (n : ℕ) → 1 ≤ length (decimal n)
decimal-some n =
    cases (ltb n 10)
    (λ t. rw (decimal_digit n (ltb-true n 10 t)) (omega arith))
    (λ t. rw (decimal-more n (ltb-false n 10 t)) (omega (arith, length-append (decimal (n / 10)) ((48 + n % 10) ∷ []))))
