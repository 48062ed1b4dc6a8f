-- How many numbers below a bound pass a test. A stronger test passes no more, and fewer where it refuses one that the other lets pass.
use Rattle.std.specs.Prelude.{ℕ, ◌+◌, suc, zero, ◌≤◌, ◌<◌, ◌≡◌, refl, Bool, true, false, cond, eqb}
use Rattle.std.proofs.Common.{eqb-true, arith}
use Rattle.std.proofs.lemmas.Bool.{eqb-false}
use Rattle.terms.specs.Lists.{cases}

unfoldable pub tally : ℕ → (ℕ → Bool) → ℕ
tally zero p = 0
tally (suc n) p = cond (p n) 1 0 + tally n p

-- q passes whatever p passes, below n
abbrev pub Stronger : ℕ → (ℕ → Bool) → (ℕ → Bool) → Type 0
Stronger n p q = (y : ℕ) → y < n → p y ≡ true → q y ≡ true

one_no_more : (a b : Bool) → (a ≡ true → b ≡ true) → cond a 1 0 ≤ cond b 1 0
one_no_more false b h = omega arith
one_no_more true b h = rw (h refl) (omega arith)

pub tally_no_more : (n : ℕ) {p q : ℕ → Bool} → Stronger n p q → tally n p ≤ tally n q
unfolding tally
tally_no_more zero h = omega arith
tally_no_more (suc n) {p} {q} h =
    omega (arith, one_no_more (p n) (q n) (h n (omega arith)), tally_no_more n {p = p} {q = q} (λ y l. h y (omega arith)))

pub tally_fewer : (n : ℕ) {p q : ℕ → Bool} (x : ℕ) → x < n → p x ≡ false → q x ≡ true → Stronger n p q → tally n p < tally n q
unfolding tally
tally_fewer zero x l e f h = absurd (omega arith)
tally_fewer (suc n) {p} {q} x l e f h =
    let one : cond (p n) 1 0 ≤ cond (q n) 1 0 = one_no_more (p n) (q n) (h n (omega arith)) in
    let rest : Stronger n p q = λ y k. h y (omega arith) in
    cases (eqb x n)
    (λ d. let c : x ≡ n = eqb-true x n d in rw (rw c at e, rw c at f) (omega (arith, tally_no_more n {p = p} {q = q} rest)))
    (λ d. let c : x ≡ n → ⊥ = eqb-false x n d in omega (arith, tally_fewer n {p = p} {q = q} x (omega arith) e f rest))

pub tally-most : (n : ℕ) (p : ℕ → Bool) → tally n p ≤ n
unfolding tally
tally-most zero p = omega arith
tally-most (suc n) p = omega (arith, tally-most n p, one_no_more (p n) true (λ e. refl))

pub tally-suc : (n : ℕ) (p : ℕ → Bool) → tally (suc n) p ≤ suc (tally n p)
unfolding tally
tally-suc n p = omega (arith, one_no_more (p n) true (λ e. refl))

pub tally-refused : (n : ℕ) (p : ℕ → Bool) → p n ≡ false → tally (suc n) p ≡ tally n p
unfolding tally
tally-refused n p e = rw e (omega arith)
