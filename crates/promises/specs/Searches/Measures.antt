-- Induction on three numbers, the first the heaviest. An earlier number may fall on the way, so that each use is one comparison.
use Rattle.std.specs.Prelude.{ℕ, suc, zero, ◌<◌, ◌≤◌}
use Rattle.std.proofs.Common.{arith}

-- y is below x
pub data Below {X : Type 0} (a b c : X → ℕ) (y x : X) : Type 0 where
  by_first : a y < a x → Below a b c y x
  by_second : a y ≤ a x → b y < b x → Below a b c y x
  by_third : a y ≤ a x → b y ≤ b x → c y < c x → Below a b c y x

module _ {X : Type 0} (a b c : X → ℕ) (P : X → Type 0) (step : (x : X) → ((y : X) → Below a b c y x → P y) → P x) where
  third : (A B : ℕ) → ((y : X) → a y < A → P y) → ((y : X) → a y ≤ A → b y < B → P y) → (k : ℕ) (x : X) → a x ≤ A → b x ≤ B → c x < k → P x
  third A B f g zero x p q r = absurd (omega arith)
  third A B f g (suc k) x p q r = step x (λ y l. pick y (third A B f g k y) l)
    where
      pick : (y : X) → (a y ≤ A → b y ≤ B → c y < k → P y) → Below a b c y x → P y
      pick y h (by_first l) = f y (omega arith)
      pick y h (by_second l m) = g y (omega arith) (omega arith)
      pick y h (by_third l m n) = h (omega arith) (omega arith) (omega arith)

  second : (A : ℕ) → ((y : X) → a y < A → P y) → (m : ℕ) (x : X) → a x ≤ A → b x < m → P x
  second A f zero x p q = absurd (omega arith)
  second A f (suc m) x p q = third A m f (λ y s t. second A f m y s t) (suc (c x)) x p (omega arith) (omega arith)

  first : (n : ℕ) (x : X) → a x < n → P x
  first zero x p = absurd (omega arith)
  first (suc n) x p = second n (λ y s. first n y s) (suc (b x)) x (omega arith) (omega arith)

  pub by_measures : (x : X) → P x
  by_measures x = first (suc (a x)) x (omega arith)
