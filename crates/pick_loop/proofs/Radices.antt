-- How many picks a member of a split has: what the code finds by the case of the split's tails, and what the tails' kind tells of them.
use Prim.Native.Nat.{ℕ, suc, ◌+◌, ◌≤◌, ◌<◌}
use mathlib.Core.Path.{◌≡◌, refl}
use mathlib.Core.Bool.{Bool, true, false}
use native.Mathlib.Omega.{arith}
use mathlib.Core.Logic.{◌⊎◌, inl, inr}
use lib.Dec.{eqb}
use lib.ListN.{length}
use Rattle.search.specs.declared.steps.Tails.{Tails}
use Rattle.search.specs.declared.steps.Tails.TheVariants.{Neither, Left, Right, Different, Same}
use Rattle.search.specs.declared.steps.Step.TheVariants.{Split}
use Rattle.search.specs.Classify.{tails_by, tails, classify}
use Rattle.search.specs.StepView.{Stepped, splits}
use Rattle.search.proofs.StepView.{stepped}
use Rattle.terms.specs.Term.{Term, with, members, kernel}
use Rattle.terms.specs.Shape.{is_unknown, number}
use Rattle.search_laws.specs.Picking.{radix}
use Rattle.pick_loop.specs.PicksInScratch.{left_open, right_open}

-- ---- by the case

pub right_closed : (k : Tails) (m : ℕ) → (k ≡ Neither) ⊎ (k ≡ Left) → m ≡ radix (right_open k) m
unfolding right_open radix
right_closed k m (inl e) = rw e
right_closed k m (inr e) = rw e

pub right_opened : (k : Tails) (m : ℕ) → (k ≡ Right) ⊎ ((k ≡ Different) ⊎ (k ≡ Same)) → m + 1 ≡ radix (right_open k) m
unfolding right_open radix
right_opened k m (inl e) = rw e (omega arith)
right_opened k m (inr (inl e)) = rw e (omega arith)
right_opened k m (inr (inr e)) = rw e (omega arith)

pub left_closed : (k : Tails) (n : ℕ) → (k ≡ Neither) ⊎ (k ≡ Right) → n ≡ radix (left_open k) n
unfolding left_open radix
left_closed k n (inl e) = rw e
left_closed k n (inr e) = rw e

pub left_opened : (k : Tails) (n : ℕ) → (k ≡ Left) ⊎ ((k ≡ Different) ⊎ (k ≡ Same)) → n + 1 ≡ radix (left_open k) n
unfolding left_open radix
left_opened k n (inl e) = rw e (omega arith)
left_opened k n (inr (inl e)) = rw e (omega arith)
left_opened k n (inr (inr e)) = rw e (omega arith)

-- ---- by the sides

opened_by : (a b c : Bool) → (left_open (tails_by a b c) ≡ a) × (right_open (tails_by a b c) ≡ b)
unfolding tails_by left_open right_open
opened_by false false c = (refl, refl)
opened_by true false c = (refl, refl)
opened_by false true c = (refl, refl)
opened_by true true false = (refl, refl)
opened_by true true true = (refl, refl)

-- each side has a member; the kind tells which tails are unknowns
pub record Sets (t u : Term) (k : Tails) : Type 0 where
  pub kind : tails t u ≡ k
  pub left : left_open k ≡ is_unknown (kernel t)
  pub right : right_open k ≡ is_unknown (kernel u)
  pub some_t : 0 < length (members t)
  pub some_u : 0 < length (members u)

pub sets : (t u : Term) {k : Tails} → classify t u ≡ Split k → Sets t u k
unfolding classify members tails
sets t u {k} e = go (rw e at (stepped t u)) e
  where
    go : {a b : Term} → Stepped a b (Split k) → classify a b ≡ Split k → Sets a b k
    go (splits {m = m} {r = r} {n = n} {s = s} d) f =
        let K : tails (with m r) (with n s) ≡ k = cc in
        let O = opened_by (is_unknown (kernel (with m r))) (is_unknown (kernel (with n s))) (eqb (number (kernel (with m r))) (number (kernel (with n s)))) in
        record { kind = K; left = rw (← K) O.0; right = rw (← K) O.1; some_t = omega arith; some_u = omega arith }

-- ---- how large it is

pub radix-most : (tail : Bool) (n : ℕ) → radix tail n ≤ suc n
unfolding radix
radix-most true n = omega arith
radix-most false n = omega arith

pub radix_least : (tail : Bool) (n : ℕ) → n ≤ radix tail n
unfolding radix
radix_least true n = omega arith
radix_least false n = omega arith
