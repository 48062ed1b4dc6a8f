-- The rank of a term: how deep members and arguments stand in it. The laws keep it, and a member or an argument has a smaller rank than
-- the whole; so no term is inside itself. An unknown's value has a smaller rank than a term that has the unknown inside (`inside_rank`).
use Rattle.std.specs.Prelude.{ℕ, suc, ◌≤◌, ◌<◌, max, ◌≡◌, refl, Bool, true, false, ◌||◌, ◌⊎◌}
use Rattle.std.proofs.Common.{ap, inl, inr, eqb-true, le_refl, arith}
use Rattle.std.proofs.lemmas.Bool.{false≢true}
use Rattle.terms.specs.Lists.{All, none as All-none, both, All-map, or_left, or_right, or_else}
use Rattle.terms.specs.Term.{Term, Terms, unknown, empty, with, functor, none, more, members, kernel, list, occurs, occurs*}
use Rattle.laws.specs.Values.{Values, value, value*}
use Rattle.laws.specs.Laws.{◌≈◌, ◌≈*◌, absorb, exchange, ≈with, ≈functor, ≈refl, ≈sym, ≈trans, ≈none, ≈more}

-- 0 for the empty set, the larger of member + 1 and rest for a member added, 1 + the largest argument for a functor
unfoldable mutual
  pub rank : Term → ℕ
  rank (unknown i) = 0
  rank empty = 0
  rank (with m r) = max (suc (rank m)) (rank r)
  rank (functor k ts) = suc (rank* ts)

  pub rank* : Terms → ℕ
  rank* none = 0
  rank* (more t ts) = max (rank t) (rank* ts)

mutual
  unfolding rank

  pub rank-≈ : {t u : Term} → t ≈ u → rank t ≡ rank u
  rank-≈ absorb = omega arith
  rank-≈ exchange = omega arith
  rank-≈ (≈with h k) = let a = rank-≈ h in let b = rank-≈ k in omega arith
  rank-≈ (≈functor h) = ap suc (rank*-≈ h)
  rank-≈ ≈refl = refl
  rank-≈ (≈sym h) = let a = rank-≈ h in omega arith
  rank-≈ (≈trans h k) = let a = rank-≈ h in let b = rank-≈ k in omega arith

  rank*-≈ : {ts us : Terms} → ts ≈* us → rank* ts ≡ rank* us
  rank*-≈ ≈none = refl
  rank*-≈ (≈more h k) = let a = rank-≈ h in let b = rank*-≈ k in omega arith

-- a member's rank is smaller than the whole's, and so is an argument's
pub rank_member : (t : Term) → All (λ m. rank m < rank t) (members t)
unfolding rank members
rank_member (unknown i) = All-none
rank_member empty = All-none
rank_member (with m r) = both {x = m} (omega arith) (All-map (λ x h. omega arith) (rank_member r))
rank_member (functor k ts) = All-none

rank_list : (ts : Terms) → All (λ t. rank t ≤ rank* ts) (list ts)
unfolding rank list
rank_list none = All-none
rank_list (more t ts) = both {x = t} (omega arith) (All-map (λ x h. omega arith) (rank_list ts))

-- does the unknown x occur inside: in a member, or in an argument of the kernel?
unfoldable pub occurs_inside : ℕ → Term → Bool
occurs_inside x (unknown i) = false
occurs_inside x empty = false
occurs_inside x (with m r) = occurs x m || occurs_inside x r
occurs_inside x (functor k ts) = occurs* x ts

-- an unknown that occurs is inside, or is the tail
pub occurs_cases : (x : ℕ) (t : Term) → occurs x t ≡ true → (occurs_inside x t ≡ true) ⊎ (kernel t ≡ unknown x)
unfolding occurs occurs_inside kernel
occurs_cases x (unknown i) o = inr (ap unknown (eqb-true i x o))
occurs_cases x empty o = inl o
occurs_cases x (with m r) o = or_else (occurs x m) (occurs x r) (λ h. inl (or_left (occurs_inside x r) h)) (λ h. go (occurs_cases x r h)) o
  where
    go : (occurs_inside x r ≡ true) ⊎ (kernel r ≡ unknown x) → ((occurs x m || occurs_inside x r) ≡ true) ⊎ (kernel r ≡ unknown x)
    go (inl k) = inl (or_right (occurs x m) k)
    go (inr k) = inr k
occurs_cases x (functor k ts) o = inl o

mutual
  unfolding rank occurs value

  pub occurs_rank : (σ : Values) (x : ℕ) (t : Term) → occurs x t ≡ true → rank (σ x) ≤ rank (value σ t)
  occurs_rank σ x (unknown i) o = let e : i ≡ x = eqb-true i x o in rw e (le_refl (rank (σ x)))
  occurs_rank σ x empty o = absurd (false≢true o)
  occurs_rank σ x (with m r) o = or_else (occurs x m) (occurs x r) (λ h. let a = occurs_rank σ x m h in omega arith) (λ h. let a = occurs_rank σ x r h in omega arith) o
  occurs_rank σ x (functor k ts) o = let a = occurs*-rank σ x ts o in omega arith

  occurs*-rank : (σ : Values) (x : ℕ) (ts : Terms) → occurs* x ts ≡ true → rank (σ x) ≤ rank* (value* σ ts)
  occurs*-rank σ x none o = absurd (false≢true o)
  occurs*-rank σ x (more t ts) o = or_else (occurs x t) (occurs* x ts) (λ h. let a = occurs_rank σ x t h in omega arith) (λ h. let a = occurs*-rank σ x ts h in omega arith) o

pub inside_rank : (σ : Values) (x : ℕ) (t : Term) → occurs_inside x t ≡ true → rank (σ x) < rank (value σ t)
unfolding rank occurs_inside value
inside_rank σ x (unknown i) o = absurd (false≢true o)
inside_rank σ x empty o = absurd (false≢true o)
inside_rank σ x (with m r) o = or_else (occurs x m) (occurs_inside x r) (λ h. let a = occurs_rank σ x m h in omega arith) (λ h. let a = inside_rank σ x r h in omega arith) o
inside_rank σ x (functor k ts) o = let a = occurs*-rank σ x ts o in omega arith

-- so no values make an unknown equal to a term that has it inside
pub not_inside_itself : (σ : Values) (x : ℕ) (t : Term) → occurs_inside x t ≡ true → σ x ≈ value σ t → ⊥
not_inside_itself σ x t o h = let a = inside_rank σ x t o in let b = rank-≈ h in absurd (omega arith)
