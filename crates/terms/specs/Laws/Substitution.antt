-- Substitution in formed terms: it keeps them formed, changes nothing where the unknown is absent, and leaves no word of the unknown behind.
-- Where an unknown occurs in a set. That substitution is flat on words is in `Flat`.
use Rattle.std.specs.Prelude.{ℕ, ◌≤◌, ◌≡◌, List, [], ◌∷◌, Bool, true, false, cond, ◌||◌, eqb}
use Rattle.std.proofs.Math.Path.{refl}
use Rattle.std.proofs.Common.{ap, ◌∙◌, arith, ne_eqb}
use Rattle.terms.specs.Lists.{cases, or_neither, any}
use Rattle.terms.specs.Term.{Term, Terms, unknown, empty, with, functor, none, more, occurs, occurs*, subst, subst*, over, count}
use Rattle.terms.specs.Formed.{Formed, Formed*, formed_unknown, formed_empty, formed_with, formed_functor, formed_none, formed_more}

-- what is formed with n unknowns is formed with more
mutual
  pub formed_wider : {arities : List ℕ} {n m : ℕ} {t : Term} → n ≤ m → Formed arities n t → Formed arities m t
  formed_wider h (formed_unknown {i = i} l) = formed_unknown {i = i} (omega arith)
  formed_wider h formed_empty = formed_empty
  formed_wider h (formed_with f g) = formed_with (formed_wider h f) (formed_wider h g)
  formed_wider h (formed_functor k e f) = formed_functor k e (formed-wider* h f)

  pub formed-wider* : {arities : List ℕ} {n m : ℕ} {ts : Terms} → n ≤ m → Formed* arities n ts → Formed* arities m ts
  formed-wider* h formed_none = formed_none
  formed-wider* h (formed_more f g) = formed_more (formed_wider h f) (formed-wider* h g)

-- an unknown that a formed term has no word for is absent
mutual
  unfolding occurs

  pub absent_above : {arities : List ℕ} {n : ℕ} {t : Term} (x : ℕ) → n ≤ x → Formed arities n t → occurs x t ≡ false
  absent_above x h (formed_unknown {i = i} l) = ne_eqb i x (λ e. omega arith)
  absent_above x h formed_empty = refl
  absent_above x h (formed_with {m = m} {r = r} f g) = rw (absent_above x h f) (absent_above x h g)
  absent_above x h (formed_functor k e f) = absent-above* x h f

  pub absent-above* : {arities : List ℕ} {n : ℕ} {ts : Terms} (x : ℕ) → n ≤ x → Formed* arities n ts → occurs* x ts ≡ false
  absent-above* x h formed_none = refl
  absent-above* x h (formed_more f g) = rw (absent_above x h f) (absent-above* x h g)

module _ (x : ℕ) (s : Term) where
  -- a choice between s and the unknown i
  formed_choice : {arities : List ℕ} {n : ℕ} (c : Bool) (i : ℕ) → Formed arities n s → Formed arities n (unknown i) → Formed arities n (cond c s (unknown i))
  formed_choice true i f g = f
  formed_choice false i f g = g

  count-subst : (ts : Terms) → count (subst* x s ts) ≡ count ts
  unfolding count subst
  count-subst none = refl
  count-subst (more t ts) = rw (count-subst ts)

  mutual
    unfolding subst

    pub formed_subst : {arities : List ℕ} {n : ℕ} {t : Term} → Formed arities n s → Formed arities n t → Formed arities n (subst x s t)
    formed_subst h (formed_unknown {i = i} l) = formed_choice (eqb i x) i h (formed_unknown l)
    formed_subst h formed_empty = formed_empty
    formed_subst h (formed_with f g) = formed_with (formed_subst h f) (formed_subst h g)
    formed_subst h (formed_functor {ts = ts} k e f) = formed_functor k (count-subst ts ∙ e) (formed-subst* h f)

    pub formed-subst* : {arities : List ℕ} {n : ℕ} {ts : Terms} → Formed arities n s → Formed* arities n ts → Formed* arities n (subst* x s ts)
    formed-subst* h formed_none = formed_none
    formed-subst* h (formed_more f g) = formed_more (formed_subst h f) (formed-subst* h g)

  mutual
    unfolding subst occurs

    pub subst_absent : (t : Term) → occurs x t ≡ false → subst x s t ≡ t
    subst_absent (unknown i) e = rw e
    subst_absent empty e = refl
    subst_absent (with m r) e = let o = or_neither (occurs x m) (occurs x r) e in rw (subst_absent m o.0, subst_absent r o.1)
    subst_absent (functor k ts) e = rw (subst-absent* ts e)

    pub subst-absent* : (ts : Terms) → occurs* x ts ≡ false → subst* x s ts ≡ ts
    subst-absent* none e = refl
    subst-absent* (more t ts) e = let o = or_neither (occurs x t) (occurs* x ts) e in rw (subst_absent t o.0, subst-absent* ts o.1)

  mutual
    unfolding subst occurs

    pub occurs_subst : occurs x s ≡ false → (t : Term) → occurs x (subst x s t) ≡ false
    occurs_subst h (unknown i) = cases (eqb i x) (λ e. rw e h) (λ e. rw e e)
    occurs_subst h empty = refl
    occurs_subst h (with m r) = rw (occurs_subst h m) (occurs_subst h r)
    occurs_subst h (functor k ts) = occurs-subst* h ts

    pub occurs-subst* : occurs x s ≡ false → (ts : Terms) → occurs* x (subst* x s ts) ≡ false
    occurs-subst* h none = refl
    occurs-subst* h (more t ts) = rw (occurs_subst h t) (occurs-subst* h ts)

-- an unknown other than the tail of {ms|n} occurs in it where it occurs in a member
pub occurs_over : (x n : ℕ) → (n ≡ x → ⊥) → (ms : List Term) → occurs x (over ms (unknown n)) ≡ any (occurs x) ms
unfolding occurs over any
occurs_over x n d [] = ne_eqb n x d
occurs_over x n d (m ∷ ms) = ap (λ c. occurs x m || c) (occurs_over x n d ms)
