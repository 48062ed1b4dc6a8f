-- What putting values in does to a term: to its members and its kernel, to a term put for an unknown, to equal terms and under equal
-- values, and to a formed term.
use Rattle.std.specs.Prelude.{ℕ, suc, ◌<◌, ◌≡◌, refl, List, [], ◌∷◌, ◌++◌, map, Bool, true, false, cond, eqb, length, get_or}
use Rattle.std.proofs.Common.{ap, ap₂, ◌∙◌, sym, length-append, eqb-true, eq-eqb, arith}
use Rattle.std.proofs.lemmas.Bool.{false≢true}
use Rattle.std.proofs.Math.ListN.{get_or-append}
use Rattle.terms.specs.Lists.{or_left, or_right, or_else}
use Rattle.terms.specs.Term.{Term, Terms, unknown, empty, with, functor, none, more, members, kernel, over, occurs, occurs*, subst, subst*, count}
use Rattle.terms.specs.Formed.{Formed, Formed*, formed_unknown, formed_empty, formed_with, formed_functor, formed_none, formed_more}
use Rattle.laws.specs.Laws.{◌≈◌, ◌≈*◌, absorb, exchange, ≈with, ≈functor, ≈refl, ≈sym, ≈trans, ≈none, ≈more}
use Rattle.laws.specs.Values.{Values, value, value*, given, Extends}

-- members and kernel: those written, and then those of the tail's value
pub value-over : (σ : Values) (ms : List Term) (k : Term) → value σ (over ms k) ≡ over (map (value σ) ms) (value σ k)
unfolding value over
value-over σ [] k = refl
value-over σ (m ∷ ms) k = ap (λ r. with (value σ m) r) (value-over σ ms k)

pub members-value : (σ : Values) (t : Term) → members (value σ t) ≡ map (value σ) (members t) ++ members (value σ (kernel t))
unfolding value members kernel
members-value σ (unknown i) = refl
members-value σ empty = refl
members-value σ (with m r) = ap (λ l. value σ m ∷ l) (members-value σ r)
members-value σ (functor k ts) = refl

pub kernel-value : (σ : Values) (t : Term) → kernel (value σ t) ≡ kernel (value σ (kernel t))
unfolding value kernel
kernel-value σ (unknown i) = refl
kernel-value σ empty = refl
kernel-value σ (with m r) = kernel-value σ r
kernel-value σ (functor k ts) = refl

-- a term put for an unknown
value-cond : (σ : Values) (b : Bool) (s t : Term) → value σ (cond b s t) ≡ cond b (value σ s) (value σ t)
value-cond σ true s t = refl
value-cond σ false s t = refl

mutual
  unfolding value subst given

  pub value-subst : (σ : Values) (x : ℕ) (s : Term) (t : Term) → value σ (subst x s t) ≡ value (given x (value σ s) σ) t
  value-subst σ x s (unknown i) = value-cond σ (eqb i x) s (unknown i)
  value-subst σ x s empty = refl
  value-subst σ x s (with m r) = ap₂ (λ a b. with a b) (value-subst σ x s m) (value-subst σ x s r)
  value-subst σ x s (functor k ts) = ap (λ a. functor k a) (value*-subst σ x s ts)

  value*-subst : (σ : Values) (x : ℕ) (s : Term) (ts : Terms) → value* σ (subst* x s ts) ≡ value* (given x (value σ s) σ) ts
  value*-subst σ x s none = refl
  value*-subst σ x s (more t ts) = ap₂ (λ a b. more a b) (value-subst σ x s t) (value*-subst σ x s ts)

-- equal values on a term's unknowns give equal terms
mutual
  unfolding value occurs

  pub value_same : (σ τ : Values) (t : Term) → ((i : ℕ) → occurs i t ≡ true → σ i ≈ τ i) → value σ t ≈ value τ t
  value_same σ τ (unknown i) h = h i (eq-eqb i i refl)
  value_same σ τ empty h = ≈refl
  value_same σ τ (with m r) h = ≈with (value_same σ τ m (λ i o. h i (or_left (occurs i r) o))) (value_same σ τ r (λ i o. h i (or_right (occurs i m) o)))
  value_same σ τ (functor k ts) h = ≈functor (value*-same σ τ ts h)

  value*-same : (σ τ : Values) (ts : Terms) → ((i : ℕ) → occurs* i ts ≡ true → σ i ≈ τ i) → value* σ ts ≈* value* τ ts
  value*-same σ τ none h = ≈none
  value*-same σ τ (more t ts) h = ≈more (value_same σ τ t (λ i o. h i (or_left (occurs* i ts) o))) (value*-same σ τ ts (λ i o. h i (or_right (occurs i t) o)))

-- an unknown that occurs in a formed term is one of the first n
mutual
  unfolding occurs

  pub occurs_below : {arities : List ℕ} {n : ℕ} {t : Term} → Formed arities n t → (i : ℕ) → occurs i t ≡ true → i < n
  occurs_below (formed_unknown {i = j} l) i o = let e : j ≡ i = eqb-true j i o in omega arith
  occurs_below formed_empty i o = absurd (false≢true o)
  occurs_below (formed_with {m = m} {r = r} f g) i o = or_else (occurs i m) (occurs i r) (λ h. occurs_below f i h) (λ h. occurs_below g i h) o
  occurs_below (formed_functor l c f) i o = occurs*-below f i o

  occurs*-below : {arities : List ℕ} {n : ℕ} {ts : Terms} → Formed* arities n ts → (i : ℕ) → occurs* i ts ≡ true → i < n
  occurs*-below formed_none i o = absurd (false≢true o)
  occurs*-below (formed_more {t = t} {ts = ts} f g) i o = or_else (occurs i t) (occurs* i ts) (λ h. occurs_below f i h) (λ h. occurs*-below g i h) o

pub value-below : {arities : List ℕ} {n : ℕ} (σ τ : Values) {t : Term} → Formed arities n t → ((i : ℕ) → i < n → σ i ≈ τ i) → value σ t ≈ value τ t
value-below σ τ {t} f h = value_same σ τ t (λ i o. h i (occurs_below f i o))

-- a binding that the values meet changes no value
pub value-bound : (σ : Values) (x : ℕ) (s t : Term) → σ x ≈ value σ s → value σ (subst x s t) ≈ value σ t
unfolding given
value-bound σ x s t h = rw (value-subst σ x s t) (value_same (given x (value σ s) σ) σ t (λ i o. go i (eqb i x) refl))
  where
    go : (i : ℕ) (b : Bool) → eqb i x ≡ b → cond b (value σ s) (σ i) ≈ σ i
    go i true e = rw (eqb-true i x e) (≈sym h)
    go i false e = ≈refl

-- a new value for an unknown that is absent changes no value
pub value-given : (σ : Values) (x : ℕ) (v t : Term) → occurs x t ≡ false → value (given x v σ) t ≈ value σ t
unfolding given
value-given σ x v t h = value_same (given x v σ) σ t (λ i o. go i o (eqb i x) refl)
  where
    go : (i : ℕ) → occurs i t ≡ true → (b : Bool) → eqb i x ≡ b → cond b v (σ i) ≈ σ i
    go i o true e = absurd (false≢true (sym h ∙ rw (eqb-true i x e) at o))
    go i o false e = ≈refl

-- equal terms have equal values
mutual
  unfolding value

  pub value-≈ : (σ : Values) {t u : Term} → t ≈ u → value σ t ≈ value σ u
  value-≈ σ absorb = absorb
  value-≈ σ exchange = exchange
  value-≈ σ (≈with h k) = ≈with (value-≈ σ h) (value-≈ σ k)
  value-≈ σ (≈functor h) = ≈functor (value*-≈ σ h)
  value-≈ σ ≈refl = ≈refl
  value-≈ σ (≈sym h) = ≈sym (value-≈ σ h)
  value-≈ σ (≈trans h k) = ≈trans (value-≈ σ h) (value-≈ σ k)

  value*-≈ : (σ : Values) {ts us : Terms} → ts ≈* us → value* σ ts ≈* value* σ us
  value*-≈ σ ≈none = ≈none
  value*-≈ σ (≈more h k) = ≈more (value-≈ σ h) (value*-≈ σ k)

-- a formed term's value is formed, over any extension of the table
count-value : (σ : Values) (ts : Terms) → count (value* σ ts) ≡ count ts
unfolding value count
count-value σ none = refl
count-value σ (more t ts) = ap suc (count-value σ ts)

below : {declared table : List ℕ} {k : ℕ} → Extends declared table → k < length declared → k < length table
below {declared} e l = rw (e.begins, length-append declared e.more_functors) (omega arith)

arity_same : {declared table : List ℕ} {k : ℕ} → Extends declared table → k < length declared → get_or declared k 0 ≡ get_or table k 0
arity_same {declared} {k = k} e l = rw e.begins (sym (get_or-append declared e.more_functors 0 k l))

mutual
  unfolding value

  pub value_formed : {declared table : List ℕ} {m n : ℕ} {σ : Values} → Extends declared table → ((i : ℕ) → i < n → Formed table m (σ i)) → {t : Term}
      → Formed declared n t → Formed table m (value σ t)
  value_formed e h (formed_unknown {i = i} l) = h i l
  value_formed e h formed_empty = formed_empty
  value_formed e h (formed_with f g) = formed_with (value_formed e h f) (value_formed e h g)
  value_formed {declared = d} {σ = σ} e h (formed_functor {k = k} {ts = ts} l c f) =
      formed_functor (below e l) (count-value σ ts ∙ c ∙ arity_same e l) (value*-formed e h f)

  value*-formed : {declared table : List ℕ} {m n : ℕ} {σ : Values} → Extends declared table → ((i : ℕ) → i < n → Formed table m (σ i)) → {ts : Terms}
      → Formed* declared n ts → Formed* table m (value* σ ts)
  value*-formed e h formed_none = formed_none
  value*-formed e h (formed_more f g) = formed_more (value_formed e h f) (value*-formed e h g)
