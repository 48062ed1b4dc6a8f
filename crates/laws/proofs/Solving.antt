-- Values that solve a question: the test agrees with the laws, only the values of the question's own unknowns count, and how ground values
-- are made: from a row of ground terms, by giving one unknown a new value, and of the parts of ground terms.
use Rattle.std.specs.Prelude.{ℕ, suc, zero, ◌<◌, ◌≡◌, List, [], ◌∷◌, Bool, true, false, cond, ◌↔◌, eqb, get_or}
use Rattle.terms.specs.Lists.{All, none as All-none, both, all→, →all, All-map}
use Rattle.terms.specs.Term.{Term, empty}
use Rattle.terms.specs.Formed.{Formed, formed_empty, Ground, Equation, sides}
use Rattle.laws.specs.Laws.{◌≈◌, ≈sym, ≈trans}
use Rattle.laws.proofs.Agree.{agree}
use Rattle.laws.specs.Values.{Values, value, given, in_order, GroundValues, Holds, Solves, holds_test, solves_test}
use Rattle.laws.specs.ValuesPut.{value-below}

pub holds_agree : (σ : Values) (e : Equation) → Holds σ e ↔ (holds_test σ e ≡ true)
unfolding holds_test
holds_agree σ e = agree (value σ e.left) (value σ e.right)

pub solves_agree : (σ : Values) (es : List Equation) → Solves σ es ↔ (solves_test σ es ≡ true)
unfolding solves_test
solves_agree σ es = (λ h. →all (All-map (λ e. (holds_agree σ e).0) h), λ h. All-map (λ e. (holds_agree σ e).1) (all→ (holds_test σ) es h))

-- only the first n unknowns' values count where the sides are formed over n unknowns
pub solves_below : {arities : List ℕ} {n : ℕ} (σ τ : Values) (es : List Equation) → All (Formed arities n) (sides es) → ((i : ℕ) → i < n → σ i ≈ τ i) → Solves σ es → Solves τ es
unfolding sides
solves_below σ τ [] f h All-none = All-none
solves_below σ τ (e ∷ es) (both l (both r f)) h (both k ks) = both (≈trans (≈sym (value-below σ τ l h)) (≈trans k (value-below σ τ r h))) (solves_below σ τ es f h ks)

pub ground_given : {table : List ℕ} (x : ℕ) {v : Term} {σ : Values} → Ground table v → GroundValues table σ → GroundValues table (given x v σ)
unfolding given
ground_given {table} x {v} {σ} g h i = go (eqb i x)
  where
    go : (b : Bool) → Ground table (cond b v (σ i))
    go true = g
    go false = h i

pub ground_in_order : {table : List ℕ} {vs : List Term} → All (Ground table) vs → GroundValues table (in_order vs)
unfolding in_order
ground_in_order {table} h i = go h i
  where
    go : {vs : List Term} → All (Ground table) vs → (i : ℕ) → Ground table (get_or vs i empty)
    go All-none i = formed_empty
    go (both h hs) zero = h
    go (both h hs) (suc i) = go hs i
