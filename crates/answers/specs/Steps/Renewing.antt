-- A value for a new unknown changes nothing that a state says, since its terms are formed over the unknowns in use. How values go on from a state
-- to a node: the same values, or with one for the new unknown.
use Rattle.std.specs.Prelude.{ℕ, ◌<◌, ◌≡◌, refl, List}
use Rattle.std.proofs.Common.{eq-eqb, ne_eqb, arith}
use Rattle.terms.specs.Lists.{All-map, All-both}
use Rattle.terms.specs.Term.{Term}
use Rattle.terms.specs.Formed.{Formed, Ground, Equation}
use Rattle.terms.specs.Laws.Substitution.{absent_above}
use Rattle.laws.specs.Laws.{◌≈◌, ≈sym, ≈trans}
use Rattle.laws.specs.Values.{Values, value, given, GroundValues, Holds}
use Rattle.laws.specs.ValuesPut.{value-given}
use Rattle.laws.proofs.Solving.{ground_given}
use Rattle.search.specs.State.{State, Node}
use Rattle.answers.specs.Steps.Meaning.{MeetsState, MeetsNode}
use Rattle.answers.specs.Steps.Kept.{FormedEquation, Kept}

pub given_other : (x : ℕ) (v : Term) (σ : Values) (i : ℕ) → i < x → given x v σ i ≡ σ i
unfolding given
given_other x v σ i h = rw (ne_eqb i x (λ e. omega arith))

pub given_new : (x : ℕ) (v : Term) (σ : Values) → given x v σ x ≡ v
unfolding given
given_new x v σ = rw (eq-eqb x x refl)

-- it changes nothing that the state says
module _ {arities : List ℕ} (σ : Values) (n : ℕ) (v : Term) where
  value_new : {t : Term} → Formed arities n t → value (given n v σ) t ≈ value σ t
  value_new {t} f = value-given σ n v t (absent_above n (omega arith) f)

  pub holds_new : (e : Equation) → FormedEquation arities n e → Holds σ e → Holds (given n v σ) e
  holds_new e f h = ≈trans (value_new f.left) (≈trans h (≈sym (value_new f.right)))

  -- an entry or a binding
  pub line_new : {x : ℕ} {t : Term} → x < n → Formed arities n t → σ x ≈ value σ t → given n v σ x ≈ value (given n v σ) t
  line_new {x} l f h = rw (given_other n v σ x l) (≈trans h (≈sym (value_new f)))

pub meets_new : {arities : List ℕ} {n : ℕ} (σ : Values) (v : Term) {st : State} → Kept arities n st → MeetsState σ st → MeetsState (given st.next v σ) st
meets_new σ v {st} k m =
    record {
      pending = All-map (λ e p. holds_new σ st.next v e p.0 p.1) (All-both k.pending m.pending);
      pile = All-map (λ e p. line_new σ st.next v p.0.name p.0.term p.1) (All-both k.pile m.pile);
      bindings = All-map (λ e p. line_new σ st.next v p.0.name p.0.value p.1) (All-both k.bindings m.bindings);
    }

-- values that meet a node and are σ's on the first n unknowns, ground over the same table
pub record Reaches (table : List ℕ) (n : ℕ) (σ : Values) (node : Node) : Type 0 where
  pub values : Values
  pub grounded : GroundValues table values
  pub same : (i : ℕ) → i < n → values i ≡ σ i
  pub meets : MeetsNode values node

-- the same values, or one more
pub stay : {table : List ℕ} {n : ℕ} {σ : Values} {node : Node} → GroundValues table σ → MeetsNode σ node → Reaches table n σ node
stay {σ = σ} g m = record { values = σ; grounded = g; same = λ i l. refl; meets = m }

pub renew : {table : List ℕ} {n : ℕ} {σ : Values} {v : Term} {node : Node} → GroundValues table σ → Ground table v → MeetsNode (given n v σ) node → Reaches table n σ node
renew {n = n} {σ} {v} g f m = record { values = given n v σ; grounded = ground_given n f g; same = given_other n v σ; meets = m }
