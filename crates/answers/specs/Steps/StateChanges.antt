-- What values say of a state before and after one of its small changes: equations added in front, an entry put on the pile, a new unknown
-- in use, members piled up.
use Rattle.std.specs.Prelude.{ℕ}
use Rattle.std.proofs.Math.Path.{refl}
use mathlib.Core.List.{List, [], ◌∷◌, ◌++◌, map}
use Rattle.terms.specs.Lists.{none, both, All-append, All-front, All-back}
use Rattle.terms.specs.Term.{Term, unknown, over}
use Rattle.terms.specs.Shape.{number}
use Rattle.terms.specs.Formed.{Equation}
use Rattle.laws.specs.Laws.{◌≈◌, ≈refl}
use Rattle.laws.specs.Values.{Values, value, Solves}
use Rattle.search.specs.State.{State, pend, piled, renewed}
use Rattle.search.specs.Children.{pile_up}
use Rattle.terms.specs.Lists.{All-first}
use Rattle.answers.specs.Steps.Meaning.{MeetsState, over-values, values-over}

module _ (σ : Values) where
  pub before_added : {es : List Equation} {st : State} → MeetsState σ (pend (es ++ st.pending) st) → Solves σ es × MeetsState σ st
  unfolding pend
  before_added {es} {st} m =
      (All-front es st.pending m.pending, record { pending = All-back es st.pending m.pending; pile = m.pile; bindings = m.bindings })

  pub before-piled : (x : ℕ) (t : Term) {st : State} → MeetsState σ (piled x t st) → (σ x ≈ value σ t) × MeetsState σ st
  unfolding piled
  before-piled x t {st} m = (All-first (All-back st.pile _ m.pile), record { pending = m.pending; pile = All-front st.pile _ m.pile; bindings = m.bindings })

  pub before-renewed : {st : State} → MeetsState σ (renewed st) → MeetsState σ st
  unfolding renewed
  before-renewed m = record { pending = m.pending; pile = m.pile; bindings = m.bindings }

  pub before-pile_up : {x : ℕ} (ms : List Term) {st : State} → MeetsState σ (pile_up (unknown x) ms st) → (σ x ≈ over (map (value σ) ms) (σ x)) × MeetsState σ st
  unfolding pile_up number over value
  before-pile_up [] m = (≈refl, m)
  before-pile_up {x} (t ∷ ts) m = let p = before-piled x (over (t ∷ ts) (unknown x)) m in (over-values σ (t ∷ ts) (unknown x) p.0, p.1)

  pub after_added : {es : List Equation} {st : State} → Solves σ es → MeetsState σ st → MeetsState σ (pend (es ++ st.pending) st)
  unfolding pend
  after_added h m = record { pending = All-append h m.pending; pile = m.pile; bindings = m.bindings }

  pub after-piled : (x : ℕ) (t : Term) {st : State} → σ x ≈ value σ t → MeetsState σ st → MeetsState σ (piled x t st)
  unfolding piled
  after-piled x t h m = record { pending = m.pending; pile = All-append m.pile (both h none); bindings = m.bindings }

  pub after-renewed : {st : State} → MeetsState σ st → MeetsState σ (renewed st)
  unfolding renewed
  after-renewed m = record { pending = m.pending; pile = m.pile; bindings = m.bindings }

  pub after-pile_up : {x : ℕ} (ms : List Term) {st : State} → σ x ≈ over (map (value σ) ms) (σ x) → MeetsState σ st → MeetsState σ (pile_up (unknown x) ms st)
  unfolding pile_up number value
  after-pile_up [] h m = m
  after-pile_up {x} (t ∷ ts) h m = after-piled x (over (t ∷ ts) (unknown x)) (values-over σ (t ∷ ts) (unknown x) refl h) m
