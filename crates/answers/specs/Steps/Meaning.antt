-- What a state says: values meet it when its pending equations, its pile's entries and its bindings all hold under them. A dead end is met
-- by none.
use Rattle.std.specs.Prelude.{◌≡◌, List, map}
use Rattle.std.proofs.Common.{ap, sym, ◌∙◌}
use Rattle.terms.specs.Lists.{All}
use Rattle.terms.specs.Term.{Term, members, kernel, over}
use Rattle.terms.specs.Answers.{Binding}
use Rattle.laws.specs.Laws.{◌≈◌}
use Rattle.laws.specs.Values.{Values, value, Solves}
use Rattle.laws.proofs.Members.{rebuild}
use Rattle.laws.specs.ValuesPut.{value-over}
use Rattle.search.specs.State.{State, Node, dead, live, Entry}

-- an entry of the pile or a binding: the unknown's value equals the term's
abbrev pub HoldsEntry : Values → Entry → Type 0
HoldsEntry σ n = σ n.name ≈ value σ n.term

abbrev pub HoldsBinding : Values → Binding → Type 0
HoldsBinding σ n = σ n.name ≈ value σ n.value

pub record MeetsState (σ : Values) (st : State) : Type 0 where
  pub pending : Solves σ st.pending
  pub pile : All (HoldsEntry σ) st.pile
  pub bindings : All (HoldsBinding σ) st.bindings

pub data MeetsNode (σ : Values) : Node → Type 0 where
  meets_live : {st : State} → MeetsState σ st → MeetsNode σ (live st)

pub of_live : {σ : Values} {st : State} {A : Type 0} → (MeetsState σ st → A) → MeetsNode σ (live st) → A
of_live f (meets_live m) = f m

pub of_dead : {σ : Values} {A : Type 0} → MeetsNode σ dead → A
of_dead m = elim m [ ]

-- a term's value, by its members and its kernel
pub written : (σ : Values) (t : Term) → value σ t ≡ over (map (value σ) (members t)) (value σ (kernel t))
written σ t = ap (value σ) (sym (rebuild t)) ∙ value-over σ (members t) (kernel t)

-- members over a term, by their values
pub over-values : (σ : Values) {x : Term} (ms : List Term) (k : Term) → x ≈ value σ (over ms k) → x ≈ over (map (value σ) ms) (value σ k)
over-values σ ms k h = rw (value-over σ ms k) at h

pub values-over : (σ : Values) {x : Term} (ms : List Term) (k : Term) {vs : List Term} → map (value σ) ms ≡ vs → x ≈ over vs (value σ k) → x ≈ value σ (over ms k)
values-over σ ms k e h = rw (value-over σ ms k, e) h
