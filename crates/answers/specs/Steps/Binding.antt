-- A binding of x to t: values meet the state after it exactly if they meet the state before it and give x the value of t. Where x would
-- occur in what it is bound to, the node is dead; the values then give x no such value (`never_dead`).
use Rattle.std.specs.Prelude.{ℕ, ◌≡◌, refl, Bool, true, cond, ◌⊎◌, eqb}
use mathlib.Core.List.{List, [], ◌∷◌, map}
use Rattle.std.proofs.Math.Bool.{false}
use Rattle.std.proofs.Common.{inl, inr, eqb-true}
use Rattle.terms.specs.Lists.{All, none, both, cases, All-map, All-append, All-front, All-back, All_of_map}
use Rattle.terms.specs.Term.{Term, unknown, occurs, subst, kernel}
use Rattle.terms.specs.Formed.{Equation}
use Rattle.laws.specs.Laws.{◌≈◌, ≈sym, ≈trans}
use Rattle.laws.specs.Values.{Values, value, Holds}
use Rattle.laws.specs.ValuesPut.{value-bound}
use Rattle.laws.proofs.Rank.{occurs_inside, occurs_cases, not_inside_itself}
use Rattle.search.specs.State.{State, Node, dead, live, Entry}
use Rattle.search.specs.Children.{replace_in, entries, others, released, kept, bound_state, bound, then_bound}
use Rattle.search.specs.PileEntries.{All-entries, All-others}
use Rattle.terms.specs.Lists.{All-first, All_unmap}
use Rattle.answers.specs.Steps.Meaning.{HoldsEntry, MeetsState, MeetsNode, meets_live}

-- what all entries of x have and all others have, the whole pile has
pub of_the_pile : {P : Entry → Type 0} (x : ℕ) (ns : List Entry) → All (λ n. n.name ≡ x → P n) (entries x ns) → All P (others x ns) → All P ns
unfolding entries others
of_the_pile x [] h k = none
of_the_pile {P} x (n ∷ ns) h k = go (eqb n.name x) refl (λ ps qs. of_the_pile x ns ps qs) h k
  where
    go : (c : Bool) → eqb n.name x ≡ c → (All (λ n. n.name ≡ x → P n) (entries x ns) → All P (others x ns) → All P ns)
        → All (λ n. n.name ≡ x → P n) (cond c (n ∷ entries x ns) (entries x ns)) → All P (cond c (others x ns) (n ∷ others x ns)) → All P (n ∷ ns)
    go true e f (both p ps) qs = both (p (eqb-true _ _ e)) (f ps qs)
    go false e f ps (both q qs) = both q (f ps qs)

module _ (σ : Values) (x : ℕ) (t : Term) where
  -- before and after, where x's value is t's
  module _ (h : σ x ≈ value σ t) where
    replaced : (u : Term) → value σ (subst x t u) ≈ value σ u
    replaced u = value-bound σ x t u h

    equation-before : (e : Equation) → Holds σ (replace_in x t e) → Holds σ e
    unfolding replace_in
    equation-before e k = ≈trans (≈sym (replaced e.left)) (≈trans k (replaced e.right))

    equation-after : (e : Equation) → Holds σ e → Holds σ (replace_in x t e)
    unfolding replace_in
    equation-after e k = ≈trans (replaced e.left) (≈trans k (≈sym (replaced e.right)))

    entry-before : (n : Entry) → n.name ≡ x → Holds σ (released x t n) → HoldsEntry σ n
    unfolding released
    entry-before n e k = rw e (≈trans h (≈trans k (replaced n.term)))

    entry-after : (n : Entry) → (n.name ≡ x) × HoldsEntry σ n → Holds σ (released x t n)
    unfolding released
    entry-after n p = ≈trans (≈sym h) (≈trans (rw p.0 at p.1) (≈sym (replaced n.term)))

    other_before : (n : Entry) → HoldsEntry σ (kept x t n) → HoldsEntry σ n
    unfolding kept
    other_before n k = ≈trans k (replaced n.term)

    other_after : (n : Entry) → HoldsEntry σ n → HoldsEntry σ (kept x t n)
    unfolding kept
    other_after n k = ≈trans k (≈sym (replaced n.term))

    bound-after : (st : State) → MeetsState σ st → MeetsState σ (bound_state x t st)
    unfolding bound_state
    bound-after st m =
        record {
          pending = All-append (All_of_map (replace_in x t) equation-after m.pending) (All_of_map (released x t) entry-after (All-entries x m.pile));
          pile = All_of_map (kept x t) (λ n p. other_after n p.1) (All-others x m.pile);
          bindings = All-append m.bindings (both h none);
        }

  bound-last : (st : State) → MeetsState σ (bound_state x t st) → σ x ≈ value σ t
  unfolding bound_state
  bound-last st m = All-first (All-back st.bindings _ m.bindings)

  bound-before : (st : State) → MeetsState σ (bound_state x t st) → (σ x ≈ value σ t) × MeetsState σ st
  unfolding bound_state
  bound-before st m =
      let h : σ x ≈ value σ t = bound-last st m in
      let es : List Equation = map (replace_in x t) st.pending in (
        h,
        record {
          pending = All-map (equation-before h) (All_unmap (replace_in x t) st.pending (All-front es _ m.pending));
          pile = of_the_pile x st.pile
              (All-map (λ n k e. entry-before h n e k) (All_unmap (released x t) (entries x st.pile) (All-back es _ m.pending)))
              (All-map (other_before h) (All_unmap (kept x t) (others x st.pile) m.pile));
          bindings = All-front st.bindings _ m.bindings;
        },
      )

  -- of nodes, each way
  pub sound_bound : (st : State) → MeetsNode σ (bound x t st) → (σ x ≈ value σ t) × MeetsState σ st
  unfolding bound
  sound_bound st = go (occurs x t)
    where
      go : (c : Bool) → MeetsNode σ (cond c dead (live (bound_state x t st))) → (σ x ≈ value σ t) × MeetsState σ st
      go true x'' = elim x'' [ ]
      go false (meets_live m) = bound-before st m

  -- x is bound to its value's equal, and is not the tail of what it is bound to
  pub never_dead : σ x ≈ value σ t → (kernel t ≡ unknown x → ⊥) → occurs x t ≡ false
  never_dead h k = cases (occurs x t) (λ o. absurd (go (occurs_cases x t o))) (λ o. o)
    where
      go : (occurs_inside x t ≡ true) ⊎ (kernel t ≡ unknown x) → ⊥
      go (inl o) = not_inside_itself σ x t o h
      go (inr e) = k e

  pub complete_bound : (st : State) → MeetsState σ st → σ x ≈ value σ t → occurs x t ≡ false → MeetsNode σ (bound x t st)
  unfolding bound
  complete_bound st m h o = rw o (meets_live (bound-after h st m))

pub sound_then_bound : (σ : Values) (x : ℕ) (t : Term) (node : Node) → MeetsNode σ (then_bound x t node) → (σ x ≈ value σ t) × MeetsNode σ node
unfolding then_bound
sound_then_bound σ x t dead m = elim m [ ]
sound_then_bound σ x t (live st) m = let p = sound_bound σ x t st m in (p.0, meets_live p.1)

pub complete_then_bound : (σ : Values) (x : ℕ) (t : Term) (node : Node) → MeetsNode σ node → σ x ≈ value σ t → occurs x t ≡ false → MeetsNode σ (then_bound x t node)
unfolding then_bound
complete_then_bound σ x t dead m h o = elim m [ ]
complete_then_bound σ x t (live st) (meets_live m) h o = complete_bound σ x t st m h o
