-- No step loses values: ground values that meet a state go on to one of its children, with a value for its new unknown built from theirs. One
-- lemma for each kind of step; the split's is in `Splitting`, and why a dead end loses nothing in `DeadEnds`. `complete_children` gathers them.
use Prim.Native.Nat.{ℕ, ◌<◌}
use Rattle.std.specs.Prelude.{◌≡◌}
use Rattle.std.proofs.Math.Path.{refl}
use Rattle.std.proofs.Common.{sym, ◌∙◌}
use mathlib.Core.List.{List, [], ◌∷◌}
use Rattle.terms.specs.Lists.{All, Any, none, both, here, All-map, All-both}
use Rattle.terms.specs.Term.{Term, Terms, unknown, more, kernel, over, list}
use Rattle.terms.specs.Term as term
use Rattle.terms.specs.Shape.{arguments}
use Rattle.terms.specs.Formed.{Formed, Equation}
use Rattle.terms.specs.Listing.{Bound}
use Rattle.laws.specs.Laws.{◌≈◌, ◌≈*◌, ≈sym, ≈more}
use Rattle.laws.specs.Values.{Values, value, value*, given, GroundValues, Solves}
use Rattle.laws.proofs.Apart.{functor_parts}
use Rattle.laws.proofs.Members.{absorbed}
use Rattle.laws.specs.ValuesPut.{value-over}
use Rattle.search.specs.declared.steps.Step.{Step}
use Rattle.search.specs.State.{State, Node, Entry, remade, pend, renewed}
use Rattle.search.specs.Classify.{classify}
use Rattle.search.specs.Children.{pairwise, take, joined, join, children_by, children}
use Rattle.search.specs.StepView.{Sided, as_written, turned_round, Stepped, drops_unknown, drops_empty, binds, postpones, decomposes, splits, dead_buried, dead_functors, dead_clash, take_bind, take_postpone}
use Rattle.search.proofs.StepView.{stepped}
use Rattle.search.specs.PileEntries.{All-others}
use Rattle.terms.specs.Lists.{All-first}
use Rattle.answers.specs.Steps.Meaning.{HoldsEntry, HoldsBinding, MeetsState, meets_live}
use Rattle.answers.specs.Steps.StateChanges.{after_added, after-piled}
use Rattle.answers.specs.Steps.Binding.{never_dead, complete_bound}
use Rattle.answers.specs.Steps.PileSays.{joined-members}
use Rattle.answers.specs.Steps.Kept.{FormedEquation, Kept, FormedEntry}
use Rattle.answers.specs.Steps.DeadEnds.{buried_never, clash_never}
use Rattle.answers.specs.Steps.Renewing.{given_other, given_new, line_new, Reaches, stay, renew}
use Rattle.answers.specs.Steps.Splitting.{other_tail, new_apart, complete_split}

-- the state is an answer, or the values go on to one of the nodes
pub data Onward (table : List ℕ) (σ : Values) (st : State) (nodes : List Node) : Type 0 where
  answered : st.pending ≡ [] → st.pile ≡ [] → Onward table σ st nodes
  onward : Any (Reaches table st.next σ) nodes → Onward table σ st nodes

module _ (σ : Values) where
  complete_sided : {x : ℕ} {t l r : Term} → Sided x t l r → value σ l ≈ value σ r → σ x ≈ value σ t
  unfolding value
  complete_sided as_written h = h
  complete_sided (turned_round e) h = ≈sym h

  complete_pairwise : (ts us : Terms) → value* σ ts ≈* value* σ us → Solves σ (pairwise (list ts) (list us))
  unfolding list pairwise value
  complete_pairwise term.none us h = none
  complete_pairwise (more t ts) term.none h = none
  complete_pairwise (more t ts) (more u us) (≈more h hs) = both h (complete_pairwise ts us hs)

  module _ {arities table : List ℕ} (grounded : GroundValues table σ) where
    complete_take : {n : ℕ} {l r : Term} {k : Step} {st : State} → Formed arities st.next l → Formed arities st.next r → Kept arities n st → Stepped l r k
        → value σ l ≈ value σ r → MeetsState σ st → Any (Reaches table st.next σ) (take k l r st)
    unfolding take arguments value kernel
    complete_take f g kept drops_unknown h m = here (stay grounded (meets_live m))
    complete_take f g kept drops_empty h m = here (stay grounded (meets_live m))
    complete_take {st = st} f g kept (binds {x = x} {t = t} {k = k} s o) h m = rw (take_bind k st s) (here (stay grounded (complete_bound σ x t st m (complete_sided s h) o)))
    complete_take {st = st} f g kept (postpones {x = x} {t = t} {k = k} s o) h m = rw (take_postpone k st s) (here (stay grounded (meets_live (after-piled σ x t (complete_sided s h) m))))
    complete_take f g kept (decomposes {ts = ts} {us = us}) h m = here (stay grounded (meets_live (after_added σ (complete_pairwise ts us (functor_parts h).1) m)))
    complete_take f g kept (splits d) h m = complete_split σ f g kept d grounded h m
    complete_take f g kept (dead_buried {x = x} {t = t} s b) h m = absurd (buried_never σ x t b (complete_sided s h))
    complete_take f g kept (dead_functors d) h m = absurd (d (functor_parts h).0)
    complete_take f g kept (dead_clash c) h m = absurd (clash_never σ c h)

    -- the new unknown takes the whole value of the unknown that is bound
    complete_join : (e : Entry) (es : List Entry) (st : State) → All (FormedEntry arities st.next) (e ∷ es) → All (Bound arities st.next) st.bindings
        → All (HoldsEntry σ) (e ∷ es) → All (HoldsBinding σ) st.bindings → Any (Reaches table st.next σ) (join (e ∷ es) st)
    unfolding join renewed value kernel
    complete_join e es st f g h k =
        here (renew grounded (grounded x)
        (complete_bound τ x (over ms N) _ (record { pending = none; pile = All-map (λ d p. p.1) (All-others x pile_met); bindings = bindings-met }) holds
        (never_dead τ x (over ms N) holds (other_tail ms N refl (new_apart below)))))
      where
        x : ℕ
        x = e.name

        ms : List Term
        ms = joined x (e ∷ es)

        N : Term
        N = unknown st.next

        τ : Values
        τ = given st.next (σ x) σ

        below : x < st.next
        below = (All-first f).name

        pile_met : All (HoldsEntry τ) (e ∷ es)
        pile_met = All-map (λ d p. line_new σ st.next (σ x) p.0.name p.0.term p.1) (All-both f h)

        bindings-met : All (HoldsBinding τ) st.bindings
        bindings-met = All-map (λ d p. line_new σ st.next (σ x) p.0.name p.0.value p.1) (All-both g k)

        new_same : τ st.next ≡ τ x
        new_same = given_new st.next (σ x) σ ∙ sym (given_other st.next (σ x) σ x below)

        -- x's value has the joined members already, and so has N's
        holds : τ x ≈ value τ (over ms N)
        holds = rw (value-over τ ms N, new_same) (≈sym (absorbed (τ x) (joined-members τ x f pile_met)))

    complete_by : {n : ℕ} (es : List Equation) (st : State) → Kept arities n (pend es st) → MeetsState σ (pend es st) → Onward table σ (pend es st) (children_by es st)
    unfolding children_by pend
    complete_by [] st kept m = go st.pile kept.pile m.pile
      where
        go : (ns : List Entry) → All (FormedEntry arities st.next) ns → All (HoldsEntry σ) ns → Onward table σ (remade [] ns st.next st) (join ns st)
        go [] f h = answered refl refl
        go (e ∷ es) f h = onward (complete_join e es st f kept.bindings h m.bindings)
    complete_by (e ∷ es) st kept m = go kept.pending m.pending
      where
        go : All (FormedEquation arities st.next) (e ∷ es) → Solves σ (e ∷ es) → Onward table σ (pend (e ∷ es) st) (take (classify e.left e.right) e.left e.right (pend es st))
        go (both f fs) (both h hs) =
            onward (complete_take f.left f.right (record { in_use = kept.in_use; pending = fs; pile = kept.pile; bindings = kept.bindings }) (stepped e.left e.right) h
            (record { pending = hs; pile = m.pile; bindings = m.bindings }))

    -- a state that the values meet is an answer, or they go on to a child
    pub complete_children : {n : ℕ} {st : State} → Kept arities n st → MeetsState σ st → Onward table σ st (children st)
    unfolding children pend
    complete_children {st = st} kept m = complete_by st.pending st kept m
