-- Every step is sound: values that meet a child meet its state. One lemma for each kind of step; the five kinds of tails of a split share
-- `sound_different` of the laws, which speaks of members and kernels. `sound_children` gathers them.
use Prim.Native.Nat.{ℕ}
use Rattle.std.specs.Prelude.{◌≡◌, Bool, false, ◌⊎◌}
use Rattle.std.proofs.Math.Path.{sym}
use Rattle.std.proofs.Common.{◌∙◌, arith}
use mathlib.Core.List.{List, [], ◌∷◌, ◌++◌, map, map-append}
use Rattle.terms.specs.Lists.{All, none, both, All-map, All-front, All-back, All_of_map}
use Rattle.terms.specs.Term.{Term, Terms, unknown, with, more, members, kernel, over, list, count}
use Rattle.terms.specs.Term as term
use Rattle.terms.specs.Shape.{is_unknown, number, arguments}
use Rattle.terms.specs.Formed.{Formed, formed_functor, Equation}
use Rattle.laws.specs.Laws.{◌≈◌, ◌≈*◌, ≈refl, ≈sym, ≈trans, ≈functor, ≈none, ≈more, In, Within}
use Rattle.laws.specs.Values.{Values, value, value*, Solves}
use Rattle.laws.proofs.Members.{within_self}
use Rattle.laws.specs.ValuesPut.{value-bound}
use Rattle.laws.proofs.Tails.{sound_different, sound_same}
use Rattle.search.specs.declared.steps.Tails.{Tails}
use Rattle.search.specs.declared.steps.Step.{Step}
use Rattle.search.specs.State.{State, Node, Entry, pend, renewed}
use Rattle.search.specs.Children.{bound, Pick, new_equations, joining, settle, split, pairwise, take, joined, without, join, children_by, children}
use Rattle.search.specs.StepView.{Tailed, neither, left, right, different, same, Sided, as_written, turned_round, Stepped, drops_unknown, drops_empty, binds, postpones, decomposes, splits, dead_buried, dead_functors, dead_clash, take_bind, take_postpone}
use Rattle.search.proofs.StepView.{stepped}
use Rattle.terms.specs.Lists.{All_unmap}
use Rattle.answers.specs.Steps.Meaning.{HoldsEntry, HoldsBinding, MeetsState, MeetsNode, meets_live, of_live, of_dead, written, over-values}
use Rattle.answers.specs.Steps.StateChanges.{before_added, before-piled, before-renewed, before-pile_up}
use Rattle.answers.specs.Steps.Binding.{of_the_pile, sound_bound, sound_then_bound}
use Rattle.answers.specs.Steps.Picks.{Chosen, Picks, t_first, t_second, split-all, sound_each, joining-all, no_tail}
use Rattle.answers.specs.Steps.PileSays.{has_members, entries-met}
use Rattle.answers.specs.Steps.Kept.{FormedEquation, Kept, FormedEntry}

-- T and U, picked among the members ts and us, and what the picks say where their equations es hold
record Choice (σ : Values) (ts us T U : List Term) (es : List Equation) : Type 0 where
  T_inside : Within (map (value σ) T) (map (value σ) ts)
  U_inside : Within (map (value σ) U) (map (value σ) us)
  each_t : Solves σ es → All (λ v. In v (map (value σ) us) ⊎ In v (map (value σ) T)) (map (value σ) ts)
  each_u : Solves σ es → All (λ v. In v (map (value σ) ts) ⊎ In v (map (value σ) U)) (map (value σ) us)

module _ (σ : Values) where
  -- what a child says of the equation that was taken, and of the rest of the state
  abbrev Says : Term → Term → State → Node → Type 0
  Says l r st node = MeetsNode σ node → (value σ l ≈ value σ r) × MeetsState σ st

  -- ---- a split

  -- a tail that none picked
  unpicked : {U : List Term} (n : Term) {s : Term} → U ≡ [] → s ≈ n → s ≈ over (map (value σ) U) n
  unfolding over
  unpicked n e h = rw e h

  module _ {ts us T U : List Term} {es : List Equation} {st : State} (c : Choice σ ts us T U es) where
    -- tails that are T and U over one term
    over-one : {s r : Term} (n : Term) → s ≈ over (map (value σ) U) n → r ≈ over (map (value σ) T) n → Solves σ es × MeetsState σ st
        → (over (map (value σ) ts) s ≈ over (map (value σ) us) r) × MeetsState σ st
    over-one n hs hr p = (sound_different n c.T_inside c.U_inside (c.each_t p.0) (c.each_u p.0) hs hr, p.1)

    sound_settle : {s r : Term} {k : Tails} → (is_unknown r ≡ false → T ≡ []) → (is_unknown s ≡ false → U ≡ []) → Tailed s r k → MeetsNode σ (settle k s r T U es st)
        → (over (map (value σ) ts) (value σ s) ≈ over (map (value σ) us) (value σ r)) × MeetsState σ st
    unfolding settle number value pend
    sound_settle {s} {r} noT noU (neither a b) (meets_live m) = go (All-back es _ m.pending)
      where
        go : Solves σ (record { left = s; right = r } ∷ st.pending) → (over (map (value σ) ts) (value σ s) ≈ over (map (value σ) us) (value σ r)) × MeetsState σ st
        go (both h hs) =
            over-one (value σ r) (unpicked (value σ r) (noU a) h) (unpicked (value σ r) (noT b) ≈refl)
            (All-front es _ m.pending, record { pending = hs; pile = m.pile; bindings = m.bindings })
    sound_settle noT noU (left {x = x} {r = r} b) m =
        let p = sound_bound σ x (over U r) _ m in over-one (value σ r) (over-values σ U r p.0) (unpicked (value σ r) (noT b) ≈refl) (before_added σ p.1)
    sound_settle noT noU (right {s = s} {y = y} a) m =
        let p = sound_bound σ y (over T s) _ m in over-one (value σ s) (unpicked (value σ s) (noU a) ≈refl) (over-values σ T s p.0) (before_added σ p.1)
    sound_settle noT noU (different {x = x} {y = y} d) m =
        let N : Term = unknown st.next in
        let p = sound_then_bound σ y _ _ m in
        let q = sound_bound σ x (over U N) _ p.1 in
        over-one (σ st.next) (over-values σ U N q.0) (over-values σ T N (≈trans p.0 (value-bound σ x (over U N) (over T N) q.0))) (before_added σ (before-renewed σ q.1))
    sound_settle noT noU (same {x = x}) (meets_live m) =
        let p = before-pile_up σ (T ++ U) m in
        let q : Solves σ es × MeetsState σ st = before_added σ p.1 in
        (sound_same (σ x) c.T_inside c.U_inside (c.each_t q.0) (c.each_u q.0) (rw (map-append (value σ) T U) at p.0), q.1)

  chosen : {t_tail u_tail : Bool} {ts us : List Term} {ps qs : List Pick} → Chosen (Picks t_first t_tail us) ts ps → Chosen (Picks t_second u_tail ts) us qs
      → Choice σ ts us (joining ps) (joining qs) (new_equations ps ++ new_equations qs)
  chosen {ps = ps} {qs = qs} c d =
      record {
        T_inside = inside c;
        U_inside = inside d;
        each_t = λ h. sound_each σ t_first (λ t u k. k) c (All-front (new_equations ps) (new_equations qs) h);
        each_u = λ h. sound_each σ t_second (λ u t k. ≈sym k) d (All-back (new_equations ps) (new_equations qs) h);
      }
    where
      inside : {pair : Term → Term → Equation} {tail : Bool} {us ts : List Term} {ps : List Pick} → Chosen (Picks pair tail us) ts ps → Within (map (value σ) (joining ps)) (map (value σ) ts)
      inside {ts = ts} c = All_of_map (value σ) (λ t h. h) (joining-all c (All_unmap (value σ) ts (within_self (map (value σ) ts))))

  sound_split : (t u : Term) {k : Tails} {st : State} → Tailed (kernel t) (kernel u) k → All (Says t u st) (split k t u st)
  sound_split t u {k} {st} d =
      split-all k t u st (λ ps qs c e m. rw (written σ t, written σ u) (sound_settle (chosen c e) (λ f. no_tail f c) (λ f. no_tail f e) d m))

  -- ---- the other steps

  sound_sided : {x : ℕ} {t l r : Term} → Sided x t l r → σ x ≈ value σ t → value σ l ≈ value σ r
  unfolding value
  sound_sided as_written h = h
  sound_sided (turned_round e) h = ≈sym h

  sound_pairwise : (ts us : Terms) → count ts ≡ count us → Solves σ (pairwise (list ts) (list us)) → value* σ ts ≈* value* σ us
  unfolding list pairwise value count
  sound_pairwise term.none term.none e h = ≈none
  sound_pairwise term.none (more u us) e h = absurd (omega arith)
  sound_pairwise (more t ts) term.none e h = absurd (omega arith)
  sound_pairwise (more t ts) (more u us) e (both h hs) = ≈more h (sound_pairwise ts us (omega arith) hs)

  sound_take : {arities : List ℕ} {n : ℕ} {l r : Term} {k : Step} {st : State} → Formed arities n l → Formed arities n r → Stepped l r k → All (Says l r st) (take k l r st)
  unfolding take arguments value kernel
  sound_take f g drops_unknown = both (of_live (λ m. (≈refl, m))) none
  sound_take f g drops_empty = both (of_live (λ m. (≈refl, m))) none
  sound_take {st = st} f g (binds {x = x} {t = t} {k = k} s o) = rw (take_bind k st s) (both (λ m. let p = sound_bound σ x t st m in (sound_sided s p.0, p.1)) none)
  sound_take {st = st} f g (postpones {x = x} {t = t} {k = k} s o) = rw (take_postpone k st s) (both (of_live (λ m. let p = before-piled σ x t m in (sound_sided s p.0, p.1))) none)
  sound_take (formed_functor {ts = ts} l c f) (formed_functor {ts = us} l' c' g) decomposes =
      both (of_live (λ m. let p = before_added σ m in (≈functor (sound_pairwise ts us (c ∙ sym c') p.0), p.1))) none
  sound_take f g (splits {m = m} {r = r} {n = n} {s = s} d) = sound_split (with m r) (with n s) d
  sound_take f g (dead_buried s b) = both of_dead none
  sound_take f g (dead_functors d) = both of_dead none
  sound_take f g (dead_clash c) = both of_dead none

  -- nothing pending: the entries of one unknown are joined
  sound_join : {arities : List ℕ} {n : ℕ} (ns : List Entry) (st : State) → All (FormedEntry arities n) ns
      → All (λ node. MeetsNode σ node → All (HoldsEntry σ) ns × All (HoldsBinding σ) st.bindings) (join ns st)
  unfolding join renewed
  sound_join [] st f = none
  sound_join (e ∷ es) st f = both go none
    where
      x : ℕ
      x = e.name

      ms : List Term
      ms = joined x (e ∷ es)

      N : Term
      N = unknown st.next

      go : MeetsNode σ (bound x (over ms N) (renewed (without x (e ∷ es) st)))
          → All (HoldsEntry σ) (e ∷ es) × All (HoldsBinding σ) st.bindings
      go m =
          let p = sound_bound σ x (over ms N) _ m in
          let inside : Within (map (value σ) ms) (members (σ x)) = has_members (map (value σ) ms) (value σ N) (over-values σ ms N p.0) in
          (of_the_pile x (e ∷ es) (entries-met σ x f inside) p.1.pile, p.1.bindings)

  sound_by : {arities : List ℕ} {n : ℕ} (es : List Equation) (st : State) → All (FormedEquation arities n) es → All (FormedEntry arities n) st.pile
      → All (λ node. MeetsNode σ node → MeetsState σ (pend es st)) (children_by es st)
  unfolding children_by pend
  sound_by [] st f g = All-map (λ node h m. let p = h m in record { pending = none; pile = p.0; bindings = p.1 }) (sound_join st.pile st g)
  sound_by (e ∷ es) st (both f fs) g =
      All-map (λ node h m. let p = h m in record { pending = both p.0 p.1.pending; pile = p.1.pile; bindings = p.1.bindings })
      (sound_take f.left f.right (stepped e.left e.right))

  pub sound_children : {arities : List ℕ} {n : ℕ} {st : State} → Kept arities n st → All (λ node. MeetsNode σ node → MeetsState σ st) (children st)
  unfolding children pend
  sound_children {st = st} k = sound_by st.pending st k.pending k.pile
