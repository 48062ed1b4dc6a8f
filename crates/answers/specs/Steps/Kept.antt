-- What every state of a search keeps: its terms are formed over the question's functors and the unknowns in use, each entry of the pile has its
-- own unknown as tail, and unknowns once in use stay in use. `kept-children` hands it from a state to its children.
use Prim.Native.Nat.{ℕ, suc, ◌<◌, ◌≤◌}
use Rattle.std.specs.Prelude.{◌≡◌, Bool, cond, eqb}
use mathlib.Core.List.{List, [], ◌∷◌, ◌++◌}
use Rattle.std.proofs.Math.Bool.{true, false}
use Rattle.std.proofs.Math.Nat.{le_refl}
use native.Mathlib.Omega.{arith}
use Rattle.terms.specs.Lists.{All, none, both, All-map, All-append, All_of_map, All_of_flat_map, Any-out, Any_with}
use Rattle.terms.specs.Term.{Term, unknown, with, occurs, kernel, over}
use Rattle.terms.specs.Shape.{number, arguments}
use Rattle.terms.specs.Formed.{Formed, formed_unknown, formed_functor, Equation}
use Rattle.terms.specs.Laws.Substitution.{formed_wider, formed_subst}
use Rattle.terms.specs.Answers.{Binding}
use Rattle.terms.specs.Listing.{Bound}
use Rattle.terms.specs.Laws.FormedParts.{formed_members, formed_kernel, formed_over, formed_list, unknown_below}
use Rattle.laws.proofs.Members.{kernel-over}
use Rattle.search.specs.declared.steps.Tails.{Tails}
use Rattle.search.specs.declared.steps.Step.{Step}
use Rattle.search.specs.State.{State, Node, dead, live, Entry, pend, piled, renewed}
use Rattle.search.specs.Children.{replace_in, released, kept, bound_state, bound, then_bound, Pick, new_equations, pile_up, settle, pairwise, take, joined, without, join, children_by, children}
use Rattle.search.specs.StepView.{Tailed, neither, left, right, different, same, Sided, Stepped, drops_unknown, drops_empty, binds, postpones, decomposes, splits, dead_buried, dead_functors, dead_clash, sided_name, sided_term, take_bind, take_postpone}
use Rattle.search.proofs.StepView.{stepped}
use Rattle.search.specs.PileEntries.{All-entries, All-others}
use Rattle.answers.specs.Steps.Picks.{Chosen, no_choice, choice, Picks, picks_one, picks_tail, split-all, joining-all}
use Rattle.answers.specs.Steps.Forming.{kernel-subst}
use Rattle.std.proofs.Common.{ne_eqb}

pub record FormedEquation (arities : List ℕ) (n : ℕ) (e : Equation) : Type 0 where
  pub left : Formed arities n e.left
  pub right : Formed arities n e.right

-- an entry of the pile
pub record FormedEntry (arities : List ℕ) (n : ℕ) (x : Entry) : Type 0 where
  pub name : x.name < n
  pub term : Formed arities n x.term
  pub tail : kernel x.term ≡ unknown x.name

-- the first n unknowns are in use
pub record Kept (arities : List ℕ) (n : ℕ) (st : State) : Type 0 where
  pub in_use : n ≤ st.next
  pub pending : All (FormedEquation arities st.next) st.pending
  pub pile : All (FormedEntry arities st.next) st.pile
  pub bindings : All (Bound arities st.next) st.bindings

pub data KeptNode (arities : List ℕ) (n : ℕ) : Node → Type 0 where
  kept_dead : KeptNode arities n dead
  kept_live : {st : State} → Kept arities n st → KeptNode arities n (live st)

above : {i n : ℕ} → i < n → i < suc n
above h = omega arith

module _ {arities : List ℕ} where
  pub bound_wider : {n m : ℕ} → n ≤ m → (x : Binding) → Bound arities n x → Bound arities m x
  bound_wider h x f = record { name = omega arith; value = formed_wider h f.value }

  -- members over a new unknown
  over_new : {n : ℕ} {ms : List Term} → All (Formed arities n) ms → Formed arities (suc n) (over ms (unknown n))
  over_new {n} f = let h : n ≤ suc n = omega arith in formed_over (All-map (λ t. formed_wider h) f) (formed_unknown (le_refl (suc n)))

  -- ---- parts of a state

  kept-pend : {n : ℕ} {es : List Equation} {st : State} → All (FormedEquation arities st.next) es → Kept arities n st → Kept arities n (pend es st)
  unfolding pend
  kept-pend h k = record { in_use = k.in_use; pending = h; pile = k.pile; bindings = k.bindings }

  kept-piled : {n x : ℕ} {t : Term} {st : State} → x < st.next → Formed arities st.next t → kernel t ≡ unknown x → Kept arities n st → Kept arities n (piled x t st)
  unfolding piled
  kept-piled l f e k =
      record { in_use = k.in_use; pending = k.pending; pile = All-append k.pile (both (record { name = l; term = f; tail = e }) none); bindings = k.bindings }

  kept-renewed : {n : ℕ} {st : State} → Kept arities n st → Kept arities (suc st.next) (renewed st)
  unfolding renewed
  kept-renewed {st = st} k =
      let h : st.next ≤ suc st.next = omega arith in
      record {
        in_use = le_refl (suc st.next);
        pending = All-map (λ e f. record { left = formed_wider h f.left; right = formed_wider h f.right }) k.pending;
        pile = All-map (λ x f. record { name = omega arith; term = formed_wider h f.term; tail = f.tail }) k.pile;
        bindings = All-map (bound_wider h) k.bindings;
      }

  pub kept_weaken : {n m : ℕ} {node : Node} → n ≤ m → KeptNode arities m node → KeptNode arities n node
  kept_weaken h kept_dead = kept_dead
  kept_weaken h (kept_live {st = st} k) = kept_live {st = st} (record { in_use = omega arith; pending = k.pending; pile = k.pile; bindings = k.bindings })

  -- ---- a binding

  kept_entry : {n : ℕ} (x : ℕ) {t : Term} → Formed arities n t → (e : Entry) → eqb e.name x ≡ false → FormedEntry arities n e → FormedEntry arities n (kept x t e)
  unfolding kept
  kept_entry x {t} f e ne k =
      record { name = k.name; term = formed_subst x t f k.term; tail = kernel-subst x t e.term ne k.tail }

  kept-bound_state : {n x : ℕ} {t : Term} {st : State} → x < st.next → Formed arities st.next t → Kept arities n st → Kept arities n (bound_state x t st)
  unfolding bound_state replace_in released kept
  kept-bound_state {x = x} {t} {st} l f k =
      record {
        in_use = k.in_use;
        pending = All-append (All_of_map (replace_in x t) (λ e g. record { left = formed_subst x t f g.left; right = formed_subst x t f g.right }) k.pending)
            (All_of_map (released x t) (λ n p. record { left = f; right = formed_subst x t f p.1.term }) (All-entries x k.pile));
        pile = All_of_map (kept x t) (λ n p. kept_entry x f n (ne_eqb n.name x p.0) p.1) (All-others x k.pile);
        bindings = All-append k.bindings (both (record { name = l; value = f }) none);
      }

  kept-bound : {n x : ℕ} {t : Term} {st : State} → x < st.next → Formed arities st.next t → Kept arities n st → KeptNode arities n (bound x t st)
  unfolding bound
  kept-bound {n} {x} {t} {st} l f k = go (occurs x t)
    where
      go : (c : Bool) → KeptNode arities n (cond c dead (live (bound_state x t st)))
      go true = kept_dead
      go false = kept_live (kept-bound_state l f k)

  kept-then_bound : {n x : ℕ} {t : Term} {node : Node} → x < n → Formed arities n t → KeptNode arities n node → KeptNode arities n (then_bound x t node)
  unfolding then_bound
  kept-then_bound l f kept_dead = kept_dead
  kept-then_bound l f (kept_live k) = kept-bound (omega arith) (formed_wider k.in_use f) k

  -- ---- a split

  formed_picks : {n : ℕ} {pair : Term → Term → Equation} {tail : Bool} {us ts : List Term} {ps : List Pick}
      → ((t u : Term) → Formed arities n t → Formed arities n u → FormedEquation arities n (pair t u)) → All (Formed arities n) us → All (Formed arities n) ts
      → Chosen (Picks pair tail us) ts ps → All (FormedEquation arities n) (new_equations ps)
  unfolding new_equations
  formed_picks f hu h no_choice = none
  formed_picks {n = n} f hu (both h hs) (choice {x = t} (picks_one {o = u} a) c) = both (f t u h (Any-out (λ z p. rw p.1 p.0) (Any_with hu a))) (formed_picks f hu hs c)
  formed_picks f hu (both h hs) (choice (picks_tail e) c) = formed_picks f hu hs c

  kept-pile_up : {n x : ℕ} (ms : List Term) {st : State} → x < st.next → All (Formed arities st.next) ms → Kept arities n st → Kept arities n (pile_up (unknown x) ms st)
  unfolding pile_up number kernel
  kept-pile_up [] l f k = k
  kept-pile_up {x = x} (m ∷ ms) l f k = kept-piled l (formed_over f (formed_unknown l)) (kernel-over (m ∷ ms) (unknown x)) k

  module _ {n : ℕ} {st : State} {T U : List Term} {es : List Equation} (fT : All (Formed arities st.next) T) (fU : All (Formed arities st.next) U)
      (fes : All (FormedEquation arities st.next) es) (k : Kept arities n st) where
    kept_added : Kept arities n (pend (es ++ st.pending) st)
    kept_added = kept-pend (All-append fes k.pending) k

    kept-settle : {s r : Term} {tails : Tails} → Formed arities st.next s → Formed arities st.next r → Tailed s r tails → KeptNode arities n (settle tails s r T U es st)
    unfolding settle number pend renewed
    kept-settle fs fr (neither a b) = kept_live (kept-pend (All-append fes (both (record { left = fs; right = fr }) k.pending)) k)
    kept-settle fs fr (left b) = kept-bound (unknown_below fs) (formed_over fU fr) kept_added
    kept-settle fs fr (right a) = kept-bound (unknown_below fr) (formed_over fT fs) kept_added
    kept-settle fs fr (different {x = x} {y = y} d) =
        kept_weaken (omega arith)
        (kept-then_bound (above (unknown_below fr)) (formed_subst x (over U (unknown st.next)) (over_new fU) (over_new fT))
        (kept-bound (above (unknown_below fs)) (over_new fU) (kept-renewed kept_added)))
    kept-settle fs fr same = kept_live (kept-pile_up (T ++ U) (unknown_below fs) (All-append fT fU) kept_added)

  -- ---- a step

  formed_pairwise : {n : ℕ} {ts us : List Term} → All (Formed arities n) ts → All (Formed arities n) us → All (FormedEquation arities n) (pairwise ts us)
  unfolding pairwise
  formed_pairwise none h = none
  formed_pairwise (both g gs) none = none
  formed_pairwise (both g gs) (both h hs) = both (record { left = g; right = h }) (formed_pairwise gs hs)

  -- x = t, whichever side they stand on
  kept_sided : {m x : ℕ} {t l r : Term} → Sided x t l r → Formed arities m l → Formed arities m r → (x < m) × Formed arities m t
  kept_sided {m} s f g = (unknown_below (sided_name (Formed arities m) s f g), sided_term (Formed arities m) s f g)

  kept-take : {n : ℕ} {l r : Term} {k : Step} {st : State} → Formed arities st.next l → Formed arities st.next r → Stepped l r k → Kept arities n st
      → All (KeptNode arities n) (take k l r st)
  unfolding take arguments kernel
  kept-take f g drops_unknown h = both (kept_live h) none
  kept-take f g drops_empty h = both (kept_live h) none
  kept-take {st = st} f g (binds {k = k} s o) h = let p = kept_sided s f g in rw (take_bind k st s) (both (kept-bound p.0 p.1 h) none)
  kept-take {st = st} f g (postpones {k = k} s o) h = let p = kept_sided s f g in rw (take_postpone k st s) (both (kept_live (kept-piled p.0 p.1 o.tail h)) none)
  kept-take (formed_functor l c f) (formed_functor l' c' g) decomposes h = both (kept_live (kept-pend (All-append (formed_pairwise (formed_list f) (formed_list g)) h.pending) h)) none
  kept-take {st = st} f g (splits {m = m} {r = r} {n = n} {s = s} {k = k} d) h =
      let ts = formed_members f in
      let us = formed_members g in
      split-all k (with m r) (with n s) st
      (λ ps qs c e.
      kept-settle (joining-all c ts) (joining-all e us)
      (All-append (formed_picks (λ t u a b. record { left = a; right = b }) us ts c) (formed_picks (λ t u a b. record { left = b; right = a }) ts us e)) h (formed_kernel f) (formed_kernel g) d)
  kept-take f g (dead_buried s b) h = both kept_dead none
  kept-take f g (dead_functors d) h = both kept_dead none
  kept-take f g (dead_clash c) h = both kept_dead none

  kept-join : {n : ℕ} (ns : List Entry) (st : State) → All (FormedEntry arities st.next) ns → Kept arities n st → All (KeptNode arities n) (join ns st)
  unfolding join renewed joined
  kept-join [] st f k = none
  kept-join {n = n} (e ∷ es) st (both f fs) k =
      both (kept_weaken {m = suc st.next} (omega arith) (kept-bound (above f.name) (over_new joined_formed) (kept-renewed rest))) none
    where
      rest : Kept arities n (without e.name (e ∷ es) st)
      rest = record { in_use = k.in_use; pending = none; pile = All-map (λ x p. p.1) (All-others e.name (both f fs)); bindings = k.bindings }

      joined_formed : All (Formed arities st.next) (joined e.name (e ∷ es))
      joined_formed = All_of_flat_map _ (λ x p. formed_members p.1.term) (All-entries e.name (both f fs))

  kept_by : {n : ℕ} (es : List Equation) (st : State) → All (FormedEquation arities st.next) es → Kept arities n st → All (KeptNode arities n) (children_by es st)
  unfolding children_by pend
  kept_by [] st f k = kept-join st.pile st k.pile k
  kept_by (e ∷ es) st (both f fs) k = kept-take f.left f.right (stepped e.left e.right) (kept-pend fs k)

  pub kept-children : {n : ℕ} {st : State} → Kept arities n st → All (KeptNode arities n) (children st)
  unfolding children
  kept-children {st = st} k = kept_by st.pending st k.pending k
