-- What every child of a state in order is: a dead end, or a state in order with fewer unbound unknowns, or with lighter equations, or, where
-- nothing is pending, with a shorter pile. The names that each may use up are told beside it.
use Rattle.std.specs.Prelude.{ℕ, ◌+◌, suc, ◌≤◌, ◌<◌, ◌≡◌, List, [], ◌∷◌, ◌++◌, Bool, true, false, not, eqb, length}
use Rattle.std.proofs.Common.{ap, ◌∙◌, sym, arith}
use Rattle.std.proofs.lemmas.Bool.{false≢true, not-true}
use Rattle.std.proofs.Math.ListN.{length-append}
use Rattle.std.proofs.Math.Seq.{append_snoc}
use Rattle.terms.specs.Lists.{All, none as All-none, both, any, any→, →any, All-map, All-both, All-append, Any-left, cases}
use Rattle.terms.specs.Term.{Term, unknown, with, size, size*, members, kernel, over, list, occurs, subst}
use Rattle.terms.specs.Shape.{number, arguments}
use Rattle.terms.specs.Laws.Flat.{size_positive}
use Rattle.terms.specs.Formed.{Equation}
use Rattle.terms.specs.Answers.{Binding}
use Rattle.search.specs.declared.steps.Tails.{Tails}
use Rattle.search.specs.declared.steps.Tails.TheVariants.{Different}
use Rattle.search.specs.declared.steps.Step.{Step}
use Rattle.search.specs.State.{State, Node, dead, live, Entry, pend, piled, renewed}
use Rattle.search.specs.Children.{bound_state, bound, then_bound, pile_up, settle, split, pairwise, take}
use Rattle.search.specs.StepView.{Tailed, neither, left, right, different, same, sided_name, sided_term, Stepped, drops_unknown, drops_empty, binds, postpones, decomposes, splits, dead_buried, dead_functors, dead_clash, take_bind, take_postpone, BoundTo, bound_inside, bound_once, bound_to}
use Rattle.invariants.specs.Tally.{tally, tally_fewer, tally-suc}
use Rattle.invariants.proofs.Orderly.{named, named-after, named-last, named_fresh, Usable, UsableSides, Orderly, usable_below, usable_unbound, usable_unknown, usable_members, usable_kernel, usable_arguments, usable_over, usable_renewed, usable_replaced, orderly_pend, orderly_piled, orderly_renewed, orderly_bound}
use Rattle.invariants.specs.Weight.{weight, weights, equation_size, weight-some, weights-replaced, members_fit, kernel-fits, list-fits, list_length}
use Rattle.invariants.specs.SplitPicks.{split_each}

-- does y wait in the pile?
unfoldable pub waits : ℕ → List Entry → Bool
waits y ns = any (λ n. eqb n.name y) ns

-- the unknowns in use that are not bound, and those that wait in the pile
unfoldable pub unbound : State → ℕ
unbound st = tally st.next (λ y. not (named y st.bindings))

unfoldable pub waiting : State → ℕ
waiting st = tally st.next (λ y. waits y st.pile)

pub data Falls (arities : List ℕ) (from : State) : Node → Type 0 where
  ends_dead : Falls arities from dead
  fewer_unbound :
      {st : State}
      → Orderly arities st
      → 0 < weights from.pending
      → unbound st < unbound from
      → st.next + unbound st ≤ from.next + unbound from
      → Falls arities from (live st)
  lighter :
      {st : State}
      → Orderly arities st
      → st.next ≡ from.next
      → unbound st ≡ unbound from
      → weights st.pending < weights from.pending
      → Falls arities from (live st)
  shorter :
      {st : State}
      → Orderly arities st
      → from.pending ≡ []
      → st.pending ≡ []
      → unbound st ≤ unbound from
      → st.next + waiting st ≤ from.next + waiting from
      → length st.pile < length from.pile
      → Falls arities from (live st)

-- ---- bindings

named_more : (y : ℕ) (bs cs : List Binding) → not (named y (bs ++ cs)) ≡ true → not (named y bs) ≡ true
unfolding named
named_more y bs cs e = cases (named y bs) (λ h. absurd (false≢true (sym (not-true _ e) ∙ →any (Any-left cs (any→ _ bs h))))) (λ h. rw h)

pub bound_fewer : {arities : List ℕ} (st : State) (x : ℕ) (t : Term) → Usable arities st.next st.bindings (unknown x) → unbound (bound_state x t st) < unbound st
unfolding unbound bound_state
bound_fewer st x t u =
    tally_fewer st.next x (usable_below u) (ap not (named-last x t st.bindings)) (ap not (usable_unbound u)) (λ y l e. named_more y st.bindings _ e)

pub renewed-more : (st : State) → unbound (renewed st) ≤ suc (unbound st)
unfolding unbound renewed
renewed-more st = tally-suc st.next _

-- the new unknown
pub usable_new : {arities : List ℕ} {st : State} → Orderly arities st → Usable arities (suc st.next) st.bindings (unknown st.next)
usable_new {st = st} o = usable_unknown (omega arith) (named_fresh st.next (omega arith) (All-map (λ m f. f.name) o.bindings))

pairwise-length : (ts us : List Term) → length (pairwise ts us) ≤ length ts
unfolding pairwise
pairwise-length [] us = omega arith
pairwise-length (t ∷ ts) [] = omega arith
pairwise-length (t ∷ ts) (u ∷ us) = omega (arith, pairwise-length ts us)

-- ---- the first pending equation, taken off

-- st is `from` without its first equation, whose size is n + 1
pub record Opened (from st : State) (n : ℕ) : Type 0 where
  pub next : from.next ≡ st.next
  pub unbound : unbound from ≡ unbound st
  pub weight : weights from.pending ≡ weight (suc n) + weights st.pending

module _ {arities : List ℕ} {from st : State} {n : ℕ} (opened : Opened from st n) (o : Orderly arities st) where
  abbrev Use : Term → Type 0
  Use = Usable arities st.next st.bindings

  abbrev Sides : Equation → Type 0
  Sides e = UsableSides arities st.next st.bindings e × (equation_size e ≤ n)

  with_new : {es : List Equation} → All Sides es → Orderly arities (pend (es ++ st.pending) st)
  with_new hs = orderly_pend o (All-append (All-map (λ e h. h.0) hs) o.pending)

  -- an unknown is bound
  falls-bound : {es : List Equation} (x : ℕ) (t : Term) → All Sides es → Use (unknown x) → Use t → Falls arities from (bound x t (pend (es ++ st.pending) st))
  unfolding pend unbound bound_state
  falls-bound {es} x t hs u v = go (bound_to x t (pend (es ++ st.pending) st))
    where
      go : {k : Node} → BoundTo x t (pend (es ++ st.pending) st) k → Falls arities from k
      go (bound_inside e) = ends_dead
      go (bound_once e) =
          let l = bound_fewer (pend (es ++ st.pending) st) x t u in
          fewer_unbound (orderly_bound x e (with_new hs) u v) (omega (arith, weight-some (suc n))) (omega arith) (omega arith)

  -- only equations change
  falls_lighter : {es : List Equation} → All Sides es → length es ≤ suc n → Falls arities from (live (pend (es ++ st.pending) st))
  unfolding pend unbound
  falls_lighter hs l = lighter (with_new hs) (omega arith) (omega arith) (omega (arith, weights-replaced n st.pending l (All-map (λ e h. h.1) hs)))

  -- an entry more in the pile, if it has a member
  falls-piled : {es : List Equation} (x : ℕ) {ms : List Term} → Use (unknown x) → All Use ms → All Sides es → length es ≤ suc n
      → Falls arities from (live (pile_up (unknown x) ms (pend (es ++ st.pending) st)))
  unfolding pile_up number pend piled unbound
  falls-piled x u All-none hs l = falls_lighter hs l
  falls-piled x u (both h ks) hs l =
      lighter (orderly_piled x (with_new hs) u (usable_over (both h ks) u)) (omega arith) (omega arith) (omega (arith, weights-replaced n st.pending l (All-map (λ e h. h.1) hs)))

  falls-postponed : (x : ℕ) {t : Term} → Use (unknown x) → Use t → Falls arities from (live (piled x t st))
  unfolding piled unbound
  falls-postponed x u v = lighter (orderly_piled x o u v) (omega arith) (omega arith) (omega (arith, weight-some (suc n)))

  -- two unknowns are bound, and one is new
  falls-twice : {es : List Equation} (x y : ℕ) {T U : List Term} → (x ≡ y → ⊥) → Use (unknown x) → Use (unknown y) → All Use T → All Use U → All Sides es
      → Falls arities from (settle Different (unknown x) (unknown y) T U es st)
  unfolding settle number then_bound renewed pend bound_state unbound
  falls-twice {es} x y {T} {U} d ux uy hT hU hs = first (bound_to x for_x begun)
    where
      begun : State
      begun = renewed (pend (es ++ st.pending) st)

      for_x : Term
      for_x = over U (unknown st.next)

      for_y : Term
      for_y = subst x for_x (over T (unknown st.next))

      filled : {ms : List Term} → All Use ms → Usable arities (suc st.next) st.bindings (over ms (unknown st.next))
      filled hs = usable_over (All-map (λ m h. usable_renewed h) hs) (usable_new o)

      second : (e : occurs x for_x ≡ false) {k : Node} → BoundTo y for_y (bound_state x for_x begun) k → Falls arities from k
      second e (bound_inside _) = ends_dead
      second e (bound_once e') =
          let u : Usable arities (suc st.next) (st.bindings ++ (record { name = x; value = for_x } ∷ [])) (unknown y) =
          usable_unknown (usable_below (usable_renewed uy)) (named-after y x for_x st.bindings (λ h. d (sym h)) (usable_unbound uy)) in
          let l = bound_fewer begun x for_x (usable_renewed ux) in
          let m = bound_fewer (bound_state x for_x begun) y for_y u in
          let r = renewed-more (pend (es ++ st.pending) st) in
          fewer_unbound
          (orderly_bound y e' (orderly_bound x e (orderly_renewed (with_new hs)) (usable_renewed ux) (filled hU)) u (usable_replaced x e (filled hU) (filled hT)))
          (omega (arith, weight-some (suc n))) (omega arith) (omega arith)

      first : {k : Node} → BoundTo x for_x begun k → Falls arities from (then_bound y for_y k)
      first (bound_inside e) = ends_dead
      first (bound_once e) = second e (bound_to y for_y (bound_state x for_x begun))

  falls-settled : {k : Tails} {s r : Term} (T U : List Term) {es : List Equation} → Tailed s r k → Use s → Use r → size s + size r ≤ n → All Use T → All Use U
      → All Sides es → length es ≤ n
      → Falls arities from (settle k s r T U es st)
  unfolding settle number
  falls-settled T U {es} (neither {s = s} {r = r} _ _) us ur l hT hU hs f =
      let last : Equation = record { left = s; right = r } in
      rw (append_snoc es last st.pending) at
      (falls_lighter (All-append hs (both (record { left = us; right = ur }, l) All-none)) (omega (arith, length-append es (last ∷ []))))
  falls-settled T U (left {x = x} {r = r} _) us ur l hT hU hs f = falls-bound x (over U r) hs us (usable_over hU ur)
  falls-settled T U (right {s = s} {y = y} _) us ur l hT hU hs f = falls-bound y (over T s) hs ur (usable_over hT us)
  falls-settled T U (different {x = x} {y = y} d) us ur l hT hU hs f = falls-twice x y d us ur hT hU hs
  falls-settled T U (same {x = x}) us ur l hT hU hs f = falls-piled x us (All-append hT hU) hs (omega arith)

  falls-split : {k : Tails} (t u : Term) → Tailed (kernel t) (kernel u) k → size t + size u ≡ suc n → 0 < length (members t) → 0 < length (members u) → Use t
      → Use u → All (Falls arities from) (split k t u st)
  falls-split {k} t u w z lt lu ut uu =
      split_each {R = λ m. Use m × (size m < size t)} {S = λ m. Use m × (size m < size u)} {P = Sides}
      (λ m m' g h. (record { left = g.0; right = h.0 }, omega arith)) k t u st
      (All-both (usable_members ut) (members_fit t)) (All-both (usable_members uu) (members_fit u))
      (λ T U es c. falls-settled T U w (usable_kernel ut) (usable_kernel uu) (omega (arith, kernel-fits t, kernel-fits u))
      (All-map (λ m h. h.0) c.joining_r) (All-map (λ m h. h.0) c.joining_s) c.new
      (omega (arith, c.few, kernel-fits t, kernel-fits u, size_positive (kernel t), size_positive (kernel u))))

  pairwise_each : (A B : ℕ) {ts us : List Term} → A + B ≤ n → All (λ t. Use t × (size t ≤ A)) ts → All (λ u. Use u × (size u ≤ B)) us → All Sides (pairwise ts us)
  unfolding pairwise
  pairwise_each A B l All-none ks = All-none
  pairwise_each A B l (both h hs) All-none = All-none
  pairwise_each A B l (both {x = t} h hs) (both {x = u} k ks) = both {x = record { left = t; right = u }} (record { left = h.0; right = k.0 }, omega arith) (pairwise_each A B l hs ks)

  pub falls-taken : {k : Step} {t u : Term} → Stepped t u k → size t + size u ≡ suc n → Use t → Use u → All (Falls arities from) (take k t u st)
  unfolding take arguments size pend kernel members
  falls-taken drops_unknown z ut uu = both (falls_lighter All-none (omega arith)) All-none
  falls-taken drops_empty z ut uu = both (falls_lighter All-none (omega arith)) All-none
  falls-taken (binds {x = x} {t = t} {k = k} s a) z ut uu = rw (take_bind k st s) (both (falls-bound x t All-none (sided_name Use s ut uu) (sided_term Use s ut uu)) All-none)
  falls-taken (postpones {x = x} {t = t} {k = k} s a) z ut uu = rw (take_postpone k st s) (both (falls-postponed x (sided_name Use s ut uu) (sided_term Use s ut uu)) All-none)
  falls-taken (decomposes {ts = ts} {us = us}) z ut uu =
      both
      (falls_lighter (pairwise_each (size* ts) (size* us) (omega arith) (All-both (usable_arguments ut) (list-fits ts)) (All-both (usable_arguments uu) (list-fits us)))
      (omega (arith, pairwise-length (list ts) (list us), list_length ts)))
      All-none
  falls-taken (splits {m = m} {r = r} {n = m'} {s = r'} w) z ut uu = falls-split (with m r) (with m' r') w z (omega arith) (omega arith) ut uu
  falls-taken (dead_buried s b) z ut uu = both ends_dead All-none
  falls-taken (dead_functors d) z ut uu = both ends_dead All-none
  falls-taken (dead_clash c) z ut uu = both ends_dead All-none
