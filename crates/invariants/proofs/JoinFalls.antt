-- The pile's turn: with nothing pending, the join of the first entry's unknown gives a dead end, or a state in order with a shorter pile, nothing
-- pending and one waiting unknown less. With `Falling`, this says what every child of a state in order is.
use Rattle.std.specs.Prelude.{ℕ, ◌+◌, ◌-◌, suc, ◌≤◌, ◌<◌, ◌≡◌, refl, Bool, true, false, cond, ◌||◌, eqb}
use Rattle.std.proofs.Math.Path.{ap}
use Rattle.std.proofs.Common.{◌∙◌, sym, eq-eqb, ne_eqb}
use mathlib.Core.List.{List, [], ◌∷◌, map}
use Rattle.std.proofs.Math.ListN.{length, length-map}
use native.Mathlib.Omega.{arith}
use Rattle.terms.specs.Lists.{All, none as All-none, both, any, All-map, All_of_flat_map, cases, or_left, or_right, or_else}
use Rattle.terms.specs.Term.{Term, unknown, members, over}
use Rattle.terms.specs.Laws.Flat.{size_positive}
use Rattle.terms.specs.Formed.{Equation}
use Rattle.search.specs.State.{State, Node, Entry, pend, renewed}
use Rattle.search.specs.Children.{others, kept, bound_state, joined, without, join, children_by, children}
use Rattle.search.specs.StepView.{BoundTo, bound_inside, bound_once, bound_to}
use Rattle.search.proofs.StepView.{stepped}
use Rattle.search.specs.PileEntries.{entries-others, All-entries, All-others}
use Rattle.invariants.specs.Tally.{tally_fewer, tally-refused}
use Rattle.invariants.proofs.Orderly.{Usable, UsableEntry, UsableSides, Orderly, usable_below, usable_members, usable_over, usable_renewed, orderly_pend, orderly_renewed, orderly_bound}
use Rattle.invariants.specs.Weight.{weight, weights, equation_size}
use Rattle.invariants.proofs.Falling.{waits, unbound, waiting, Falls, ends_dead, shorter, bound_fewer, renewed-more, usable_new, falls-taken}

-- ---- the entries of x, and the others

others-length : (x : ℕ) (ns : List Entry) → length (others x ns) ≤ length ns
unfolding others
others-length x [] = omega arith
others-length x (n ∷ ns) = cases (eqb n.name x) (λ e. rw e (omega (arith, others-length x ns))) (λ e. rw e (omega (arith, others-length x ns)))

waits-others : (x y : ℕ) (ns : List Entry) → waits y (others x ns) ≡ true → waits y ns ≡ true
unfolding waits others any
waits-others x y [] e = e
waits-others x y (n ∷ ns) e = go (eqb n.name x) (λ h. waits-others x y ns h) e
  where
    go : (c : Bool) → (waits y (others x ns) ≡ true → waits y ns ≡ true) → waits y (cond c (others x ns) (n ∷ others x ns)) ≡ true → waits y (n ∷ ns) ≡ true
    go true h e = or_right (eqb n.name y) (h e)
    go false h e = or_else (eqb n.name y) (waits y (others x ns)) (λ p. or_left (waits y ns) p) (λ p. or_right (eqb n.name y) (h p)) e

waits_kept : (x : ℕ) (t : Term) (y : ℕ) (ns : List Entry) → waits y (map (kept x t) ns) ≡ waits y ns
unfolding waits kept any
waits_kept x t y [] = refl
waits_kept x t y (n ∷ ns) = ap (λ c. eqb n.name y || c) (waits_kept x t y ns)

waits-first : (n : Entry) (ns : List Entry) → waits n.name (n ∷ ns) ≡ true
unfolding waits any
waits-first n ns = or_left (waits n.name ns) (eq-eqb n.name n.name refl)

-- names apart from y
waits_apart : (y : ℕ) {ns : List Entry} → All (λ n. n.name ≡ y → ⊥) ns → waits y ns ≡ false
unfolding waits any
waits_apart y All-none = refl
waits_apart y (both {x = n} d ds) = rw (ne_eqb n.name y d) (waits_apart y ds)

joined_each : {P : Term → Type 0} (x : ℕ) {ns : List Entry} → All (λ n. All P (members n.term)) ns → All P (joined x ns)
unfolding joined
joined_each x hs = All_of_flat_map _ (λ n h. h.1) (All-entries x hs)

-- ---- the join

-- the term that n's unknown is bound to, and the state then
abbrev value : State → Entry → List Entry → Term
value st n ns = over (joined n.name (n ∷ ns)) (unknown st.next)

abbrev after : State → Entry → List Entry → State
after st n ns = bound_state n.name (value st n ns) (renewed (without n.name (n ∷ ns) st))

module _ {arities : List ℕ} (st : State) (n : Entry) (ns : List Entry) (o : Orderly arities st) (is : st.pile ≡ n ∷ ns) where
  entries_usable : All (UsableEntry arities st.next st.bindings) (n ∷ ns)
  entries_usable = rw is at o.pile

  name_usable : Usable arities st.next st.bindings (unknown n.name)
  name_usable = go entries_usable
    where
      go : All (UsableEntry arities st.next st.bindings) (n ∷ ns) → Usable arities st.next st.bindings (unknown n.name)
      go (both h hs) = h.name

  value_usable : Usable arities (suc st.next) st.bindings (value st n ns)
  value_usable = usable_over (joined_each n.name (All-map (λ m h. usable_members (usable_renewed h.term)) entries_usable)) (usable_new o)

  -- what stays in the pile, each apart from the unknown
  others_usable : All (λ m. (m.name ≡ n.name → ⊥) × UsableEntry arities st.next st.bindings m) (others n.name (n ∷ ns))
  others_usable = All-others n.name entries_usable

  rest_orderly : Orderly arities (without n.name (n ∷ ns) st)
  rest_orderly = record { pending = All-none; pile = All-map (λ m h. h.1) others_usable; bindings = o.bindings; solved = o.solved }

  after_pending : (after st n ns).pending ≡ []
  unfolding bound_state renewed
  after_pending = rw (entries-others n.name (n ∷ ns))

  others_fewer : length (others n.name (n ∷ ns)) ≤ length ns
  unfolding others
  others_fewer = rw (eq-eqb n.name n.name refl) (others-length n.name ns)

  after_pile : length (after st n ns).pile < length st.pile
  unfolding bound_state renewed
  after_pile =
      let left : List Entry = others n.name (n ∷ ns) in
      omega (arith, length-map (others n.name left) (kept n.name (value st n ns)), others-length n.name left, others_fewer, ap length is)

  waits-after-join : (y : ℕ) → waits y (after st n ns).pile ≡ waits y (others n.name (others n.name (n ∷ ns)))
  unfolding bound_state renewed
  waits-after-join y = waits_kept n.name (value st n ns) y (others n.name (others n.name (n ∷ ns)))

  after-waiting : suc st.next + waiting (after st n ns) ≤ st.next + waiting st
  unfolding waiting bound_state renewed
  after-waiting =
      let left : List Entry = others n.name (n ∷ ns) in
      let used : All (λ m. (m.name ≡ n.name → ⊥) × ((m.name ≡ n.name → ⊥) × UsableEntry arities st.next st.bindings m)) (others n.name left) = All-others n.name others_usable in
      omega (
        arith,
        tally-refused st.next (λ y. waits y (after st n ns).pile) (waits-after-join st.next ∙ waits_apart st.next (All-map (λ m h e. omega (arith, usable_below h.1.1.name)) used)),
        tally_fewer st.next {p = λ y. waits y (after st n ns).pile} {q = λ y. waits y st.pile} n.name (usable_below name_usable)
            (waits-after-join n.name ∙ waits_apart n.name (All-map (λ m h. h.0) used)) (ap (λ l. waits n.name l) is ∙ waits-first n ns)
            (λ y l e. ap (λ l. waits y l) is ∙ waits-others n.name y (n ∷ ns) (waits-others n.name y left (sym (waits-after-join y) ∙ e))),
      )

  after-unbound : unbound (after st n ns) ≤ unbound st
  unfolding renewed unbound
  after-unbound = omega (arith, bound_fewer (renewed (without n.name (n ∷ ns) st)) n.name (value st n ns) (usable_renewed name_usable), renewed-more (without n.name (n ∷ ns) st))

  falls-joined : st.pending ≡ [] → All (Falls arities st) (join (n ∷ ns) st)
  unfolding join renewed bound_state
  falls-joined nothing = both (go (bound_to n.name (value st n ns) (renewed (without n.name (n ∷ ns) st)))) All-none
    where
      go : {k : Node} → BoundTo n.name (value st n ns) (renewed (without n.name (n ∷ ns) st)) k → Falls arities st k
      go (bound_inside e) = ends_dead
      go (bound_once e) =
          shorter (orderly_bound n.name e (orderly_renewed rest_orderly) (usable_renewed name_usable) value_usable) nothing after_pending after-unbound after-waiting after_pile

-- ---- every child

falls_pile : {arities : List ℕ} (st : State) (ns : List Entry) → Orderly arities st → st.pending ≡ [] → st.pile ≡ ns → All (Falls arities st) (join ns st)
unfolding join
falls_pile st [] o e is = All-none
falls_pile st (n ∷ ns) o e is = falls-joined st n ns o is e

falls_pending : {arities : List ℕ} (st : State) (e : Equation) (es : List Equation) → Orderly arities st → st.pending ≡ e ∷ es → All (Falls arities st) (children_by (e ∷ es) st)
unfolding children_by pend unbound weights
falls_pending {arities} st e es o is = go (rw is at o.pending) (equation_size e - 1) (omega (arith, size_positive e.left, size_positive e.right))
  where
    go : All (UsableSides arities st.next st.bindings) (e ∷ es) → (n : ℕ) → equation_size e ≡ suc n → All (Falls arities st) (children_by (e ∷ es) st)
    go (both u us) n z =
        falls-taken {from = st} {st = pend es st} {n = n} (record { next = refl; unbound = refl; weight = ap weights is ∙ ap (λ k. weight k + weights es) z })
        (orderly_pend o us) (stepped e.left e.right) z u.left u.right

pub children_fall : {arities : List ℕ} (st : State) → Orderly arities st → All (Falls arities st) (children st)
unfolding children children_by
children_fall {arities} st o = go st.pending refl
  where
    go : (es : List Equation) → st.pending ≡ es → All (Falls arities st) (children_by es st)
    go [] e = falls_pile st st.pile o e refl
    go (e ∷ es) is = falls_pending st e es o is
