-- A state in order: its equations and its pile mention no unknown that is bound, its bindings are in solved form, and all is formed over the
-- unknowns in use. Then what each change of a state keeps of this; the children's turn is in `Falling`.
use Rattle.std.specs.Prelude.{ℕ, suc, ◌≤◌, ◌<◌, ◌≡◌, refl, List, [], ◌∷◌, ◌++◌, Bool, true, false, eqb}
use Rattle.std.proofs.Common.{ap, ◌∙◌, sym, arith}
use Rattle.std.proofs.lemmas.Bool.{false≢true}
use borrow.Author.Tests.{eqb-true, eq-eqb, ne_eqb}
use Rattle.terms.specs.Lists.{All, Any, none as All-none, both, here, there, any, →any, All-map, All-both, All-append, All_self, All_of_map, cases, or_neither}
use Rattle.terms.specs.Term.{Term, Terms, unknown, functor, members, kernel, over, list, occurs, subst}
use Rattle.terms.specs.Formed.{Formed, formed_unknown, formed_functor, Equation}
use Rattle.terms.specs.Answers.{Binding}
use Rattle.terms.specs.Laws.FormedParts.{formed_members, formed_kernel, formed_over, formed_list, unknown_below}
use Rattle.terms.specs.Laws.Substitution.{formed_wider, formed_subst}
use Rattle.terms.specs.Listing.{Bound}
use Rattle.search.specs.State.{State, Entry, pend, piled, renewed}
use Rattle.search.specs.Children.{replace_in, released, kept, bound_state}
use Rattle.search.specs.PileEntries.{All-entries, All-others}
use Rattle.invariants.specs.Occurring.{Put, from_put, from_other, members-within, kernel-within, list-within, over_each, occurs_subst}
use Rattle.invariants.specs.SolvedForm.{Solved, nothing_bound, first_bound}

-- ---- what is asked

-- is y bound by one of these?
unfoldable pub named : ℕ → List Binding → Bool
named y ns = any (λ n. eqb n.name y) ns

-- a term that may stand in an equation: formed over the first n unknowns, with no unknown that bs binds
pub record Usable (arities : List ℕ) (n : ℕ) (bs : List Binding) (t : Term) : Type 0 where
  pub formed : Formed arities n t
  pub unbound : (y : ℕ) → occurs y t ≡ true → named y bs ≡ false

pub record UsableSides (arities : List ℕ) (n : ℕ) (bs : List Binding) (e : Equation) : Type 0 where
  pub left : Usable arities n bs e.left
  pub right : Usable arities n bs e.right

pub record UsableEntry (arities : List ℕ) (n : ℕ) (bs : List Binding) (m : Entry) : Type 0 where
  pub name : Usable arities n bs (unknown m.name)
  pub term : Usable arities n bs m.term

pub record Orderly (arities : List ℕ) (st : State) : Type 0 where
  pub pending : All (UsableSides arities st.next st.bindings) st.pending
  pub pile : All (UsableEntry arities st.next st.bindings) st.pile
  pub bindings : All (Bound arities st.next) st.bindings
  pub solved : Solved st.bindings

-- ---- the names of bindings

-- a binding more names its own unknown and no other
pub named-after : (y x : ℕ) (t : Term) (bs : List Binding) → (y ≡ x → ⊥) → named y bs ≡ false → named y (bs ++ (record { name = x; value = t } ∷ [])) ≡ false
unfolding named any
named-after y x t [] d e = rw (ne_eqb x y (λ h. d (sym h)))
named-after y x t (b ∷ bs) d e =
    let p = or_neither (eqb b.name y) (named y bs) e in
    rw p.0 (named-after y x t bs d p.1)

pub named-last : (x : ℕ) (t : Term) (bs : List Binding) → named x (bs ++ (record { name = x; value = t } ∷ [])) ≡ true
unfolding named
named-last x t bs = →any (go bs)
  where
    go : (bs : List Binding) → Any (λ n. eqb n.name x ≡ true) (bs ++ (record { name = x; value = t } ∷ []))
    go [] = here (eq-eqb x x refl)
    go (b ∷ bs) = there (go bs)

-- each binding is named by its own unknown
named_each : (bs : List Binding) → All (λ n. named n.name bs ≡ true) bs
unfolding named
named_each bs = All-map (λ n h. →any h) (All_self (each bs))
  where
    each : (bs : List Binding) → All (λ n. eqb n.name n.name ≡ true) bs
    each [] = All-none
    each (b ∷ bs) = both (eq-eqb b.name b.name refl) (each bs)

-- an unknown that is not yet in use names no binding
pub named_fresh : {n : ℕ} {bs : List Binding} (y : ℕ) → n ≤ y → All (λ m. m.name < n) bs → named y bs ≡ false
unfolding named any
named_fresh y l All-none = refl
named_fresh y l (both {x = b} h hs) = rw (ne_eqb b.name y (λ e. omega arith)) (named_fresh y l hs)

-- ---- usable terms

module _ {arities : List ℕ} {n : ℕ} {bs : List Binding} where
  pub usable_below : {x : ℕ} → Usable arities n bs (unknown x) → x < n
  usable_below u = unknown_below u.formed

  pub usable_unbound : {x : ℕ} → Usable arities n bs (unknown x) → named x bs ≡ false
  unfolding occurs
  usable_unbound {x} u = u.unbound x (eq-eqb x x refl)

  pub usable_unknown : {x : ℕ} → x < n → named x bs ≡ false → Usable arities n bs (unknown x)
  unfolding occurs
  usable_unknown {x} l e = record { formed = formed_unknown l; unbound = λ y o. rw (← eqb-true x y o) e }

  pub usable_members : {t : Term} → Usable arities n bs t → All (Usable arities n bs) (members t)
  usable_members {t} u =
      All-map (λ m h. record { formed = h.0; unbound = λ y o. u.unbound y (h.1 y o) }) (All-both (formed_members u.formed) (members-within t))

  pub usable_kernel : {t : Term} → Usable arities n bs t → Usable arities n bs (kernel t)
  usable_kernel {t} u = record { formed = formed_kernel u.formed; unbound = λ y o. u.unbound y (kernel-within t y o) }

  pub usable_arguments : {k : ℕ} {ts : Terms} → Usable arities n bs (functor k ts) → All (Usable arities n bs) (list ts)
  unfolding occurs
  usable_arguments {k} {ts} u = go u.formed
    where
      go : Formed arities n (functor k ts) → All (Usable arities n bs) (list ts)
      go (formed_functor l e f) = All-map (λ t h. record { formed = h.0; unbound = λ y o. u.unbound y (h.1 y o) }) (All-both (formed_list f) (list-within ts))

  pub usable_over : {ms : List Term} {k : Term} → All (Usable arities n bs) ms → Usable arities n bs k → Usable arities n bs (over ms k)
  usable_over {k = k} us u =
      record {
        formed = formed_over (All-map (λ m h. h.formed) us) u.formed;
        unbound = over_each k (All-map (λ m h. h.unbound) us) u.unbound;
      }

  pub usable_renewed : {t : Term} → Usable arities n bs t → Usable arities (suc n) bs t
  usable_renewed u = record { formed = formed_wider (omega arith) u.formed; unbound = u.unbound }

  -- what stays usable when x is bound to s
  module _ (x : ℕ) {s : Term} (absent : occurs x s ≡ false) (us : Usable arities n bs s) where
    pub usable_bound : Usable arities n (bs ++ (record { name = x; value = s } ∷ [])) s
    usable_bound = record { formed = us.formed; unbound = λ y o. named-after y x s bs (λ e. false≢true (sym absent ∙ rw e at o)) (us.unbound y o) }

    pub usable_replaced : {t : Term} → Usable arities n bs t → Usable arities n (bs ++ (record { name = x; value = s } ∷ [])) (subst x s t)
    usable_replaced {t} u = record { formed = formed_subst x s us.formed u.formed; unbound = λ y o. go y (occurs_subst x s t y o) }
      where
        go : (y : ℕ) → Put x s y (occurs y t) → named y (bs ++ (record { name = x; value = s } ∷ [])) ≡ false
        go y (from_put o) = usable_bound.unbound y o
        go y (from_other d o) = named-after y x s bs d (u.unbound y o)

-- ---- states

solved-after : (x : ℕ) (t : Term) {bs : List Binding} → Solved bs → occurs x t ≡ false → All (λ m. (x ≡ m.name → ⊥) × (occurs m.name t ≡ false)) bs
    → Solved (bs ++ (record { name = x; value = t } ∷ []))
solved-after x t nothing_bound a All-none = first_bound a All-none nothing_bound
solved-after x t (first_bound b later s) a (both h hs) = first_bound b (All-append later (both h All-none)) (solved-after x t s a hs)

module _ {arities : List ℕ} where
  -- a binding's unknown was not bound, and its term mentions no unknown that was
  pub solved-bound : (x : ℕ) {t : Term} {n : ℕ} {bs : List Binding} → Solved bs → occurs x t ≡ false → Usable arities n bs (unknown x) → Usable arities n bs t
      → Solved (bs ++ (record { name = x; value = t } ∷ []))
  solved-bound x {t} {bs = bs} s a u v = solved-after x t s a (All-map (λ m h. (apart m h, absent m h)) (named_each bs))
    where
      apart : (m : Binding) → named m.name bs ≡ true → x ≡ m.name → ⊥
      apart m h e = false≢true (sym (usable_unbound u) ∙ ap (λ y. named y bs) e ∙ h)

      absent : (m : Binding) → named m.name bs ≡ true → occurs m.name t ≡ false
      absent m h = cases (occurs m.name t) (λ o. absurd (false≢true (sym (v.unbound m.name o) ∙ h))) (λ o. o)

  pub orderly_pend : {st : State} {es : List Equation} → Orderly arities st → All (UsableSides arities st.next st.bindings) es → Orderly arities (pend es st)
  unfolding pend
  orderly_pend o us = record { pending = us; pile = o.pile; bindings = o.bindings; solved = o.solved }

  pub orderly_piled : {st : State} (x : ℕ) {t : Term} → Orderly arities st → Usable arities st.next st.bindings (unknown x) → Usable arities st.next st.bindings t
      → Orderly arities (piled x t st)
  unfolding piled
  orderly_piled x o u v =
      record { pending = o.pending; pile = All-append o.pile (both (record { name = u; term = v }) All-none); bindings = o.bindings; solved = o.solved }

  pub orderly_renewed : {st : State} → Orderly arities st → Orderly arities (renewed st)
  unfolding renewed
  orderly_renewed o =
      record {
        pending = All-map (λ e u. record { left = usable_renewed u.left; right = usable_renewed u.right }) o.pending;
        pile = All-map (λ m u. record { name = usable_renewed u.name; term = usable_renewed u.term }) o.pile;
        bindings = All-map (λ m f. record { name = omega arith; value = formed_wider (omega arith) f.value }) o.bindings;
        solved = o.solved;
      }

  pub orderly_bound : {st : State} (x : ℕ) {t : Term} → occurs x t ≡ false → Orderly arities st → Usable arities st.next st.bindings (unknown x)
      → Usable arities st.next st.bindings t
      → Orderly arities (bound_state x t st)
  unfolding bound_state replace_in released kept
  orderly_bound {st} x {t} a o u v =
      record {
        pending =
            All-append (All_of_map _ (λ e w. record { left = put w.left; right = put w.right }) o.pending)
            (All_of_map _ (λ m w. record { left = usable_bound x a v; right = put w.1.term }) (All-entries x o.pile));
        pile = All_of_map _ (λ m w. record { name = still m w.1.name w.0; term = put w.1.term }) (All-others x o.pile);
        bindings = All-append o.bindings (both (record { name = usable_below u; value = v.formed }) All-none);
        solved = solved-bound x o.solved a u v;
      }
    where
      put : {s : Term} → Usable arities st.next st.bindings s → Usable arities st.next (st.bindings ++ (record { name = x; value = t } ∷ [])) (subst x t s)
      put w = usable_replaced x a v w

      still : (m : Entry) → Usable arities st.next st.bindings (unknown m.name) → (m.name ≡ x → ⊥)
          → Usable arities st.next (st.bindings ++ (record { name = x; value = t } ∷ [])) (unknown m.name)
      still m w d = usable_unknown (usable_below w) (named-after m.name x t st.bindings d (usable_unbound w))
