-- Where an unknown occurs after another is replaced, and in a set of members. A binding makes no state smaller.
use Prim.Native.Nat.{ℕ, ◌+◌, ◌<◌, ◌≤◌}
use Rattle.std.specs.Prelude.{◌≡◌, refl, Bool, true, false, ◌||◌, ◌&&◌, eqb}
use Rattle.std.proofs.Math.Path.{ap}
use Rattle.std.proofs.Common.{sym, ◌∙◌, arith, eqb-true, ne_eqb}
use mathlib.Core.List.{List, [], ◌∷◌, ◌++◌}
use Rattle.std.proofs.Math.Bool.{or-false}
use Rattle.std.proofs.Math.ListN.{length, length-append}
use Rattle.room.specs.Replaced.{replaced, length-le-replaced}
use Rattle.terms.specs.Bounds.{edition_one, edition_one_unknowns_first, FIRST_UNKNOWN}
use Rattle.terms.specs.Lists.{cases}
use Rattle.terms.specs.Term.{Term, Terms, unknown, empty, with, functor, none, more, words, size, occurs, occurs*, subst, subst*}
use Rattle.terms.specs.Answers.{binding_words}
use Rattle.terms.specs.Laws.Flat.{length_words, size_positive}
use Rattle.search.specs.State.{State, Entry, size_entries, state_size}
use Rattle.search.specs.Children.{entries, others, bound_state}
use Rattle.search.specs.StateWords.{pending_words, pile_words, state_words, length_state, length_pending, length_pile, length-bindings}
use Rattle.rows.specs.States.{bound_state_words}

regroup : (a b c d e : Bool) → ((a || (b && e)) || (c || (d && e))) ≡ ((a || c) || ((b || d) && e))
regroup true b c d e = refl
regroup false true true d true = refl
regroup false true true d false = refl
regroup false true false d true = refl
regroup false true false true false = refl
regroup false true false false false = refl
regroup false false true d e = refl
regroup false false false d e = refl

module _ {r s : ℕ} (differ : r ≡ s → ⊥) (v : Term) where
  mutual
    unfolding occurs subst

    pub occurs_subst : (w : Term) → occurs r (subst s v w) ≡ (occurs r w || (occurs s w && occurs r v))
    occurs_subst (unknown i) =
        cases (eqb i s)
        (λ t. rw (t, ne_eqb i r (λ e. differ (sym e ∙ eqb-true i s t))))
        (λ f. rw f (sym (or-false (eqb i r))))
    occurs_subst empty = refl
    occurs_subst (with m k) = rw (occurs_subst m, occurs_subst k) (regroup (occurs r m) (occurs s m) (occurs r k) (occurs s k) (occurs r v))
    occurs_subst (functor k ts) = occurs-subst* ts

    pub occurs-subst* : (ts : Terms) → occurs* r (subst* s v ts) ≡ (occurs* r ts || (occurs* s ts && occurs r v))
    occurs-subst* none = refl
    occurs-subst* (more t ts) = rw (occurs_subst t, occurs-subst* ts) (regroup (occurs r t) (occurs s t) (occurs* r ts) (occurs* s ts) (occurs r v))

-- ---- sizes

parted : (x : ℕ) (ns : List Entry) → size_entries (entries x ns) + size_entries (others x ns) ≡ size_entries ns
unfolding entries others size_entries
parted x [] = refl
parted x (n ∷ ns) =
    cases (eqb n.name x) (λ t. rw t (omega (arith, parted x ns))) (λ f. rw f (omega (arith, parted x ns)))

module _ (x : ℕ) (h : x < FIRST_UNKNOWN) (t : Term) (st : State) where
  abbrev f : List ℕ → List ℕ
  f ws = replaced (FIRST_UNKNOWN + x) (words edition_one t) ws

  grows : (ws : List ℕ) → length ws ≤ length (f ws)
  grows ws = length-le-replaced (FIRST_UNKNOWN + x) (words edition_one t) ws (omega (arith, length_words edition_one t, size_positive t))

  -- a bound state is as large as it was, and as its new binding
  pub bound-size : (state_size st ≤ state_size (bound_state x t st)) × (size t ≤ state_size (bound_state x t st))
  unfolding edition_one state_size
  bound-size =
      let A : List ℕ = pending_words edition_one st.pending in
      let E : List ℕ = pile_words edition_one (entries x st.pile) in
      let O : List ℕ = pile_words edition_one (others x st.pile) in
      let B : List ℕ = binding_words edition_one st.bindings in
      let whole : length ((f A ++ f E) ++ (f O ++ (B ++ (x ∷ words edition_one t)))) ≡ length (state_words edition_one (bound_state x t st)) = ap length (bound_state_words edition_one_unknowns_first h t st) in
      let total = length_state edition_one (bound_state x t st) in
      let one = length-append (f A ++ f E) (f O ++ (B ++ (x ∷ words edition_one t))) in
      let two = length-append (f A) (f E) in
      let three = length-append (f O) (B ++ (x ∷ words edition_one t)) in
      let four = length-append B (x ∷ words edition_one t) in (
        omega (arith, grows A, grows E, grows O, length_pending edition_one st.pending, length_pile edition_one (entries x st.pile), length_pile edition_one (others x st.pile), parted x st.pile, length-bindings edition_one st.bindings),
        omega (arith, length_words edition_one t),
      )
