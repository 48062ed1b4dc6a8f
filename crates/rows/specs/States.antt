-- A state's words: those of lists that are joined; and a binding of x to t replaces x's word by t's words in every section but the bindings.
use Rattle.std.specs.Prelude.{ℕ, ◌+◌, ◌<◌, ◌≡◌, eqb}
use Rattle.std.proofs.Math.Path.{refl, ap}
use Rattle.std.proofs.Common.{sym, ◌∙◌, arith}
use mathlib.Core.List.{List, [], ◌∷◌, ◌++◌, append_assoc, append-nil, map}
use borrow.Author.Tests.{eqb-true, eqb-false}
use Rattle.room.specs.Replaced.{replaced, replaced-nil, replaced-cons, replaced-append, image_same, image_other}
use Rattle.terms.specs.Bounds.{Bounds, UnknownsFirst}
use Rattle.terms.specs.Term.{Term, words, subst}
use Rattle.terms.specs.Formed.{Equation, sides, row}
use Rattle.terms.specs.Answers.{Binding, binding_words}
use Rattle.terms.specs.Lists.{cases}
use Rattle.search.specs.State.{State, Entry}
use Rattle.search.specs.Children.{replace_in, entries, others, released, kept, bound_state}
use Rattle.search.specs.StateWords.{pending_words, pile_words, Section, Pending, Pile, Bindings, in_order, section_words, state_words}
use Rattle.rows.specs.Terms.HeldWords.{replaced_words}

-- ---- joined

module _ (b : Bounds) where
  pub pending_append : (ds es : List Equation) → pending_words b (ds ++ es) ≡ pending_words b ds ++ pending_words b es
  unfolding pending_words row sides
  pending_append [] es = refl
  pending_append (d ∷ ds) es =
      rw (pending_append ds es) (simp append_assoc)

  pub bindings-append : (ms ns : List Binding) → binding_words b (ms ++ ns) ≡ binding_words b ms ++ binding_words b ns
  unfolding binding_words
  bindings-append [] ns = refl
  bindings-append (m ∷ ms) ns = rw (bindings-append ms ns) (ap (λ (ws : List ℕ). m.name ∷ ws) (sym (append_assoc (words b m.value) (binding_words b ms) (binding_words b ns))))

-- ---- a binding

module _ {b : Bounds} (order : UnknownsFirst b) {x : ℕ} (h : x < b.unknown_words) (t : Term) where
  abbrev put_for : List ℕ → List ℕ
  put_for ws = replaced (b.first_unknown + x) (words b t) ws

  -- a side, and what stands after it
  side : (u : Term) (ws : List ℕ) → put_for (words b u ++ ws) ≡ words b (subst x t u) ++ put_for ws
  side u ws = replaced-append (b.first_unknown + x) (words b t) (words b u) ws ∙ ap (λ (vs : List ℕ). vs ++ put_for ws) (replaced_words order h t u)

  pub replaced_pending : (es : List Equation) → put_for (pending_words b es) ≡ pending_words b (map (replace_in x t) es)
  unfolding pending_words row sides replace_in
  replaced_pending [] = replaced-nil (b.first_unknown + x) (words b t)
  replaced_pending (e ∷ es) =
      side e.left (words b e.right ++ row b (sides es))
      ∙ ap (λ (ws : List ℕ). words b (subst x t e.left) ++ ws)
      (side e.right (row b (sides es)) ∙ ap (λ (ws : List ℕ). words b (subst x t e.right) ++ ws) (replaced_pending es))

  -- entries of x become t = {..|t}
  pub replaced-entries : (ns : List Entry) → put_for (pile_words b (entries x ns)) ≡ pending_words b (map (released x t) (entries x ns))
  unfolding entries pile_words pending_words row sides released
  replaced-entries [] = replaced-nil (b.first_unknown + x) (words b t)
  replaced-entries (n ∷ ns) =
      cases (eqb n.name x)
      (λ e.
      rw (e, replaced-cons, image_same (b.first_unknown + x) (words b t) (b.first_unknown + n.name) (ap (λ (j : ℕ). b.first_unknown + j) (eqb-true n.name x e)))
      (ap (λ (ws : List ℕ). words b t ++ ws)
      (side n.term (pile_words b (entries x ns)) ∙ ap (λ (ws : List ℕ). words b (subst x t n.term) ++ ws) (replaced-entries ns))))
      (λ e. rw e (replaced-entries ns))

  -- the others keep their unknown
  pub replaced-others : (ns : List Entry) → put_for (pile_words b (others x ns)) ≡ pile_words b (map (kept x t) (others x ns))
  unfolding others pile_words kept
  replaced-others [] = replaced-nil (b.first_unknown + x) (words b t)
  replaced-others (n ∷ ns) =
      cases (eqb n.name x)
      (λ e. rw e (replaced-others ns))
      (λ e.
      rw (e, replaced-cons, image_other (b.first_unknown + x) (words b t) (b.first_unknown + n.name) (λ q. eqb-false n.name x e (omega arith)))
      (ap (λ (ws : List ℕ). (b.first_unknown + n.name) ∷ ws)
      (side n.term (pile_words b (others x ns)) ∙ ap (λ (ws : List ℕ). words b (subst x t n.term) ++ ws) (replaced-others ns))))

  -- the sections of the state with x bound, and its body
  abbrev pub replaced_section : State → Section → List ℕ
  replaced_section st Pending = put_for (section_words b st Pending) ++ put_for (pile_words b (entries x st.pile))
  replaced_section st Pile = put_for (pile_words b (others x st.pile))
  replaced_section st Bindings = section_words b st Bindings ++ (x ∷ words b t)

  pub bound_state_words : (st : State) → in_order (replaced_section st) ≡ state_words b (bound_state x t st)
  unfolding state_words bound_state binding_words
  bound_state_words st =
      rw (
        replaced_pending st.pending,
        replaced-entries st.pile,
        replaced-others st.pile,
        pending_append b (map (replace_in x t) st.pending) (map (released x t) (entries x st.pile)),
        bindings-append b st.bindings (record { name = x; value = t } ∷ []),
        append-nil,
      )
