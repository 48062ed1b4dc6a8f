-- A child's row made of the rest of its parent's: with an unknown bound, or with nothing bound and some entries more in the pile. What the flat pieces
-- are, said of the states.
use Prim.Native.Nat.{ℕ, ◌+◌, ◌-◌, ◌<◌, ◌≤◌}
use Rattle.std.specs.Prelude.{◌≡◌}
use Rattle.std.proofs.Math.Path.{ap, sym}
use Rattle.std.proofs.Common.{◌∙◌}
use mathlib.Core.List.{List, [], ◌∷◌, ◌++◌, append_assoc, append-nil, map}
use native.Mathlib.Omega.{arith}
use Rattle.std.proofs.Math.ListN.{length, length-append}
use Rattle.room.specs.Room.{seg, length-seg, seg-append, seg-zero}
use Rattle.room.specs.Replaced.{replaced, replaced-append}
use Rattle.room.specs.Layout.{HEADER}
use Rattle.terms.specs.Bounds.{edition_one, edition_one_unknowns_first, FIRST_UNKNOWN}
use Rattle.terms.specs.Kind.{Worded}
use Rattle.terms.specs.Lists.{All}
use Rattle.terms.specs.Term.{Term, words}
use Rattle.terms.specs.Formed.{Equation, Formed, row, sides}
use Rattle.terms.specs.Answers.{binding_words}
use Rattle.search.specs.State.{State, live, Entry, remade, noted, size_equations, size_entries, size_bindings, state_size}
use Rattle.search.specs.Children.{replace_in, entries, others, released, kept, bound_state}
use Rattle.search.specs.StateWords.{pending_words, pile_words, state_words, length_pending, length_pile, length-bindings}
use Rattle.rows.specs.declared.parts.Rest.{Rest}
use Rattle.rows.specs.declared.parts.Made.{Made}
use Rattle.rows.specs.declared.parts.Part.TheVariants.{Entries, Others}
use Rattle.rows.specs.Header.{header_of}
use Rattle.rows.specs.Pile.{pile_append, chosen, selection_pile}
use Rattle.rows.specs.Bind.{FinishParts, bound_pending, bound_pile, bound_bindings, bound_body}
use Rattle.binding.specs.Keep.{kept_piece, kept_header}
use Rattle.rows.specs.Finished.{Finished, bound_header}
use Rattle.rows.specs.States.{pending_append, bindings-append, replaced_pending, replaced-entries, replaced-others}
use Rattle.rows.specs.Row.{Rested, Makes, header_for, finished_makes}

-- the state with these equations before its own, and this next unknown
unfoldable pub ahead : List Equation → ℕ → State → State
ahead ds next st = remade (ds ++ st.pending) st.pile next st

-- the m words at a place are those of t
pub record Stands (l : List ℕ) (by m : ℕ) (t : Term) : Type 0 where
  pub stands : seg l by m ≡ words edition_one t

module _ {arities : List ℕ} {k : ℕ} (worded : Worded edition_one arities k) {r₀ : List ℕ} {rest : Rest} {st : State} (R : Rested edition_one r₀ rest st)
    (formed : All (λ n. Formed arities k n.term) st.pile) {by m : ℕ} {t : Term} (value : Stands r₀ by m t) {x : ℕ} (h : x < FIRST_UNKNOWN) where
  abbrev put_for : List ℕ → List ℕ
  put_for ws = replaced (FIRST_UNKNOWN + x) (words edition_one t) ws

  bound_pending_is : bound_pending edition_one arities r₀ rest (FIRST_UNKNOWN + x) by m
      ≡ put_for (pending_words edition_one st.pending) ++ put_for (pile_words edition_one (entries x st.pile))
  unfolding bound_pending edition_one chosen
  bound_pending_is = rw (value.stands, R.pending, R.pile, selection_pile worded x Entries formed)

  bound_pile_is : bound_pile edition_one arities r₀ rest (FIRST_UNKNOWN + x) by m ≡ put_for (pile_words edition_one (others x st.pile))
  unfolding bound_pile edition_one chosen
  bound_pile_is = rw (value.stands, R.pile, selection_pile worded x Others formed)

  bound_bindings_is : bound_bindings r₀ rest (FIRST_UNKNOWN + x) by m ≡ binding_words edition_one st.bindings ++ (x ∷ words edition_one t)
  unfolding bound_bindings
  bound_bindings_is = let e : FIRST_UNKNOWN + x - FIRST_UNKNOWN ≡ x = omega arith in rw (value.stands, R.bound, e)

  module _ {to written lent next : ℕ} (P : FinishParts r₀ rest by m to written lent (FIRST_UNKNOWN + x) next) (ds : List Equation)
      (new : seg r₀ (to + HEADER) written ≡ put_for (pending_words edition_one ds)) where
    abbrev child : State
    child = bound_state x t (ahead ds next st)

    -- the child's pending equations, those that are written and the piece
    pending_is : put_for (pending_words edition_one ds) ++ bound_pending edition_one arities r₀ rest (FIRST_UNKNOWN + x) by m ≡ pending_words edition_one child.pending
    unfolding bound_state ahead edition_one
    pending_is =
        rw bound_pending_is
        (sym (append_assoc (put_for (pending_words edition_one ds)) (put_for (pending_words edition_one st.pending)) (put_for (pile_words edition_one (entries x st.pile))))
        ∙ rw (
          ← replaced-append (FIRST_UNKNOWN + x) (words edition_one t) (pending_words edition_one ds) (pending_words edition_one st.pending),
          ← pending_append edition_one ds st.pending,
          replaced_pending edition_one_unknowns_first h t (ds ++ st.pending),
          replaced-entries edition_one_unknowns_first h t st.pile,
        )
        (sym (pending_append edition_one (map (replace_in x t) (ds ++ st.pending)) (map (released x t) (entries x st.pile)))))

    pile_is : bound_pile edition_one arities r₀ rest (FIRST_UNKNOWN + x) by m ≡ pile_words edition_one child.pile
    unfolding bound_state ahead edition_one
    pile_is = bound_pile_is ∙ replaced-others edition_one_unknowns_first h t st.pile

    bindings_is : bound_bindings r₀ rest (FIRST_UNKNOWN + x) by m ≡ binding_words edition_one child.bindings
    unfolding bound_state ahead binding_words
    bindings_is = bound_bindings_is ∙ sym (bindings-append edition_one st.bindings (record { name = x; value = t } ∷ []) ∙ rw append-nil)

    body_is : put_for (pending_words edition_one ds) ++ bound_body edition_one arities r₀ rest (FIRST_UNKNOWN + x) by m ≡ state_words edition_one child
    unfolding bound_body state_words
    body_is =
        sym (append_assoc (put_for (pending_words edition_one ds)) (bound_pending edition_one arities r₀ rest (FIRST_UNKNOWN + x) by m) (bound_pile edition_one arities r₀ rest (FIRST_UNKNOWN + x) by m ++ bound_bindings r₀ rest (FIRST_UNKNOWN + x) by m))
        ∙ rw (pending_is, pile_is, bindings_is)

    header_is : header_of (bound_header rest (written + length (bound_pending edition_one arities r₀ rest (FIRST_UNKNOWN + x) by m)) (length (bound_pile edition_one arities r₀ rest (FIRST_UNKNOWN + x) by m)) m next)
        ≡ header_of (header_for child)
    unfolding header_of bound_header header_for state_size bound_state ahead
    header_is =
        let A : List ℕ = bound_pending edition_one arities r₀ rest (FIRST_UNKNOWN + x) by m in
        let N : List ℕ = put_for (pending_words edition_one ds) in
        let B : List ℕ = binding_words edition_one st.bindings in
        let pending : written + length A ≡ size_equations child.pending =
        omega (arith, length-append N A, ap length new, length-seg r₀ (to + HEADER) written (omega (arith, P.parts.to_within, P.written_within)), ap length pending_is, length_pending edition_one child.pending) in
        let pile : length (bound_pile edition_one arities r₀ rest (FIRST_UNKNOWN + x) by m) ≡ size_entries child.pile = ap length pile_is ∙ length_pile edition_one child.pile in
        let bound : rest.bound + 1 + m ≡ size_bindings child.bindings =
        omega (
          arith,
          ap length bound_bindings_is,
          ap length bindings_is,
          length-bindings edition_one child.bindings,
          length-append B (x ∷ words edition_one t),
          ap length R.bound,
          length-seg r₀ (rest.at + rest.pending + rest.pile) rest.bound (omega (arith, P.parts.rest_within)),
          ap length value.stands,
          length-seg r₀ by m P.parts.by_within,
        ) in
        let bindings : rest.bindings + 1 ≡ length child.bindings =
        omega (arith, R.bindings, length-append st.bindings (record { name = x; value = t } ∷ [])) in
        rw (pending, pile, bound, bindings)

    pub finish_makes : {a : Made} {r : List ℕ}
        → Finished r₀ to written lent (bound_body edition_one arities r₀ rest (FIRST_UNKNOWN + x) by m)
        (header_of (bound_header rest (written + length (bound_pending edition_one arities r₀ rest (FIRST_UNKNOWN + x) by m)) (length (bound_pile edition_one arities r₀ rest (FIRST_UNKNOWN + x) by m)) m next)) a r
        → next ≤ edition_one.path_unknowns → Makes edition_one r₀ to lent (live child) a r
    unfolding bound_state ahead
    finish_makes F few =
        finished_makes edition_one child (put_for (pending_words edition_one ds)) (rw header_is at F) (omega (arith, P.parts.to_within)) P.written_within new body_is few

  -- the entries of x are dropped, and nothing is pending

  module _ {to lent next : ℕ} (P : FinishParts r₀ rest by m to 0 lent (FIRST_UNKNOWN + x) next) where
    abbrev heir : State
    heir = noted x t (remade [] (map (kept x t) (others x st.pile)) next st)

    heir_pile : bound_pile edition_one arities r₀ rest (FIRST_UNKNOWN + x) by m ≡ pile_words edition_one heir.pile
    unfolding edition_one
    heir_pile = bound_pile_is ∙ replaced-others edition_one_unknowns_first h t st.pile

    heir-bindings : bound_bindings r₀ rest (FIRST_UNKNOWN + x) by m ≡ binding_words edition_one heir.bindings
    unfolding binding_words
    heir-bindings = bound_bindings_is ∙ sym (bindings-append edition_one st.bindings (record { name = x; value = t } ∷ []) ∙ rw append-nil)

    heir-body : bound_pile edition_one arities r₀ rest (FIRST_UNKNOWN + x) by m ++ bound_bindings r₀ rest (FIRST_UNKNOWN + x) by m ≡ state_words edition_one heir
    unfolding state_words pending_words row sides
    heir-body = rw (heir_pile, heir-bindings)

    heir-header : header_of (bound_header rest 0 (length (bound_pile edition_one arities r₀ rest (FIRST_UNKNOWN + x) by m)) m next) ≡ header_of (header_for heir)
    unfolding header_of bound_header header_for state_size size_equations
    heir-header =
        let B : List ℕ = binding_words edition_one st.bindings in
        let pile : length (bound_pile edition_one arities r₀ rest (FIRST_UNKNOWN + x) by m) ≡ size_entries heir.pile = ap length heir_pile ∙ length_pile edition_one heir.pile in
        let bound : rest.bound + 1 + m ≡ size_bindings heir.bindings =
        omega (
          arith,
          ap length bound_bindings_is,
          ap length heir-bindings,
          length-bindings edition_one heir.bindings,
          length-append B (x ∷ words edition_one t),
          ap length R.bound,
          length-seg r₀ (rest.at + rest.pending + rest.pile) rest.bound (omega (arith, P.parts.rest_within)),
          ap length value.stands,
          length-seg r₀ by m P.parts.by_within,
        ) in
        let bindings : rest.bindings + 1 ≡ length heir.bindings =
        omega (arith, R.bindings, length-append st.bindings (record { name = x; value = t } ∷ [])) in
        rw (pile, bound, bindings)

    pub finish_pile_makes : {a : Made} {r : List ℕ}
        → Finished r₀ to 0 lent (bound_pile edition_one arities r₀ rest (FIRST_UNKNOWN + x) by m ++ bound_bindings r₀ rest (FIRST_UNKNOWN + x) by m)
        (header_of (bound_header rest 0 (length (bound_pile edition_one arities r₀ rest (FIRST_UNKNOWN + x) by m)) m next)) a r
        → next ≤ edition_one.path_unknowns → Makes edition_one r₀ to lent (live heir) a r
    finish_pile_makes F few =
        finished_makes edition_one heir [] (rw heir-header at F) (omega (arith, P.parts.to_within)) P.written_within (seg-zero r₀ (to + HEADER)) heir-body few

-- ---- nothing is bound

-- the state with these equations before its own, these entries after its own, and this next unknown
unfoldable pub extended : List Equation → List Entry → ℕ → State → State
extended ds ms next st = remade (ds ++ st.pending) (st.pile ++ ms) next st

-- the m words at a place are those of entries
pub record Piled (l : List ℕ) (by m : ℕ) (ns : List Entry) : Type 0 where
  pub piled : seg l by m ≡ pile_words edition_one ns

module _ {r₀ : List ℕ} {rest : Rest} {st : State} (R : Rested edition_one r₀ rest st) {by m : ℕ} {ms : List Entry} (entry : Piled r₀ by m ms)
    {to written lent next : ℕ} (P : FinishParts r₀ rest by m to written lent FIRST_UNKNOWN next) (ds : List Equation) (new : seg r₀ (to + HEADER) written ≡ pending_words edition_one ds) where
  abbrev next_state : State
  next_state = extended ds ms next st

  kept_is : kept_piece r₀ rest by m
      ≡ (pending_words edition_one st.pending ++ pile_words edition_one st.pile) ++ (pile_words edition_one ms ++ binding_words edition_one st.bindings)
  unfolding kept_piece
  kept_is =
      let place : rest.at + (rest.pending + rest.pile) ≡ rest.at + rest.pending + rest.pile = omega arith in
      rw (seg-append r₀ rest.at rest.pending rest.pile, place, entry.piled, R.pending, R.pile, R.bound)

  kept-body_is : pending_words edition_one ds ++ kept_piece r₀ rest by m ≡ state_words edition_one next_state
  unfolding state_words extended
  kept-body_is = rw (kept_is, pending_append edition_one ds st.pending, pile_append edition_one st.pile ms) (simp append_assoc)

  kept_header_is : header_of (kept_header rest written m next) ≡ header_of (header_for next_state)
  unfolding header_of kept_header header_for state_size extended
  kept_header_is =
      let fits : rest.at + (rest.pending + rest.pile + rest.bound) ≤ length r₀ = P.parts.rest_within in
      let there : written ≡ length (pending_words edition_one ds) =
      omega (arith, ap length new, length-seg r₀ (to + HEADER) written (omega (arith, P.parts.to_within, P.written_within))) in
      let before : rest.pending ≡ length (pending_words edition_one st.pending) = omega (arith, ap length R.pending, length-seg r₀ rest.at rest.pending (omega arith)) in
      let old : rest.pile ≡ length (pile_words edition_one st.pile) = omega (arith, ap length R.pile, length-seg r₀ (rest.at + rest.pending) rest.pile (omega arith)) in
      let more : m ≡ length (pile_words edition_one ms) = omega (arith, ap length entry.piled, length-seg r₀ by m P.parts.by_within) in
      let kept : rest.bound ≡ length (binding_words edition_one st.bindings) =
      omega (arith, ap length R.bound, length-seg r₀ (rest.at + rest.pending + rest.pile) rest.bound (omega arith)) in
      let pending : written + rest.pending ≡ size_equations (ds ++ st.pending) =
      omega (arith, ap length (pending_append edition_one ds st.pending), length-append (pending_words edition_one ds) (pending_words edition_one st.pending), length_pending edition_one (ds ++ st.pending)) in
      let pile : rest.pile + m ≡ size_entries (st.pile ++ ms) =
      omega (arith, ap length (pile_append edition_one st.pile ms), length-append (pile_words edition_one st.pile) (pile_words edition_one ms), length_pile edition_one (st.pile ++ ms)) in
      let bound : rest.bound ≡ size_bindings st.bindings = omega (arith, length-bindings edition_one st.bindings) in
      let body : written + (rest.pending + rest.pile + m + rest.bound) ≡ size_equations (ds ++ st.pending) + size_entries (st.pile ++ ms) + size_bindings st.bindings = omega arith in
      rw (body, pending, pile, R.bindings)

  pub keep_makes : {a : Made} {r : List ℕ} → Finished r₀ to written lent (kept_piece r₀ rest by m) (header_of (kept_header rest written m next)) a r
      → next ≤ edition_one.path_unknowns → Makes edition_one r₀ to lent (live next_state) a r
  unfolding extended
  keep_makes F few =
      finished_makes edition_one next_state (pending_words edition_one ds) (rw kept_header_is at F) (omega (arith, P.parts.to_within)) P.written_within new kept-body_is few
