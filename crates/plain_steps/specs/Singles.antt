-- The steps that leave no choice: the row that each makes holds the state's only child.
use Rattle.std.specs.Prelude.{ℕ, ◌+◌, ◌<◌, ◌≤◌, ◌≡◌, refl, length}
use Rattle.std.proofs.Math.Path.{ap}
use Rattle.std.proofs.Common.{sym, ◌∙◌}
use mathlib.Core.List.{List, [], ◌∷◌, append-nil}
use native.Mathlib.Omega.{arith}
use Rattle.room.specs.Room.{seg, put, Within, length-put, length-seg, seg-zero, seg-put_same}
use Rattle.room.specs.Parts.{Apart, earlier, later, apart_part, seg-put}
use Rattle.room.specs.Replaced.{replaced, replaced-nil}
use Rattle.room.specs.Layout.{HEADER, stride}
use Rattle.terms.specs.Bounds.{edition_one, FIRST_UNKNOWN}
use Rattle.terms.specs.Term.{Term, words, size}
use Rattle.terms.specs.Formed.{Equation, row, sides}
use Rattle.search.specs.State.{State, Node, live, pend, piled, size_equations, state_size}
use Rattle.search.specs.Children.{bound_state}
use Rattle.search.specs.StateWords.{pending_words, pile_words}
use Rattle.rows.specs.declared.parts.Rest.{Rest}
use Rattle.rows.specs.declared.parts.Made.{Made}
use Rattle.rows.specs.declared.first.Subject.{Subject}
use Rattle.rows.specs.Sections.{sections_fit}
use Rattle.rows.specs.Header.{header_of}
use Rattle.rows.specs.Bind.{FinishParts, bound_pending, bound_pile, bound_body}
use Rattle.binding.specs.Keep.{kept_piece, kept_header}
use Rattle.rows.specs.Finished.{Finished, bound_header, finish_long}
use Rattle.rows.specs.Row.{Rested, Makes, Beside, beside_aside, finished_beside, header_for}
use Rattle.binding.specs.Child.{Piled, ahead, extended, finish_makes, keep_makes}
use Rattle.rows.specs.First.{rest_after}
use Rattle.plain_steps.specs.StepParts.{postponed, PostponeParts}
use Rattle.binding.specs.At.{sound_worded, Held, rested, finish-parts, SubjectAt, sides-within, first-size, rest-room}

none_pending : [] ≡ pending_words edition_one []
unfolding pending_words row sides
none_pending = refl

none_replaced : (x : ℕ) (t : Term) → [] ≡ replaced x (words edition_one t) (pending_words edition_one [])
unfolding pending_words row sides
none_replaced x t = sym (replaced-nil x (words edition_one t))

-- what is put apart from a row's rest leaves it as it is
pub rested_put : {l : List ℕ} {rest : Rest} {st : State} → Rested edition_one l rest st → (i : ℕ) (vs : List ℕ) → Apart rest.at (rest.pending + rest.pile + rest.bound) i (length vs)
    → Rested edition_one (put l i vs) rest st
rested_put {l} R i vs a = record {
  pending = seg-put vs l (apart_part a (omega arith) (omega arith) (omega arith) (omega arith)) ∙ R.pending;
  pile = seg-put vs l (apart_part a (omega arith) (omega arith) (omega arith) (omega arith)) ∙ R.pile;
  bound = seg-put vs l (apart_part a (omega arith) (omega arith) (omega arith) (omega arith)) ∙ R.bound;
  bindings = R.bindings;
}

-- what was put after the rows before does not count
pub makes_after : {l : List ℕ} {to lent : ℕ} {node : Node} {a : Made} {r : List ℕ} (i : ℕ) (vs : List ℕ) → to ≤ i → Makes edition_one (put l i vs) to lent node a r → Makes edition_one l to lent node a r
makes_after {l} i vs h M = record {
  long = M.long ∙ length-put l i vs;
  below = M.below ∙ seg-put vs l (earlier (omega arith));
  tells = M.tells;
  holds = M.holds;
}

-- the entry is laid out aside
pub postpone_beside : {l : List ℕ} (s : Subject) {to entry written lent : ℕ} {piece header : List ℕ} {a : Made} {r : List ℕ} → to + stride lent ≤ entry
    → Finished (postponed l s entry) to written lent piece header a r → Beside l r to lent entry
unfolding postponed
postpone_beside {l} s h F = beside_aside (s.x ∷ seg l s.by s.m) h (finished_beside F)

module _ {arities r₀ : List ℕ} {from to scratch lent : ℕ} {st : State} (H : Held arities r₀ from to scratch lent st) {e : Equation} {es : List Equation} (cut : st.pending ≡ e ∷ es) where
  abbrev end : ℕ
  end = size e.left + size e.right

  abbrev pub rest : Rest
  rest = rest_after from (header_for st) end

  end_is : size_equations (e ∷ []) ≡ end
  unfolding size_equations
  end_is = omega arith

  pub few : st.next ≤ edition_one.path_unknowns
  unfolding edition_one
  few = H.sound.few

  pub rest_stands : Rested edition_one r₀ rest (pend es st)
  rest_stands = rw end_is at (rested H (e ∷ []) es cut)

  pub single_parts : {by m : ℕ} → Within r₀ by m → Apart by m to (HEADER + lent) → (written x : ℕ) → written ≤ lent → FIRST_UNKNOWN ≤ x → FinishParts r₀ rest by m to written lent x st.next
  single_parts h a written x w u = rw end_is at (finish-parts H (e ∷ []) es cut h a written x st.next w u (omega (arith, H.sound.few)))

  pub rest-bound : rest.at + (rest.pending + rest.pile + rest.bound) ≤ to
  rest-bound = rw end_is at (rest-room H (e ∷ []) es cut)

  nothing_new : seg r₀ (to + HEADER) 0 ≡ pending_words edition_one []
  unfolding pending_words row sides
  nothing_new = seg-zero r₀ (to + HEADER)

  -- ---- drop

  pub drop-parts : FinishParts r₀ rest from 0 to 0 lent FIRST_UNKNOWN st.next
  drop-parts = single_parts (omega (arith, H.rows.row, H.rows.next_row, H.rows.scratch_rows)) (earlier (omega (arith, H.rows.row))) 0 FIRST_UNKNOWN (omega arith) (omega arith)

  pub drop-made : {a : Made} {r : List ℕ} → Finished r₀ to 0 lent (kept_piece r₀ rest from 0) (header_of (kept_header rest 0 0 st.next)) a r → Makes edition_one r₀ to lent (live (pend es st)) a r
  unfolding extended pend pile_words
  drop-made F =
      let p : Piled r₀ from 0 [] = record { piled = seg-zero r₀ from } in
      rw append-nil at (keep_makes rest_stands p drop-parts [] nothing_new F few)

  -- ---- bind

  module _ {s : Subject} {x : ℕ} {t : Term} (A : SubjectAt r₀ s x t from end) (small : x < FIRST_UNKNOWN) where
    pub subject-within : Within r₀ s.by s.m
    subject-within = omega (arith, A.before, sides-within H cut, H.rows.next_row, H.rows.scratch_rows)

    pub subject_apart : Apart s.by s.m to (HEADER + lent)
    subject_apart = earlier (omega (arith, A.before, sides-within H cut))

    pub bind_first-parts : FinishParts r₀ rest s.by s.m to 0 lent s.x st.next
    bind_first-parts = single_parts subject-within subject_apart 0 s.x (omega arith) (omega (arith, A.word))

    pub bind_made : {a : Made} {r : List ℕ}
        → Finished r₀ to 0 lent (bound_body edition_one arities r₀ rest s.x s.by s.m)
        (header_of (bound_header rest (0 + length (bound_pending edition_one arities r₀ rest s.x s.by s.m)) (length (bound_pile edition_one arities r₀ rest s.x s.by s.m)) s.m st.next)) a r
        → Makes edition_one r₀ to lent (live (bound_state x t (pend es st))) a r
    unfolding ahead pend
    bind_made F =
        let w = A.word in
        finish_makes (sound_worded H.sound) rest_stands H.sound.pile A.stands small (rw w at bind_first-parts) [] (seg-zero r₀ (to + HEADER) ∙ none_replaced (FIRST_UNKNOWN + x) t) (rw w at F) few

    -- ---- postpone: the entry is laid out in the first scratch row

    abbrev laid : List ℕ
    laid = s.x ∷ seg r₀ s.by s.m

    length-laid : length laid ≡ s.m + 1
    length-laid = omega (arith, length-seg r₀ s.by s.m subject-within)

    entry_small : s.m ≤ lent
    unfolding state_size
    entry_small =
        let f = sections_fit st H.fits in
        omega (arith, A.after, A.before, first-size st cut)

    pub postpone_first-parts : PostponeParts r₀ rest s scratch to lent st.next
    postpone_first-parts = record {
      parts = single_parts (omega (arith, entry_small, H.rows.scratch_rows)) (later (omega (arith, H.rows.next_row))) 0 FIRST_UNKNOWN (omega arith) (omega arith);
      by_within = subject-within;
      by_apart = earlier (omega (arith, A.before, sides-within H cut, H.rows.next_row));
    }

    entry-piled : Piled (postponed r₀ s scratch) scratch (s.m + 1) (record { name = x; term = t } ∷ [])
    unfolding postponed pile_words edition_one
    entry-piled = record {
      piled = ap (seg (put r₀ scratch laid) scratch) (sym length-laid) ∙ seg-put_same laid r₀ scratch (omega (arith, length-laid, entry_small, H.rows.scratch_rows))
          ∙ rw (A.word, A.stands.stands, append-nil);
    }

    pub postpone_made : {a : Made} {r : List ℕ}
        → Finished (postponed r₀ s scratch) to 0 lent (kept_piece (postponed r₀ s scratch) rest scratch (s.m + 1)) (header_of (kept_header rest 0 (s.m + 1) st.next)) a r
        → Makes edition_one r₀ to lent (live (piled x t (pend es st))) a r
    unfolding postponed extended pend piled
    postpone_made F =
        makes_after scratch laid (omega (arith, H.rows.next_row))
        (keep_makes (rested_put rest_stands scratch laid (earlier (omega (arith, rest-bound, H.rows.next_row)))) entry-piled
        (finish_long postpone_first-parts.parts (length-put r₀ scratch laid)) [] (seg-zero (put r₀ scratch laid) (to + HEADER) ∙ none_pending) F few)
