-- The first pending equation in words, the numbers of a header in words, and what is left of a row after its first equation; then what they are
-- where the row holds a state.
use Rattle.std.specs.Prelude.{ℕ, ◌+◌, ◌-◌, ◌<◌, ◌≤◌, ◌^◌, ◌≡◌, Bool, true, false, take, drop, get_or}
use Rattle.std.proofs.Math.Path.{refl, ap}
use Rattle.std.proofs.Common.{sym, ◌∙◌}
use mathlib.Core.List.{List, [], ◌++◌, append_assoc, append-nil}
use native.Mathlib.Omega.{arith}
use Rattle.std.proofs.Math.ListN.{length, length-append}
use Rattle.std.proofs.Math.Seq.{take_at, drop_at}
use Rattle.room.specs.Room.{seg, seg-seg}
use Rattle.room.specs.Layout.{HEADER}
use Rattle.terms.specs.Bounds.{Bounds}
use Rattle.terms.specs.Kind.{Worded}
use Rattle.terms.specs.Term.{Term, words, size}
use Rattle.terms.specs.Formed.{Equation, Formed}
use Rattle.terms.specs.Answers.{binding_words}
use Rattle.terms.specs.Laws.Flat.{length_words}
use Rattle.terms.proofs.Walk.{term_ends}
use Rattle.search.specs.State.{State, pend, size_equations, size_entries, size_bindings, state_size}
use Rattle.search.specs.Classify.{classify}
use Rattle.search.specs.StateWords.{pending_words, pile_words, state_words, length_pending, length_pile, length-bindings}
use Rattle.rows.specs.declared.parts.Rest.{Rest}
use Rattle.rows.specs.declared.first.First.{First}
use Rattle.rows.specs.declared.first.Subject.{Subject}
use Rattle.rows.specs.declared.header.Header.{Header}
use Rattle.rows.specs.Terms.Ended.{term_end}
use Rattle.rows.specs.Stepping.{unknown_word, step_of, step_of_words}
use Rattle.rows.specs.States.{pending_append}
use Rattle.rows.specs.Row.{Holds, Rested, header_for, header_words}

unfoldable pub first_in : Bounds → (arities ws : List ℕ) → First
first_in b arities ws = record {
  step = step_of b arities (take (term_end b arities ws) ws) (take (term_end b arities (drop (term_end b arities ws) ws)) (drop (term_end b arities ws) ws));
  right = term_end b arities ws;
  end = term_end b arities ws + term_end b arities (drop (term_end b arities ws) ws);
}

unfoldable pub subject_by : Bool → List ℕ → (at right end : ℕ) → Subject
subject_by true ws at right end = record { x = get_or ws 0 0; by = at + right; m = end - right }
subject_by false ws at right end = record { x = get_or ws right 0; by = at; m = right }

unfoldable pub subject_in : Bounds → List ℕ → (at right end : ℕ) → Subject
subject_in b ws at right end = subject_by (unknown_word b (get_or ws 0 0)) ws at right end

unfoldable pub header_in : List ℕ → Header
header_in ws = record { pending = get_or ws 0 0; pile = get_or ws 1 0; body = get_or ws 2 0; bindings = get_or ws 3 0; next = get_or ws 4 0 }

pub record HeaderParts (from : ℕ) (h : Header) (skip : ℕ) : Type 0 where
  pub place : from + HEADER + skip < 2 ^ 32
  pub skipped : skip ≤ h.pending
  pub parts : h.pending + h.pile ≤ h.body

unfoldable pub rest_after : ℕ → Header → ℕ → Rest
rest_after from h skip = record {
  at = from + HEADER + skip;
  pending = h.pending - skip;
  pile = h.pile;
  bound = h.body - h.pending - h.pile;
  bindings = h.bindings;
}

-- ---- a row that holds a state

pub header_in_words : (h : Header) → header_in (header_words h) ≡ h
unfolding header_in header_words
header_in_words h = refl

-- the words between others
pub middle : (xs ys zs : List ℕ) {ws : List ℕ} (i n : ℕ) → ws ≡ xs ++ (ys ++ zs) → length xs ≡ i → length ys ≡ n → seg ws i n ≡ ys
unfolding seg
middle xs ys zs i n e f g = rw (e, drop_at xs (ys ++ zs) i f) (take_at ys zs n g)

module _ {b : Bounds} {arities : List ℕ} {n : ℕ} (worded : Worded b arities n) where
  pub first_in_words : {t u : Term} → Formed arities n t → Formed arities n u → (ws : List ℕ)
      → first_in b arities (words b t ++ (words b u ++ ws)) ≡ record { step = classify t u; right = size t; end = size t + size u }
  unfolding first_in
  first_in_words {t} {u} f g ws =
      let k = length_words b t in
      let l = length_words b u in
      rw (
        term_ends worded f (words b u ++ ws),
        drop_at (words b t) (words b u ++ ws) (size t) k,
        take_at (words b t) (words b u ++ ws) (size t) k,
        term_ends worded g ws,
        take_at (words b u) ws (size u) l,
        step_of_words worded f g,
      )

module _ {b : Bounds} {l : List ℕ} {from : ℕ} {st : State} (H : Holds b l from st) (ds es : List Equation) (cut : st.pending ≡ ds ++ es) where
  abbrev D : List ℕ
  D = pending_words b ds

  abbrev E : List ℕ
  E = pending_words b es

  abbrev P : List ℕ
  P = pile_words b st.pile

  abbrev B : List ℕ
  B = binding_words b st.bindings

  whole : seg l (from + HEADER) (state_size st) ≡ (D ++ E) ++ (P ++ B)
  unfolding state_words
  whole = H.body ∙ rw (cut, pending_append b ds es)

  pub cut_sizes : size_equations st.pending ≡ size_equations ds + size_equations es
  cut_sizes = omega (arith, ap length (ap (pending_words b) cut ∙ pending_append b ds es), length-append D E, length_pending b st.pending, length_pending b ds, length_pending b es)

  -- a part of the body
  part : (i n : ℕ) → i + n ≤ state_size st → seg l (from + HEADER + i) n ≡ seg ((D ++ E) ++ (P ++ B)) i n
  part i n h = sym (seg-seg l (from + HEADER) (state_size st) i n h) ∙ ap (λ (ws : List ℕ). seg ws i n) whole

  pub holds-rest : Rested b l (rest_after from (header_for st) (size_equations ds)) (pend es st)
  unfolding rest_after header_for state_size pend
  holds-rest =
      let s = cut_sizes in
      let d : length D ≡ size_equations ds = length_pending b ds in
      let e : length E ≡ size_equations es = length_pending b es in
      let p : length P ≡ size_entries st.pile = length_pile b st.pile in
      let q : length B ≡ size_bindings st.bindings = length-bindings b st.bindings in
      let left : size_equations st.pending - size_equations ds ≡ size_equations es = omega arith in
      let bound : size_equations st.pending + size_entries st.pile + size_bindings st.bindings - size_equations st.pending - size_entries st.pile ≡ size_bindings st.bindings = omega arith in
      let one : from + HEADER + size_equations ds + size_equations es ≡ from + HEADER + (size_equations ds + size_equations es) = omega arith in
      let two : from + HEADER + size_equations ds + size_equations es + size_entries st.pile ≡ from + HEADER + (size_equations ds + size_equations es + size_entries st.pile) = omega arith in
      record {
        pending = rw left (part (size_equations ds) (size_equations es) (omega arith) ∙ middle D E (P ++ B) (size_equations ds) (size_equations es) (append_assoc D E (P ++ B)) d e);
        pile = rw (left, one) (part (size_equations ds + size_equations es) (size_entries st.pile) (omega arith) ∙ middle (D ++ E) P B _ _ refl (omega (arith, length-append D E)) p);
        bound = rw (left, two, bound) (part (size_equations ds + size_equations es + size_entries st.pile) (size_bindings st.bindings) (omega arith)
            ∙ middle ((D ++ E) ++ P) B [] _ _ (sym (append_assoc (D ++ E) P B) ∙ ap (λ (ws : List ℕ). ((D ++ E) ++ P) ++ ws) (sym (append-nil B))) (omega (arith, length-append (D ++ E) P, length-append D E)) q);
        bindings = refl;
      }
