-- The answer of a row in words: whether it is one. Where the row holds a state, it is the answer that the state is, and the row's words may be noted.
use Rattle.std.specs.Prelude.{ℕ, ◌+◌, ◌≤◌, ◌<◌, ◌^◌, ◌≡◌, refl, eqb, length, take, get_or}
use Rattle.std.proofs.Math.Path.{sym, ap}
use Rattle.std.proofs.Common.{◌∙◌, arith}
use mathlib.Core.List.{List, [], ◌∷◌}
use Rattle.std.proofs.Math.Seq.{get_or-take}
use borrow.Author.Tests.{eq-eqb, ne_eqb}
use Rattle.room.specs.Room.{seg, length-seg, take-seg, seg-seg}
use Rattle.room.specs.Layout.{HEADER}
use Rattle.terms.specs.Bounds.{edition_one}
use Rattle.terms.specs.Formed.{Equation, sides}
use Rattle.terms.specs.Formed.{row as side_words}
use Rattle.terms.specs.Laws.Flat.{size_positive}
use Rattle.terms.specs.Answers.{answer_words}
use Rattle.terms.specs.Lists.{cases}
use Rattle.search.specs.State.{State, Entry, size_equations, size_entries, state_size}
use Rattle.search.specs.Run.{answer_by, found}
use Rattle.search.specs.StateWords.{pending_words, pile_words, state_words}
use Rattle.rows.specs.declared.header.Header.{Header}
use Rattle.rows.specs.First.{header_in}
use Rattle.rows.specs.Row.{Holds, header_for, header_words}
use Rattle.results.specs.declared.ran.Record.{Record}
use Rattle.answer_record.specs.Noting.{listed_by, answer_in, Notable}

-- ---- read from its header

module _ (row : List ℕ) {h : Header} (e : h ≡ header_in (take 5 row)) where
  pending_is : h.pending ≡ get_or row 0 0
  unfolding header_in
  pending_is = ap (λ (g : Header). g.pending) e ∙ get_or-take 5 row 0 0 (omega arith)

  pile_is : h.pile ≡ get_or row 1 0
  unfolding header_in
  pile_is = ap (λ (g : Header). g.pile) e ∙ get_or-take 5 row 1 0 (omega arith)

  body_is : h.body ≡ get_or row 2 0
  unfolding header_in
  body_is = ap (λ (g : Header). g.body) e ∙ get_or-take 5 row 2 0 (omega arith)

  pub pending_none : 0 < h.pending → answer_in row ≡ []
  unfolding answer_in
  pending_none p = rw (ne_eqb (get_or row 0 0) 0 (λ z. omega (arith, pending_is)))

  pub pile_none : 0 < h.pile → answer_in row ≡ []
  unfolding answer_in
  pile_none p = cases (eqb (get_or row 0 0) 0) (λ t. rw (t, ne_eqb (get_or row 1 0) 0 (λ z. omega (arith, pile_is)))) (λ f. rw f)

  pub one_answer : h.pending ≤ 0 → h.pile ≤ 0 → answer_in row ≡ listed_by row h.body ∷ []
  unfolding answer_in
  one_answer p q = rw (eq-eqb (get_or row 0 0) 0 (omega (arith, pending_is)), eq-eqb (get_or row 1 0) 0 (omega (arith, pile_is)), body_is)

  pub within-row : {a : List ℕ} {r : Record} → Notable row a r → h.pending ≤ 0 → h.pile ≤ 0 → HEADER + h.body ≤ length row
  within-row N p q = rw body_is (N.body (omega (arith, pending_is)) (omega (arith, pile_is)))

-- ---- a row that holds a state

module _ {l : List ℕ} {to : ℕ} {st : State} (H : Holds edition_one l to st) (n : ℕ) (within : to + n ≤ length l) (fits : HEADER + state_size st ≤ n) where
  abbrev row : List ℕ
  row = seg l to n

  header_is : header_for st ≡ header_in (take 5 row)
  unfolding header_in header_words
  header_is = sym (rw (take-seg l to n 5 (omega arith), H.header))

  body_words_are : seg row HEADER (state_size st) ≡ state_words edition_one st
  body_words_are = seg-seg l to n HEADER (state_size st) fits ∙ H.body

  count_is : get_or row 3 0 ≡ length st.bindings
  unfolding header_for header_in
  count_is = sym (ap (λ (h : Header). h.bindings) header_is ∙ get_or-take 5 row 3 0 (omega arith))

  listing : st.pending ≡ [] → st.pile ≡ [] → listed_by row (state_size st) ≡ answer_words edition_one st.bindings
  unfolding listed_by answer_words state_words pending_words pile_words side_words sides
  listing p q = rw (count_is, body_words_are, p, q)

  answer_by-parts : (es : List Equation) (ns : List Entry) → st.pending ≡ es → st.pile ≡ ns → answer_in row ≡ found edition_one (answer_by es ns st.bindings)
  unfolding found answer_by header_for size_equations size_entries
  answer_by-parts (e ∷ es) ns p q = pending_none row header_is (rw p (omega (arith, size_positive e.left)))
  answer_by-parts [] (m ∷ ns) p q = pile_none row header_is (rw q (omega arith))
  answer_by-parts [] [] p q = one_answer row header_is (rw p (omega arith)) (rw q (omega arith)) ∙ ap (λ (ws : List ℕ). ws ∷ []) (listing p q)

  pub answer-held : answer_in row ≡ found edition_one (answer_by st.pending st.pile st.bindings)
  answer-held = answer_by-parts st.pending st.pile refl refl

  pub held_notable : {a : List ℕ} {r : Record} → r.words ≤ length a → r.answers + 1 < 2 ^ 64 → Notable row a r
  unfolding header_for
  held_notable u f =
      let n = length-seg l to n within in
      record {
        header = omega arith;
        body = λ p q. omega (arith, body_is row header_is);
        used = u;
        few = f;
      }
