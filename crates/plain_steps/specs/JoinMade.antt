-- Nothing is pending: the row that a joined pile makes holds the state's only child.
use Prim.Native.Nat.{ℕ, suc, ◌+◌, ◌<◌, ◌≤◌}
use Rattle.std.proofs.Math.Path.{◌≡◌, refl, ap, sym}
use Rattle.std.proofs.Common.{◌∙◌, lt-ltb}
use mathlib.Core.List.{List, [], ◌∷◌, ◌++◌}
use Rattle.std.specs.Prelude.{false}
use native.Mathlib.Omega.{arith}
use Rattle.std.proofs.Math.Numerals.{add-one}
use Rattle.std.proofs.Math.Decide.{dec_le}
use Rattle.std.proofs.Math.ListN.{length, get_or, length-append}
use Rattle.room.specs.Room.{seg, put, length-put, seg-put_same, get_or-seg}
use Rattle.room.specs.Parts.{earlier, later, seg-put}
use Rattle.room.specs.Layout.{stride}
use Rattle.terms.specs.Bounds.{edition_one, edition_one_proper, edition_one_unknowns_first, FIRST_UNKNOWN, PATH_UNKNOWNS}
use Rattle.terms.specs.Lists.{All, both, any, cases}
use Rattle.terms.specs.Term.{Term, unknown, words, size, occurs, over}
use Rattle.terms.specs.Laws.Substitution.{occurs_over}
use Rattle.search.specs.State.{State, Node, live, Entry, pend, renewed, size_equations, size_entries, state_size}
use Rattle.search.specs.Children.{bound_state, bound, joined, without}
use Rattle.search.specs.PileEntries.{entries-others, others-others}
use Rattle.search.specs.StateWords.{pile_words, length_pile}
use Rattle.rows.specs.declared.parts.Rest.{Rest}
use Rattle.rows.specs.declared.parts.Made.{Made}
use Rattle.rows.specs.declared.parts.Made.TheVariants.{Dead, Names, Live}
use Rattle.rows.specs.Sections.{sections_fit}
use Rattle.rows.specs.Bind.{FinishParts}
use Rattle.rows.specs.Terms.HeldWords.{holds}
use Rattle.rows.specs.Finished.{finish_long}
use Rattle.rows.specs.Terms.MemberWords.{member_words, words_over, holds-members}
use Rattle.plain_steps.specs.Join.{gathered_pile, length-gathered}
use Rattle.plain_steps.specs.JoinLaid.{JoinParts, joining_word, joining_words, valued, Joined}
use Rattle.rows.specs.Row.{Rested, Makes, Beside, beside_same, beside_aside, finished_beside, header_for, becomes}
use Rattle.binding.specs.Child.{Stands, finish_pile_makes}
use Rattle.rows.specs.First.{rest_after}
use Rattle.plain_steps.specs.Singles.{rested_put, makes_after}
use Rattle.binding.specs.At.{sound_worded, Held, rested, finish-parts, rest-room}

-- a node that is not written
makes_none : {l : List ℕ} {to lent : ℕ} {node : Node} {a : Made} {r : List ℕ} (i : ℕ) (vs : List ℕ) → r ≡ put l i vs → to ≤ i → a ≡ becomes edition_one lent node → (a ≡ Live → ⊥) → Makes edition_one l to lent node a r
makes_none {l} i vs e h t d = record {
  long = ap length e ∙ length-put l i vs;
  below = rw e (seg-put vs l (earlier (omega arith)));
  tells = t;
  holds = λ st p q. absurd (d q);
}

module _ {arities r₀ : List ℕ} {from to scratch lent : ℕ} {st : State} (H : Held arities r₀ from to scratch lent st) (quiet : st.pending ≡ []) {n₀ : Entry} {ns : List Entry} (some : st.pile ≡ n₀ ∷ ns) where
  abbrev rest : Rest
  rest = rest_after from (header_for st) 0

  abbrev x : ℕ
  x = n₀.name

  abbrev ms : List Term
  ms = joined x st.pile

  abbrev t : Term
  t = over ms (unknown st.next)

  R : Rested edition_one r₀ rest (pend [] st)
  unfolding size_equations
  R = rested H [] [] quiet

  no_pending : rest.pending ≡ 0
  unfolding rest_after header_for size_equations
  no_pending = let e : size_equations st.pending ≡ 0 = ap size_equations quiet in omega arith

  pile_size : rest.pile ≡ size_entries st.pile
  unfolding rest_after header_for
  pile_size = refl

  some_pile : 0 < rest.pile
  unfolding size_entries rest_after header_for
  some_pile = let e : size_entries st.pile ≡ suc (size n₀.term) + size_entries ns = ap size_entries some in omega arith

  pile_stands : seg r₀ rest.at rest.pile ≡ pile_words edition_one st.pile
  unfolding pend
  pile_stands = let e : rest.at + rest.pending ≡ rest.at = omega (arith, no_pending) in rw e at R.pile

  small_name : x < st.next
  small_name = first-name (rw some at H.sound.names)
    where
      first-name : All (λ n. n.name < st.next) (n₀ ∷ ns) → n₀.name < st.next
      first-name (both h hs) = h

  word_is : joining_word r₀ rest ≡ FIRST_UNKNOWN + x
  unfolding joining_word pile_words edition_one
  word_is =
      let p : rest.at + 0 ≡ rest.at = omega arith in
      let q : get_or (seg r₀ rest.at rest.pile) 0 0 ≡ get_or r₀ (rest.at + 0) 0 = get_or-seg r₀ rest.at rest.pile 0 some_pile in
      ap (λ (k : ℕ). get_or r₀ k 0) (sym p) ∙ sym q ∙ ap (λ (ws : List ℕ). get_or ws 0 0) (pile_stands ∙ ap (pile_words edition_one) some)

  words_are : joining_words arities r₀ rest ≡ member_words edition_one ms
  unfolding joining_words edition_one
  words_are =
      rw (word_is, pile_stands) (gathered_pile (sound_worded H.sound) x rest.pile H.sound.pile (omega (arith, length_pile edition_one st.pile, pile_size)))

  deadness : holds (joining_word r₀ rest) (joining_words arities r₀ rest) ≡ any (occurs x) ms
  unfolding edition_one
  deadness = rw (word_is, words_are) (holds-members edition_one_unknowns_first (omega (arith, small_name, H.sound.few)) ms)

  occurs_is : occurs x t ≡ any (occurs x) ms
  occurs_is = occurs_over x st.next (λ e. omega (arith, small_name)) ms

  abbrev before : State
  before = renewed (without x st.pile st)

  pile_fits : rest.pile ≤ lent
  unfolding rest_after header_for state_size
  pile_fits = omega (arith, sections_fit st H.fits)

  rest-before : rest.at + (rest.pending + rest.pile + rest.bound) ≤ to
  unfolding size_equations
  rest-before = rest-room H [] [] quiet

  rest-parts : (m : ℕ) → m ≤ rest.pile + 1 → (w next : ℕ) → FIRST_UNKNOWN ≤ w → next < 65536 → FinishParts r₀ rest scratch m to 0 lent w next
  unfolding size_equations
  rest-parts m h w next u n =
      finish-parts H [] [] quiet (omega (arith, pile_fits, H.rows.scratch_rows)) (later (omega (arith, H.rows.next_row))) 0 w next (omega arith) u n

  unknown_first : FIRST_UNKNOWN ≤ get_or r₀ rest.at 0
  unfolding joining_word
  unknown_first = omega (arith, word_is)

  pub join-parts : JoinParts r₀ rest scratch to lent st.next
  join-parts =
      let F = rest-parts (rest.pile + 1) (omega arith) FIRST_UNKNOWN 0 (omega arith) (omega arith) in
      record {
        parts = F.parts;
        value_apart = earlier (omega (arith, rest-before, H.rows.next_row));
        nothing = no_pending;
        something = some_pile;
        unknown = unknown_first;
        size_small = F.size_small;
        bindings_small = F.bindings_small;
        next_small = omega (arith, H.sound.few);
      }

  abbrev G : List ℕ
  G = joining_words arities r₀ rest

  length-G : length G ≤ rest.pile
  unfolding joining_words
  length-G =
      omega (arith, length-gathered edition_one_proper arities (joining_word r₀ rest) rest.pile (seg r₀ rest.at rest.pile), ap length pile_stands, length_pile edition_one st.pile, pile_size)

  value_stands : Stands (valued arities r₀ rest scratch st.next) scratch (length G + 1) t
  unfolding valued words edition_one
  value_stands =
      let l : length (G ++ ((FIRST_UNKNOWN + st.next) ∷ [])) ≡ length G + 1 = length-append G ((FIRST_UNKNOWN + st.next) ∷ []) in
      record {
        stands = ap (seg (put r₀ scratch (G ++ ((FIRST_UNKNOWN + st.next) ∷ []))) scratch) (sym l)
            ∙ seg-put_same (G ++ ((FIRST_UNKNOWN + st.next) ∷ [])) r₀ scratch (omega (arith, length-G, pile_fits, H.rows.scratch_rows))
            ∙ rw words_are (sym (words_over edition_one ms (unknown st.next)));
      }

  few_names : st.next < PATH_UNKNOWNS → st.next + 1 ≤ edition_one.path_unknowns
  unfolding edition_one
  few_names h = omega arith

  join_names : PATH_UNKNOWNS ≤ st.next → {a : Made} {r : List ℕ} → Joined arities r₀ rest scratch to lent st.next a r → any (occurs x) ms ≡ false → Makes edition_one r₀ to lent (live (bound_state x t before)) a r
  unfolding becomes bound_state renewed edition_one
  join_names h J e =
      let d = J.names (deadness ∙ e) h in
      makes_none scratch G d.1 (omega (arith, H.rows.next_row)) (d.0 ∙ rw (lt-ltb PATH_UNKNOWNS (suc st.next) (omega arith))) (λ q. never (sym d.0 ∙ q))
    where
      never : ◌≡◌ {A = Made} Names Live → ⊥
      never q = let z : ◌≡◌ {A = ℕ} 0 1 = cc in omega arith

  -- x is in no member, and there is a name for the new unknown
  join_live : st.next < PATH_UNKNOWNS → {a : Made} {r : List ℕ} → Joined arities r₀ rest scratch to lent st.next a r → any (occurs x) ms ≡ false → Makes edition_one r₀ to lent (live (bound_state x t before)) a r
  unfolding bound_state renewed pend valued
  join_live few J e =
      let v : List ℕ = G ++ ((FIRST_UNKNOWN + st.next) ∷ []) in
      let n : st.next + 1 ≡ suc st.next = add-one st.next in
      let l : length v ≡ length G + 1 = length-append G ((FIRST_UNKNOWN + st.next) ∷ []) in
      let w = word_is in
      let P = finish_long (rest-parts (length G + 1) (omega (arith, length-G)) (FIRST_UNKNOWN + x) (st.next + 1) (omega arith) (omega arith)) (length-valued v) in
      rw (entries-others, others-others, ← n)
      (makes_after scratch v (omega (arith, H.rows.next_row))
      (finish_pile_makes (sound_worded H.sound) (rested_put R scratch v (earlier (omega (arith, rest-before, H.rows.next_row)))) H.sound.pile value_stands
      (omega (arith, small_name, H.sound.few)) P (rw w at (J.live (deadness ∙ e) few)) (few_names few)))
    where
      length-valued : (v : List ℕ) → length (put r₀ scratch v) ≡ length r₀
      length-valued v = length-put r₀ scratch v

  pub join-made : {a : Made} {r : List ℕ} → Joined arities r₀ rest scratch to lent st.next a r → Makes edition_one r₀ to lent (bound x t before) a r
  unfolding bound becomes
  join-made {a} {r} J =
      cases (any (occurs x) ms)
      (λ e. rw (occurs_is, e) (let d = J.dead (deadness ∙ e) in makes_none scratch G d.1 (omega (arith, H.rows.next_row)) d.0 (λ q. never (sym d.0 ∙ q))))
      (λ e. rw (occurs_is, e) (by_order (dec_le PATH_UNKNOWNS st.next) e))
    where
      never : ◌≡◌ {A = Made} Dead Live → ⊥
      never q = let z : ◌≡◌ {A = ℕ} 0 1 = cc in omega arith

      by_order : Dec (PATH_UNKNOWNS ≤ st.next) → any (occurs x) ms ≡ false → Makes edition_one r₀ to lent (live (bound_state x t before)) a r
      by_order (yes h) e = join_names h J e
      by_order (no h) e = join_live (omega arith) J e

  pub join_beside : {a : Made} {r : List ℕ} → Joined arities r₀ rest scratch to lent st.next a r → Beside r₀ r to lent scratch
  unfolding valued
  join_beside {a} {r} J =
      cases (holds (joining_word r₀ rest) G)
      (λ e. unwritten (J.dead e).1)
      (λ e. by_order (dec_le PATH_UNKNOWNS st.next) e)
    where
      row_before : to + stride lent ≤ scratch
      row_before = omega (arith, H.rows.next_row)

      unwritten : r ≡ put r₀ scratch G → Beside r₀ r to lent scratch
      unwritten q = beside_aside G row_before (rw q beside_same)

      by_order : Dec (PATH_UNKNOWNS ≤ st.next) → holds (joining_word r₀ rest) G ≡ false → Beside r₀ r to lent scratch
      by_order (yes h) e = unwritten (J.names e h).1
      by_order (no h) e = beside_aside (G ++ ((FIRST_UNKNOWN + st.next) ∷ [])) row_before (finished_beside (J.live e (omega arith)))
