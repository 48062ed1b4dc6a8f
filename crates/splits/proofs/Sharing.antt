-- U and T laid out, and the second of two bindings.
use Prim.Native.Nat.{ℕ, ◌+◌, ◌-◌, ◌≤◌}
use mathlib.Core.Path.{◌≡◌, refl, ap, sym, ◌∙◌}
use mathlib.Core.List.{List, []}
use native.Mathlib.Omega.{arith}
use lib.ListN.{length, get_or}
use Rattle.room.specs.Room.{seg, put, seg-zero}
use Rattle.room.specs.Parts.{later, apart_part}
use Rattle.room.specs.Replaced.{replaced, replaced-nil}
use Rattle.room.specs.Layout.{HEADER, right_row, picks_row, value_row, second_row}
use Rattle.terms.specs.Bounds.{edition_one, FIRST_UNKNOWN}
use Rattle.terms.specs.Term.{Term, words}
use Rattle.terms.specs.Formed.{row, sides}
use Rattle.search.specs.State.{State, live, pend, size_equations, state_size}
use Rattle.search.specs.Children.{bound_state}
use Rattle.search.specs.StateWords.{pending_words}
use Rattle.rows.specs.declared.parts.Rest.{Rest}
use Rattle.rows.specs.declared.parts.Made.{Made}
use Rattle.rows.specs.declared.header.Header.{Header}
use Rattle.rows.specs.Bind.{FinishParts, bound_pending, bound_pile, bound_body}
use Rattle.rows.specs.Header.{header_of}
use Rattle.rows.specs.Finished.{Finished, bound_header}
use Rattle.rows.specs.First.{header_in, HeaderParts, rest_after, header_in_words, holds-rest}
use Rattle.rows.specs.Row.{Rested, Makes, header_for}
use Rattle.binding.specs.Child.{ahead, finish_makes}
use Rattle.choices.specs.declared.sides.Sides.{Sides}
use Rattle.choices.specs.Gathered.{joining_piece, TailParts}
use Rattle.choices.specs.OpenParent.{Parent, Opened}
use Rattle.splits.specs.Shared.{Sharing, Again}
use Rattle.tails.proofs.OpenSplit.{numbers, s-noted, r-noted, left-parts, right-parts, left_is, right_is}
use Rattle.splits.proofs.SameTail.{opened_up}

-- ---- U, then T

module _ {arities l : List ℕ} {from : ℕ} {rest : Rest} {sides : Sides} {lent next scratch : ℕ} {p : Parent} (S : Opened arities l from rest sides lent next scratch p) where
  abbrev us : ℕ
  us = right_row lent scratch

  abbrev picks : ℕ
  picks = picks_row lent scratch

  abbrev first : ℕ
  first = value_row lent scratch

  abbrev second : ℕ
  second = second_row lent scratch

  pub u-parts : TailParts l (from + HEADER) us (picks + sides.n) sides.m first
  u-parts = let N = numbers S in left-parts S first (omega arith) (omega arith)

  module _ {u : ℕ} {r : List ℕ} (u_told : (u ≡ length (joining_piece l (from + HEADER) us (picks + sides.n) sides.m sides.n)) × (u ≤ get_or l (us + sides.m) 0))
      (u_room : r ≡ put l first (joining_piece l (from + HEADER) us (picks + sides.n) sides.m sides.n)) where
    opened_u : Opened arities r from rest sides lent next scratch p
    opened_u = opened_up S (joining_piece l (from + HEADER) us (picks + sides.n) sides.m sides.n) first u_room (omega arith)

    pub t-parts : TailParts r (from + HEADER) scratch picks sides.n second
    t-parts = let N = numbers opened_u in right-parts opened_u second (omega arith) (omega arith)

    pub both-laid : {t : ℕ} {q : List ℕ} → (t ≡ length (joining_piece r (from + HEADER) scratch picks sides.n sides.m)) × (t ≤ get_or r (scratch + sides.n) 0)
        → q ≡ put r second (joining_piece r (from + HEADER) scratch picks sides.n sides.m) → Sharing l lent scratch p (record { u = u; t = t }) q
    both-laid t_told t_room =
        let N = numbers S in
        record {
          room = t_room ∙ rw (right_is opened_u, u_room, left_is S);
          u_is = u_told.0 ∙ ap length (left_is S);
          t_is = t_told.0 ∙ ap length (right_is opened_u);
          u_within = omega (arith, u_told.1, r-noted S);
          t_within = omega (arith, t_told.1, s-noted opened_u);
        }

-- ---- the second binding

ahead_none : (next : ℕ) (st : State) → next ≡ st.next → ahead [] next st ≡ st
unfolding ahead
ahead_none next st e = rw e

module _ {arities l : List ℕ} {between x by m to lent next : ℕ} {st : State} {name : ℕ} {value : Term} (A : Again arities l between x by m to lent next st name value) where
  pub header-within : between + (HEADER + state_size st) ≤ length l
  header-within = A.fresh.holds.within

  module _ {h : Header} (told_header : h ≡ header_in (seg l between (between + 5 - between))) where
    header_is : h ≡ header_for st
    header_is =
        let e : between + 5 - between ≡ 5 = omega arith in
        told_header ∙ rw (e, A.fresh.holds.header) (header_in_words (header_for st))

    pub rest-parts : HeaderParts between h 0
    unfolding header_for state_size
    rest-parts = rw header_is (record { place = omega (arith, header-within, A.small); skipped = omega arith; parts = omega arith })

    module _ {rest : Rest} (told_rest : rest ≡ rest_after between h 0) where
      rest_is : rest ≡ rest_after between (header_for st) 0
      rest_is = told_rest ∙ ap (λ (k : Header). rest_after between k 0) header_is

      rested : Rested edition_one l rest st
      unfolding size_equations pend
      rested = rw rest_is (holds-rest A.fresh.holds [] st.pending refl)

      pub again-parts : FinishParts l rest by m to 0 lent x next
      unfolding rest_after header_for state_size
      again-parts =
          let w = header-within in
          rw rest_is (record {
            parts = record {
              rest_within = omega arith;
              by_within = A.by_within;
              to_within = omega (arith, A.below);
              rest_apart = later (omega (arith, A.below));
              by_apart = apart_part A.by_apart (omega arith) (omega arith) (omega arith) (omega arith);
              small = A.small;
            };
            written_within = omega arith;
            size_small = A.lent_small;
            unknown = omega (arith, A.x_is);
            bindings_small = A.bindings_small;
            next_small = omega (arith, A.few);
          })

      pub again-made : {a : Made} {r : List ℕ}
          → Finished l to 0 lent (bound_body edition_one arities l rest x by m)
          (header_of (bound_header rest (0 + length (bound_pending edition_one arities l rest x by m)) (length (bound_pile edition_one arities l rest x by m)) m next)) a r
          → Makes edition_one l to lent (live (bound_state name value st)) a r
      unfolding edition_one pending_words row sides
      again-made F =
          let e = A.x_is in
          let new : seg l (to + HEADER) 0 ≡ replaced (FIRST_UNKNOWN + name) (words edition_one value) (pending_words edition_one []) = seg-zero l (to + HEADER) ∙ sym (replaced-nil (FIRST_UNKNOWN + name) (words edition_one value)) in
          rw (ahead_none next st A.next_is) at
          (finish_makes A.worded rested A.formed A.stands A.name_small (rw e at again-parts) [] new (rw e at F) A.few)
