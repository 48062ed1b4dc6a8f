-- A child that binds an unknown: its new equations are written, then the rest of its parent's row.
use Rattle.std.proofs.Common.{Some, None}
use Prim.Native.Nat.{ℕ, ◌+◌, ◌-◌, ◌<◌, ◌≤◌}
use mathlib.Core.Path.{◌≡◌, ap, sym, ◌∙◌}
use mathlib.Core.Bool.{Bool, true, false}
use mathlib.Core.List.{List, ◌++◌, map}
use native.Mathlib.Omega.{arith}
use lib.ListN.{length, length-append}
use Rattle.room.specs.Room.{seg, seg-put_same}
use Rattle.room.specs.Parts.{apart_part, seg-put}
use Rattle.room.specs.Replaced.{replaced, replaced-append}
use Rattle.room.specs.Layout.{HEADER, right_row, picks_row}
use Rattle.replace.specs.Fitting.{told_full}
use Rattle.terms.specs.Bounds.{edition_one, edition_one_unknowns_first, FIRST_UNKNOWN}
use Rattle.terms.specs.Term.{Term, words, occurs}
use Rattle.terms.specs.Formed.{Equation}
use Rattle.search.specs.State.{State, state_size}
use Rattle.search.specs.Children.{bound, bound_state, replace_in, released, entries}
use Rattle.search.specs.StateWords.{pending_words, length_pending}
use Rattle.rows.specs.declared.parts.Rest.{Rest}
use Rattle.rows.specs.declared.parts.Made.{Made}
use Rattle.rows.specs.declared.parts.Made.TheVariants.{Dead, Large}
use Rattle.rows.specs.Bind.{FinishParts, bound_pending, bound_pile, bound_body}
use Rattle.rows.specs.Terms.HeldWords.{holds, holds_words}
use Rattle.rows.specs.Header.{header_of}
use Rattle.rows.specs.Finished.{Finished, bound_header}
use Rattle.rows.specs.Wrote.{Wrote, wrote_length, done-fits, done-length, done-room}
use Rattle.rows.specs.States.{pending_append, replaced_pending}
use Rattle.rows.specs.Row.{Makes}
use Rattle.binding.specs.Child.{Stands, ahead, finish_makes}
use Rattle.choices.specs.declared.sides.Sides.{Sides}
use Rattle.choices.specs.Gathered.{equations_piece, MeetParts}
use Rattle.choices.specs.OpenParent.{Parent, Opened, opened_after, news}
use Rattle.tails.specs.Bound.{Bound, bound_child, BoundMade}
use Rattle.tails.proofs.OpenSplit.{Numbers, numbers, equation-parts, equations_is}
use Rattle.tails.proofs.Making.{below_same, below_put, makes_before, makes_dead, makes_large, wrote_elsewhere}

-- the new equations alone are no larger than the child
pub news-size : (x : ℕ) → x < FIRST_UNKNOWN → (t : Term) (ds : List Equation) (next : ℕ) (st : State)
    → length (replaced (FIRST_UNKNOWN + x) (words edition_one t) (pending_words edition_one ds)) ≤ state_size (bound_state x t (ahead ds next st))
unfolding state_size bound_state ahead edition_one
news-size x h t ds next st =
    let f : List ℕ → List ℕ = replaced (FIRST_UNKNOWN + x) (words edition_one t) in
    let E : List Equation = map (replace_in x t) (ds ++ st.pending) in
    let R : List Equation = map (released x t) (entries x st.pile) in
    let all : pending_words edition_one (E ++ R) ≡ (f (pending_words edition_one ds) ++ f (pending_words edition_one st.pending)) ++ pending_words edition_one R =
    pending_append edition_one E R
    ∙ ap (λ (ws : List ℕ). ws ++ pending_words edition_one R)
    (sym (replaced_pending edition_one_unknowns_first h t (ds ++ st.pending)) ∙ ap f (pending_append edition_one ds st.pending)
    ∙ replaced-append (FIRST_UNKNOWN + x) (words edition_one t) (pending_words edition_one ds) (pending_words edition_one st.pending)) in
    omega (
      arith,
      length_pending edition_one (E ++ R),
      ap length all,
      length-append (f (pending_words edition_one ds) ++ f (pending_words edition_one st.pending)) (pending_words edition_one R),
      length-append (f (pending_words edition_one ds)) (f (pending_words edition_one st.pending)),
    )

module _ {arities l : List ℕ} {from : ℕ} {rest : Rest} {sides : Sides} {x by m to lent next scratch : ℕ} {p : Parent} {name : ℕ} {value : Term}
    (B : Bound arities l from rest sides x by m to lent next scratch p name value) where
  abbrev us : ℕ
  us = right_row lent scratch

  abbrev picks : ℕ
  picks = picks_row lent scratch

  pub bound-numbers : Numbers l from rest sides lent B.named scratch
  bound-numbers = numbers B.opened

  pub bound-parts : MeetParts l (from + HEADER) scratch sides.n us sides.m picks by m (to + HEADER) lent × MeetParts l (from + HEADER) us sides.m scratch sides.n (picks + sides.n) by m (to + HEADER) lent
  bound-parts =
      let T = B.target in
      equation-parts B.opened by m (to + HEADER) lent (omega (arith, T.to_within))
      (apart_part T.low_apart (omega arith) (omega arith) (omega arith) (omega arith))
      (apart_part T.high_apart (omega arith) (omega arith) (omega arith) (omega arith))
      B.by_within (apart_part B.by_apart (omega arith) (omega arith) (omega arith) (omega arith))

  abbrev piece : List ℕ
  piece = replaced x (seg l by m) (equations_piece l (from + HEADER) scratch sides.n us sides.m picks)

  piece_is : piece ≡ replaced (FIRST_UNKNOWN + name) (words edition_one value) (pending_words edition_one (news p))
  piece_is = rw (equations_is B.opened, B.stands.stands, B.x_is)

  pub bound_full : {r : List ℕ} → Wrote l (to + HEADER) lent piece None r → Makes edition_one l to lent (bound_child p next name value) Large r
  unfolding bound_child edition_one bound_state ahead
  bound_full w =
      let h : lent < length piece = told_full lent piece (sym w.tells) in
      let k = ap length piece_is in
      makes_large (below_put l w.out (to + HEADER) w.room (omega arith)) B.few (omega (arith, news-size name B.name_small value (news p) next p.st))

  module _ {w : ℕ} {r : List ℕ} (W : Wrote l (to + HEADER) lent piece (Some w) r) where
    after : Opened arities r from rest sides lent B.named scratch p
    after = opened_after (wrote_elsewhere B.target W) B.opened

    pub finish-parts : FinishParts r rest by m to w lent x next
    finish-parts =
        let T = B.target in
        let N = bound-numbers in
        let long = wrote_length W in
        record {
          parts = record {
            rest_within = rw long (omega arith);
            by_within = rw long B.by_within;
            to_within = rw long (omega (arith, T.to_within));
            rest_apart = apart_part T.low_apart (omega arith) (omega arith) (omega arith) (omega arith);
            by_apart = apart_part B.by_apart (omega arith) (omega arith) (omega arith) (omega arith);
            small = rw long N.small;
          };
          written_within = omega (arith, done-fits W, done-length W);
          size_small = N.lent_small;
          unknown = omega (arith, B.x_is);
          bindings_small = omega arith;
          next_small = omega (arith, B.few);
        }

    pub bound-made : {a : Made} {q : List ℕ}
        → Finished r to w lent (bound_body edition_one arities r rest x by m)
        (header_of (bound_header rest (w + length (bound_pending edition_one arities r rest x by m)) (length (bound_pile edition_one arities r rest x by m)) m next)) a q
        → Makes edition_one l to lent (bound_child p next name value) a q
    unfolding bound_child edition_one
    bound-made F =
        let S = after in
        let T = B.target in
        let e = B.x_is in
        let k : length piece ≡ w = done-length W in
        let there : Stands r by m value = record {
          stands = rw W.room (seg-put W.out l (apart_part B.by_apart (omega arith) (omega arith) (omega arith) (omega (arith, W.within)))) ∙ B.stands.stands;
        } in
        let new : seg r (to + HEADER) w ≡ replaced (FIRST_UNKNOWN + name) (words edition_one value) (pending_words edition_one (news p)) =
        rw (← k, done-room W) (seg-put_same piece l (to + HEADER) (omega (arith, T.to_within, done-fits W))) ∙ piece_is in
        makes_before (below_put l W.out (to + HEADER) W.room (omega arith))
        (finish_makes S.worded S.rested S.formed_pile there B.name_small (rw e at finish-parts) (news p) new (rw e at F) B.few)

  -- ---- or a dead end

  -- as the code tests it
  module _ {c : Bool} (test : c ≡ holds x (seg l by (by + m - by))) where
    occurs_is : c ≡ occurs name value
    unfolding edition_one
    occurs_is =
        let e : by + m - by ≡ m = omega arith in
        test ∙ rw (e, B.stands.stands, B.x_is) (holds_words edition_one_unknowns_first B.name_small value)

    pub tail_dead : c ≡ true → Makes edition_one l to lent (bound name value (ahead (news p) next p.st)) Dead l
    unfolding bound
    tail_dead e = makes_dead (below_same l to) (rw (sym occurs_is ∙ e))

    pub tail_bound : c ≡ false → {a : Made} {r : List ℕ} → BoundMade arities l from rest sides x by m to lent next scratch a r
        → Makes edition_one l to lent (bound name value (ahead (news p) next p.st)) a r
    unfolding bound bound_child
    tail_bound e M = rw (sym occurs_is ∙ e) (M.makes p name value B)
