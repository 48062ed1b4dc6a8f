-- A split opened at a child's number: its sides' places, their numbers and the number's digits are in scratch.
use Prim.Native.Nat.{ℕ, ◌+◌, ◌*◌, ◌≤◌, ◌<◌}
use mathlib.Core.Path.{◌≡◌, sym, ap, ◌∙◌}
use mathlib.Core.List.{List, [], ◌∷◌, ◌++◌}
use native.Mathlib.Omega.{arith}
use native.Mathlib.Nat.{zero-mul, one-mul, mul-le-mul_right}
use lib.ListN.{length, length-append, drop_of_length-le}
use Rattle.room.specs.Room.{seg, put, length-put, length-seg, seg-append, seg-put_same}
use Rattle.room.specs.Parts.{earlier, seg-put}
use Rattle.room.specs.Layout.{stride, right_row, picks_row}
use Rattle.terms.specs.Term.{members, size}
use Rattle.terms.specs.Formed.{Equation}
use Rattle.search.specs.State.{State}
use Rattle.search.specs.declared.steps.Tails.{Tails}
use Rattle.rows.specs.declared.parts.Rest.{Rest}
use Rattle.search_laws.specs.ChoiceNumbers.{choices, number as value_of_lem}
use Rattle.search_laws.specs.Picking.{radix}
use Rattle.choices.specs.declared.sides.Sides.{Sides}
use Rattle.choices.specs.Digits.{copies, length-copies, length_digits, DigitParts, Decoded}
use Rattle.choices.specs.MemberPlaces.{places}
use Rattle.choices.specs.GatheredPicks.{length-places}
use Rattle.choices.specs.Open.{OpenSides}
use Rattle.choices.specs.OpenParent.{Parent, Opened, few_members}
use Rattle.only_child.specs.declared.next.Next.{Next}
use Rattle.only_child.specs.declared.next.Next.TheVariants.{Spent}
use Rattle.pick_loop.specs.PicksInScratch.{left_open, right_open, all_children, place, Picks, Picked}
use Rattle.noted_sides.specs.NotedSides.{numbers_of, NumberParts}
use Rattle.pick_loop.specs.Shown.{Opens}
use Rattle.openings.specs.SplitRow.{Splitting}
use Rattle.pick_loop.proofs.Numbering.{Parts, digits-parts, place_is, how_many}
use Rattle.openings.proofs.SplitOpened.{Noted, parent, opened, some-picks, few_picks, picks_of, all_of, opens_none, opens-from}
use Rattle.pick_loop.proofs.Repicking.{same_long, same_before, same_told, repicked}
use Rattle.openings.proofs.SplitSides.{open_there}

module _ {arities l : List ℕ} {at : ℕ} {rest : Rest} {right end : ℕ} {kind : Tails} {number lent next scratch most : ℕ} {st : State} {e : Equation} {es : List Equation}
    (S : Splitting arities l at rest right end kind number lent next scratch most st e es)
    {sides : Sides} {r : List ℕ} (O : OpenSides l right end lent scratch e.left e.right sides r) where
  abbrev us : ℕ
  us = right_row lent scratch

  abbrev picks : ℕ
  picks = picks_row lent scratch

  pub members_few : (sides.n + sides.m < sides.end) × (sides.end ≤ lent)
  members_few = (
    omega (arith, few_members e.left, few_members e.right, O.n_is, O.m_is, O.end_is, S.end_is),
    omega (arith, O.end_is, (open_there S).fits),
  )

  noted-t : length (places e.left 0) ≡ sides.n + 1
  noted-t = omega (arith, length-places e.left 0, O.n_is)

  noted-u : length (places e.right (size e.left)) ≡ sides.m + 1
  noted-u = omega (arith, length-places e.right (size e.left), O.m_is)

  noted_long : length r ≡ length l
  noted_long = ap length O.room ∙ length-put (put l scratch (places e.left 0)) us (places e.right (size e.left)) ∙ length-put l scratch (places e.left 0)

  pub number-parts : NumberParts r sides (picks + lent)
  number-parts =
      let T = open_there S in
      let H = members_few in
      record {
        within = omega (arith, noted_long, T.space);
        n_small = omega (arith, T.lent_small);
        m_small = omega (arith, T.lent_small);
        end_small = omega (arith, T.lent_small);
        small = rw noted_long T.small;
      }

  -- ---- the numbers are written

  module _ {q : List ℕ} (W : q ≡ put r (picks + lent) (numbers_of sides)) where
    long : length q ≡ length l
    long = ap length W ∙ length-put r (picks + lent) (numbers_of sides) ∙ noted_long

    same_noted : (k n : ℕ) → k + n ≤ picks + lent → seg q k n ≡ seg r k n
    same_noted k n h = rw W (seg-put (numbers_of sides) r (earlier h))

    same_below : (k n : ℕ) → k + n ≤ scratch → seg q k n ≡ seg l k n
    same_below k n h =
        same_noted k n (omega arith)
        ∙ rw O.room (seg-put (places e.right (size e.left)) (put l scratch (places e.left 0)) (earlier (omega arith)) ∙ seg-put (places e.left 0) l (earlier h))

    noted : Noted q sides lent scratch e.left e.right
    noted =
        let T = open_there S in
        let H = members_few in
        let once : List ℕ = put l scratch (places e.left 0) in
        let once_long : length once ≡ length l = length-put l scratch (places e.left 0) in
        record {
          n_is = O.n_is;
          m_is = O.m_is;
          right_is = O.right_is ∙ S.right_is;
          end_is = O.end_is ∙ S.end_is;
          s_is = O.s_is;
          r_is = O.r_is;
          t_noted =
              same_noted scratch (sides.n + 1) (omega arith)
              ∙ rw (O.room, ← noted-t) (seg-put (places e.right (size e.left)) once (earlier (omega (arith, noted-t))) ∙ seg-put_same (places e.left 0) l scratch (omega (arith, noted-t, T.space)));
          u_noted =
              same_noted us (sides.m + 1) (omega arith)
              ∙ rw (O.room, ← noted-u) (seg-put_same (places e.right (size e.left)) once us (omega (arith, noted-u, once_long, T.space)));
        }

    told : seg q (picks + lent) 3 ≡ length (members e.left) ∷ length (members e.right) ∷ (size e.left + size e.right) ∷ []
    unfolding numbers_of
    told =
        let there : seg q (picks + lent) 3 ≡ numbers_of sides = rw W (seg-put_same (numbers_of sides) r (picks + lent) number-parts.within) in
        there ∙ rw (O.n_is, O.m_is, O.end_is, S.end_is)

    -- with whatever digits stand there
    abbrev before : Parent
    before = parent st e es (seg q picks sides.n) (seg q (picks + sides.n) sides.m)

    open_before : Opened arities q at rest sides lent next scratch before
    open_before =
        let T = open_there S in
        let H = members_few in
        opened S noted long same_below (seg q picks sides.n) (seg q (picks + sides.n) sides.m) (seg-append q picks sides.n sides.m)
        (length-seg q picks sides.n (omega (arith, long, T.space)))
        (length-seg q (picks + sides.n) sides.m (omega (arith, long, T.space)))

    -- ---- the digits are written

    module _ {first second : ℕ} (f : first ≡ radix (right_open kind) sides.m) (g : second ≡ radix (left_open kind) sides.n) where
      pub digit-parts : DigitParts q sides.n first picks × DigitParts q sides.m second (picks + sides.n)
      digit-parts =
          let T = open_there S in
          let H = members_few in
          let some = some-picks S noted long same_below f g in
          let few = few_picks S noted long same_below f g in (
            record { within = omega (arith, long, T.space); positive = some.0; small = few.0 },
            record { within = omega (arith, long, T.space); positive = some.1; small = few.1 },
          )

      module _ {left : ℕ} {r' : List ℕ} (D : Decoded q picks (copies sides.n first ++ copies sides.m second) number left r') where
        pub written : Parts (copies sides.n first) (copies sides.m second) D.digits
        written = digits-parts (copies sides.n first) (copies sides.m second) D.proper

        n_many : length written.ds ≡ sides.n
        n_many = length_digits written.first ∙ length-copies sides.n first

        m_many : length written.es ≡ sides.m
        m_many = length_digits written.second ∙ length-copies sides.m second

        abbrev start : Parent
        start = parent st e es written.ds written.es

        pub here : Picks arities r' at rest sides kind first second lent next scratch most start
        here =
            picks_of S noted long same_below f g (repicked open_before D.digits D.room written.ds written.es written.whole n_many m_many) written.first written.second

        all_long : length r' ≡ length l
        all_long = same_long open_before D.digits D.room ∙ long

        all-below : seg r' 0 (at + stride lent) ≡ seg l 0 (at + stride lent)
        all-below =
            let T = open_there S in
            same_before open_before D.digits D.room 0 (at + stride lent) (omega (arith, T.row)) ∙ same_below 0 (at + stride lent) (omega (arith, T.row))

        -- the number is past the last child
        pub told_past : (left ≡ 0 → ⊥) → Opens l at number lent scratch most st (Spent 0) r'
        told_past h =
            let c : ℕ = choices (copies sides.n first ++ copies sides.m second) in
            let one : 1 ≤ left = omega arith in
            let m : 1 * c ≤ left * c = mul-le-mul_right c one in
            opens_none S r' all_long all-below (rw (all_of S written.ds written.es) (drop_of_length-le (all_children start) {i = number} (omega (arith, how_many here, D.value, one-mul c, m))))

        place_of : left ≡ 0 → place start ≡ number
        place_of z =
            let c : ℕ = choices (copies sides.n first ++ copies sides.m second) in
            let v : value_of_lem (copies sides.n first ++ copies sides.m second) D.digits + 0 * c ≡ number = rw z at D.value in
            place_is here ∙ ap (value_of_lem (copies sides.n first ++ copies sides.m second)) (sym written.whole) ∙ omega (arith, v, zero-mul c)

        pub told-from : left ≡ 0 → {a : Next} {x : List ℕ} → Picked arities r' at rest sides kind first second lent next scratch most start a x → Opens l at number lent scratch most st a x
        told-from z K =
            let many : length D.digits ≡ sides.n + sides.m = omega (arith, ap length written.whole, length-append written.ds written.es, n_many, m_many) in
            opens-from S r' all_long all-below (same_told open_before D.digits D.room many ∙ told) (place_of z) K
