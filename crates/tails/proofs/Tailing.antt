-- A split of which one tail is an unknown, or both are: the unknowns' words, and what they are bound to.
use Prim.Native.Nat.{ℕ, ◌+◌, ◌-◌, ◌<◌, ◌≤◌}
use mathlib.Core.Path.{◌≡◌, refl, ap, sym, ◌∙◌}
use mathlib.Core.List.{List, [], ◌∷◌, ◌++◌}
use mathlib.Core.Bool.{Bool, true, false}
use native.Mathlib.Omega.{arith}
use lib.Dec.{eqb}
use lib.ListN.{length, get_or}
use Rattle.room.specs.Room.{seg, put, seg-put_same, get_or-seg}
use Rattle.room.specs.Parts.{earlier, later}
use Rattle.room.specs.Layout.{HEADER, right_row, picks_row, value_row}
use Rattle.terms.specs.Bounds.{edition_one, FIRST_UNKNOWN}
use Rattle.terms.specs.Term.{Term, words, kernel, over}
use Rattle.terms.specs.Shape.{is_unknown, number, unknown_number}
use Rattle.terms.specs.Laws.FormedParts.{unknown_below, formed_kernel}
use Rattle.search.specs.declared.steps.Tails.{Tails}
use Rattle.search.specs.declared.steps.Tails.TheVariants.{Left, Right}
use Rattle.search.specs.State.{State, pend}
use Rattle.search.specs.Classify.{tails_by, tails}
use Rattle.search.specs.Children.{bound, settle}
use Rattle.rows.specs.declared.parts.Rest.{Rest}
use Rattle.rows.specs.declared.parts.Made.{Made}
use Rattle.rows.specs.Terms.MemberWords.{words_over}
use Rattle.rows.specs.Row.{Makes}
use Rattle.binding.specs.Child.{ahead}
use Rattle.choices.specs.declared.sides.Sides.{Sides}
use Rattle.tails.specs.Value.{value_piece, ValueParts}
use Rattle.choices.specs.OpenParent.{Parent, Opened, Elsewhere, elsewhere_next, elsewhere_put, to_left, to_right, news}
use Rattle.tails.specs.Bound.{Bound, BoundParts, TailMade}
use Rattle.tails.specs.Due.{Due, child, child_is}
use Rattle.tails.proofs.OpenSplit.{numbers, s_stands, r_stands, s-noted, r-noted, left-parts, right-parts, left_is, right_is}
use Rattle.tails.proofs.Making.{Below, below_put, makes_before, due_target, due_elsewhere}

-- ---- what the kind of the tails tells

kinds : (s r c : Bool) (k : Tails) → tails_by s r c ≡ k → (k ≡ Left → (s ≡ true) × (r ≡ false)) × (k ≡ Right → (s ≡ false) × (r ≡ true))
unfolding tails_by
kinds false false c k e = (λ f. let z : ◌≡◌ {A = ℕ} 0 1 = cc in absurd (omega arith), λ f. let z : ◌≡◌ {A = ℕ} 0 1 = cc in absurd (omega arith))
kinds true false c k e = (λ f. (refl, refl), λ f. let z : ◌≡◌ {A = ℕ} 0 1 = cc in absurd (omega arith))
kinds false true c k e = (λ f. let z : ◌≡◌ {A = ℕ} 0 1 = cc in absurd (omega arith), λ f. (refl, refl))
kinds true true false k e = (λ f. let z : ◌≡◌ {A = ℕ} 0 1 = cc in absurd (omega arith), λ f. let z : ◌≡◌ {A = ℕ} 0 1 = cc in absurd (omega arith))
kinds true true true k e = (λ f. let z : ◌≡◌ {A = ℕ} 0 1 = cc in absurd (omega arith), λ f. let z : ◌≡◌ {A = ℕ} 0 1 = cc in absurd (omega arith))

pub left-kind : (t u : Term) → tails t u ≡ Left → is_unknown (kernel t) ≡ true
unfolding tails
left-kind t u e = ((kinds (is_unknown (kernel t)) (is_unknown (kernel u)) (eqb (number (kernel t)) (number (kernel u))) Left e).0 refl).0

pub right-kind : (t u : Term) → tails t u ≡ Right → is_unknown (kernel u) ≡ true
unfolding tails
right-kind t u e = ((kinds (is_unknown (kernel t)) (is_unknown (kernel u)) (eqb (number (kernel t)) (number (kernel u))) Right e).1 refl).1

-- an unknown's word stands where its words do
pub unknown_word : (l : List ℕ) (at n : ℕ) (t : Term) → seg l at n ≡ words edition_one t → is_unknown t ≡ true → 0 < n → get_or l at 0 ≡ FIRST_UNKNOWN + number t
unfolding words edition_one
unknown_word l at n t e f h =
    let u = unknown_number t f in
    let w : seg l at n ≡ (FIRST_UNKNOWN + number t) ∷ [] = e ∙ ap (words edition_one) u in
    let z : at + 0 ≡ at = omega arith in
    rw z at (sym (get_or-seg l at n 0 h)) ∙ ap (λ (ws : List ℕ). get_or ws 0 0) w

-- nothing but the news is ahead
pub ahead_is : (es : List _) (next : ℕ) (st : State) → next ≡ st.next → ahead es next st ≡ pend (es ++ st.pending) st
unfolding ahead pend
ahead_is es next st e = rw e

module _ {arities l : List ℕ} {from : ℕ} {rest : Rest} {sides : Sides} {to lent next scratch : ℕ} {p : Parent} (D : Due arities l from rest sides to lent next scratch p) where
  abbrev S : Opened arities l from rest sides lent next scratch p
  S = D.opened

  abbrev us : ℕ
  us = right_row lent scratch

  abbrev picks : ℕ
  picks = picks_row lent scratch

  abbrev value : ℕ
  value = value_row lent scratch

  pub s-word : is_unknown (kernel p.t) ≡ true → get_or l (from + HEADER + sides.s) 0 ≡ FIRST_UNKNOWN + number (kernel p.t)
  s-word e = let N = numbers S in unknown_word l (from + HEADER + sides.s) (sides.right - sides.s) (kernel p.t) (s_stands S) e (omega arith)

  pub r-word : is_unknown (kernel p.u) ≡ true → get_or l (from + HEADER + sides.r) 0 ≡ FIRST_UNKNOWN + number (kernel p.u)
  r-word e = let N = numbers S in unknown_word l (from + HEADER + sides.r) (sides.end - sides.r) (kernel p.u) (r_stands S) e (omega arith)

  pub s_small : is_unknown (kernel p.t) ≡ true → number (kernel p.t) < next
  s_small e = unknown_below (rw (unknown_number (kernel p.t) e) at (formed_kernel S.formed_t))

  pub r_small : is_unknown (kernel p.u) ≡ true → number (kernel p.u) < next
  r_small e = unknown_below (rw (unknown_number (kernel p.u) e) at (formed_kernel S.formed_u))

  -- ---- the value of a tail

  pub left-value-parts : ValueParts l from us (picks + sides.n) sides.m sides.r (sides.end - sides.r) value
  left-value-parts =
      let N = numbers S in
      let e = r-noted S in
      record {
        members = left-parts S value (omega arith) (omega arith);
        tail_within = omega arith;
        to_within = rw e (omega arith);
        apart = rw e (earlier (omega arith));
      }

  pub right-value-parts : ValueParts l from scratch picks sides.n sides.s (sides.right - sides.s) value
  right-value-parts =
      let N = numbers S in
      let e = s-noted S in
      record {
        members = right-parts S value (omega arith) (omega arith);
        tail_within = omega arith;
        to_within = rw e (omega arith);
        apart = rw e (earlier (omega arith));
      }

  left-value : value_piece l from us (picks + sides.n) sides.m sides.n sides.r (sides.end - sides.r) ≡ words edition_one (over (to_left p) (kernel p.u))
  unfolding value_piece
  left-value = rw (left_is S, r_stands S) (sym (words_over edition_one (to_left p) (kernel p.u)))

  right-value : value_piece l from scratch picks sides.n sides.m sides.s (sides.right - sides.s) ≡ words edition_one (over (to_right p) (kernel p.t))
  unfolding value_piece
  right-value = rw (right_is S, s_stands S) (sym (words_over edition_one (to_right p) (kernel p.t)))

  -- a value is laid out in the fourth row of scratch
  value_elsewhere : (out : List ℕ) {r : List ℕ} → r ≡ put l value out → Elsewhere l r from lent scratch
  value_elsewhere out e = let N = numbers S in elsewhere_put l out value from lent scratch e (earlier (omega arith)) (earlier (omega arith))

  pub tail_kept : (out : List ℕ) {r : List ℕ} → r ≡ put l value out → {x m : ℕ} {a : Made} {q : List ℕ} → TailMade arities r from rest sides x value m to lent next scratch a q
      → Elsewhere l q from lent scratch
  tail_kept out there M = elsewhere_next (value_elsewhere out there) M.kept

  module _ {r : List ℕ} (out : List ℕ) (v : Term) (e : out ≡ words edition_one v) (h : length out ≤ lent) (put_there : r ≡ put l value out) {m : ℕ} (k : m ≡ length out) where
    laid-below : Below l r to
    laid-below = let N = numbers S in below_put l out value put_there (omega (arith, D.before))

    due-laid : Due arities r from rest sides to lent next scratch p
    due-laid = due_elsewhere (value_elsewhere out put_there) D

    laid : {x name : ℕ} → x ≡ FIRST_UNKNOWN + name → name < next → Bound arities r from rest sides x value m to lent next scratch p name v
    laid {x} {name} f g =
        let N = numbers S in
        let long = laid-below.long in
        record {
          named = next;
          opened = due-laid.opened;
          target = due_target due-laid;
          x_is = f;
          name_small = omega arith;
          stands = record { stands = rw (put_there, k) (seg-put_same out l value (omega arith)) ∙ e };
          few = N.few;
          by_within = rw long (omega arith);
          by_apart = later (omega (arith, D.before));
        }

    pub tail_laid : {x name : ℕ} → x ≡ FIRST_UNKNOWN + name → name < next → {a : Made} {q : List ℕ} → TailMade arities r from rest sides x value m to lent next scratch a q
        → Makes edition_one l to lent (bound name v (pend (news p ++ p.st.pending) p.st)) a q
    tail_laid {x} {name} f g M =
        rw (← ahead_is (news p) next p.st S.next_is) (makes_before laid-below (M.makes p name v (laid f g)))

    pub tail_bound-parts : {x name : ℕ} → x ≡ FIRST_UNKNOWN + name → name < next → BoundParts arities r from rest sides x value m to lent next scratch
    tail_bound-parts {x} {name} f g = record { p = p; name = name; value = v; bound = laid f g }

  -- ---- only s is an unknown

  module _ (kind : tails p.t p.u ≡ Left) {r : List ℕ} {m x : ℕ} (told : (m ≡ length (value_piece l from us (picks + sides.n) sides.m sides.n sides.r (sides.end - sides.r))) × (m ≤ get_or l (us + sides.m) 0 + (sides.end - sides.r)))
      (there : r ≡ put l value (value_piece l from us (picks + sides.n) sides.m sides.n sides.r (sides.end - sides.r))) (word : x ≡ get_or l (from + HEADER + sides.s) 0) where
    left_short : length (value_piece l from us (picks + sides.n) sides.m sides.n sides.r (sides.end - sides.r)) ≤ lent
    left_short = let N = numbers S in omega (arith, told.0, told.1, r-noted S)

    pub left-bound-parts : BoundParts arities r from rest sides x value m to lent next scratch
    left-bound-parts =
        let k = left-kind p.t p.u kind in
        tail_bound-parts (value_piece l from us (picks + sides.n) sides.m sides.n sides.r (sides.end - sides.r)) (over (to_left p) (kernel p.u)) left-value left_short there told.0 (word ∙ s-word k) (s_small k)

    pub left-made : {a : Made} {q : List ℕ} → TailMade arities r from rest sides x value m to lent next scratch a q → Makes edition_one l to lent (child p) a q
    unfolding settle
    left-made M =
        let k = left-kind p.t p.u kind in
        rw (child_is p kind) (tail_laid (value_piece l from us (picks + sides.n) sides.m sides.n sides.r (sides.end - sides.r)) (over (to_left p) (kernel p.u)) left-value left_short there told.0 (word ∙ s-word k) (s_small k) M)

  -- ---- only r is an unknown

  module _ (kind : tails p.t p.u ≡ Right) {r : List ℕ} {m x : ℕ} (told : (m ≡ length (value_piece l from scratch picks sides.n sides.m sides.s (sides.right - sides.s))) × (m ≤ get_or l (scratch + sides.n) 0 + (sides.right - sides.s)))
      (there : r ≡ put l value (value_piece l from scratch picks sides.n sides.m sides.s (sides.right - sides.s))) (word : x ≡ get_or l (from + HEADER + sides.r) 0) where
    right_short : length (value_piece l from scratch picks sides.n sides.m sides.s (sides.right - sides.s)) ≤ lent
    right_short = let N = numbers S in omega (arith, told.0, told.1, s-noted S)

    pub right-bound-parts : BoundParts arities r from rest sides x value m to lent next scratch
    right-bound-parts =
        let k = right-kind p.t p.u kind in
        tail_bound-parts (value_piece l from scratch picks sides.n sides.m sides.s (sides.right - sides.s)) (over (to_right p) (kernel p.t)) right-value right_short there told.0 (word ∙ r-word k) (r_small k)

    pub right-made : {a : Made} {q : List ℕ} → TailMade arities r from rest sides x value m to lent next scratch a q → Makes edition_one l to lent (child p) a q
    unfolding settle
    right-made M =
        let k = right-kind p.t p.u kind in
        rw (child_is p kind) (tail_laid (value_piece l from scratch picks sides.n sides.m sides.s (sides.right - sides.s)) (over (to_right p) (kernel p.t)) right-value right_short there told.0 (word ∙ r-word k) (r_small k) M)
