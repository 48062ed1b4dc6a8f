-- Different unknowns as tails: the child is dead, or binds both.
use Rattle.std.proofs.Common.{Option, Some, None}
use Prim.Native.Nat.{ℕ, suc, ◌+◌, ◌-◌, ◌*◌, ◌<◌, ◌≤◌}
use mathlib.Core.Path.{◌≡◌, refl, ap, sym, ◌∙◌}
use mathlib.Core.List.{List, ◌++◌}
use mathlib.Core.Bool.{Bool, true, false, cond, ◌||◌, ◌&&◌}
use native.Mathlib.Omega.{arith}
use native.Mathlib.Nat.{zero-add}
use lib.Dec.{eqb}
use lib.ListN.{length, get_or}
use borrow.Author.Tests.{eqb-false}
use Rattle.room.specs.Room.{seg, put, seg-seg}
use Rattle.room.specs.Layout.{HEADER, stride, value_row, second_row}
use Rattle.replace.specs.Fitting.{told-done, told_full}
use Rattle.terms.specs.Bounds.{edition_one, edition_one_unknowns_first, PATH_UNKNOWNS, FIRST_UNKNOWN}
use Rattle.terms.specs.Lists.{any, cond_or}
use Rattle.terms.specs.Term.{Term, unknown, words, kernel, occurs, over, subst}
use Rattle.terms.specs.Laws.Flat.{length_words}
use Rattle.rows.specs.declared.parts.Rest.{Rest}
use Rattle.rows.specs.declared.parts.Made.{Made}
use Rattle.rows.specs.declared.parts.Made.TheVariants.{Dead, Names, Large}
use Rattle.search.specs.State.{State, Node, dead, live, pend, renewed}
use Rattle.search.specs.Children.{bound_state, bound, then_bound, settle}
use Rattle.search.specs.declared.steps.Tails.TheVariants.{Different}
use Rattle.search.specs.Classify.{tails_by, tails}
use Rattle.terms.specs.Shape.{is_unknown, number}
use Rattle.terms.specs.Laws.Substitution.{occurs_over}
use Rattle.rows.specs.Row.{Makes}
use Rattle.binding.specs.Child.{ahead}
use Rattle.rows.specs.Terms.HeldWords.{holds}
use Rattle.rows.specs.Terms.MemberWords.{member_words, holds-members}
use Rattle.room.specs.Parts.{earlier}
use Rattle.choices.specs.declared.sides.Sides.{Sides}
use Rattle.splits.specs.declared.different.Joined.{Joined}
use Rattle.choices.specs.OpenParent.{Parent, Elsewhere, elsewhere_next, elsewhere_put, to_left, to_right, news}
use Rattle.tails.specs.Due.{Due, child, child_is}
use Rattle.splits.specs.OccursAfter.{bound-size, occurs_subst}
use Rattle.splits.specs.Shared.{Sharing, ShareParts, ShareMade, Shared, Twice, TwiceParts, TwiceMade, Renew, RenewParts, RenewMade, JoinedLaid, first_value, second_value, half, twice}
use Rattle.tails.proofs.OpenSplit.{numbers}
use Rattle.tails.proofs.Tailing.{s-word, r-word, s_small, r_small}
use Rattle.tails.proofs.Making.{Below, below_next, below_put, makes_before, makes_dead, makes_names, makes_large, due_elsewhere}
use Rattle.splits.proofs.SharedValues.{u_there, t_there}

module _ {arities l : List ℕ} {from : ℕ} {rest : Rest} {sides : Sides} {joined : Joined} {x y to lent next scratch : ℕ} {l₀ : List ℕ} {p : Parent} {s r : ℕ}
    (R : Renew arities l from rest sides joined x y to lent next scratch l₀ p s r) where
  module _ {a : Option ℕ} {q : List ℕ} (M : ShareMade l joined x next lent scratch a q) where
    shared : Shared l joined s next lent scratch p a q
    shared = M.shared l₀ p s R.sharing R.x_is (omega (arith, R.s_below, R.few))

    within-below : (k n : ℕ) → k + n ≤ value_row lent scratch → seg q k n ≡ seg l k n
    within-below k n h =
        rw zero-add at (sym (seg-seg q 0 (value_row lent scratch) k n h) ∙ ap (λ (ws : List ℕ). seg ws k n) shared.below ∙ seg-seg l 0 (value_row lent scratch) k n h)

    pub share_elsewhere : Elsewhere l q from lent scratch
    share_elsewhere =
        let N = numbers R.due.opened in
        record { long = shared.long; low = within-below 0 (from + stride lent) (omega arith); high = within-below scratch (3 * stride lent) (omega arith) }

    below-shared : Below l q to
    below-shared = let h = R.due.before in record { long = shared.long; below = within-below 0 to (omega arith) }

    twice-next : (twice p next s r).next ≤ PATH_UNKNOWNS
    unfolding twice half bound_state ahead
    twice-next = R.few

    pub renew_large : a ≡ None → Makes edition_one l to lent (live (twice p next s r)) Large q
    unfolding twice edition_one
    renew_large e =
        let h = told_full lent (words edition_one (second_value p next s)) (sym shared.tells ∙ e) in
        makes_large below-shared twice-next
        (omega (arith, length_words edition_one (second_value p next s), (bound-size r (omega (arith, R.r_below, R.few)) (second_value p next s) (half p next s)).1))

    module _ (m : ℕ) (e : a ≡ Some m) where
      twice-due : Twice arities q from rest sides x (joined.u + 1) y m to lent next scratch p s r
      twice-due =
          let t = told-done lent m (words edition_one (second_value p next s)) (sym shared.tells ∙ e) in
          record {
            due = due_elsewhere share_elsewhere R.due;
            first = shared.first;
            second = shared.second m e;
            u_within = omega (arith, R.sharing.u_within);
            m_within = omega (arith, t.0, t.1);
            few = R.few;
            x_is = R.x_is;
            y_is = R.y_is;
            s_below = R.s_below;
            r_below = R.r_below;
          }

      pub renew_parts : TwiceParts arities q from rest sides x (joined.u + 1) y m to lent next scratch
      renew_parts = record { p = p; s = s; r = r; parts = twice-due }

      pub renew_made : {b : Made} {o : List ℕ} → TwiceMade arities q from rest sides x (joined.u + 1) y m to lent next scratch b o → Makes edition_one l to lent (live (twice p next s r)) b o
      renew_made T = makes_before below-shared (T.makes p s r twice-due)

-- ---- the child

kinds : (s r c : Bool) → tails_by s r c ≡ Different → (s ≡ true) × (r ≡ true) × (c ≡ false)
unfolding tails_by
kinds false false c e = let z : ◌≡◌ {A = ℕ} 0 1 = cc in absurd (omega arith)
kinds true false c e = let z : ◌≡◌ {A = ℕ} 0 1 = cc in absurd (omega arith)
kinds false true c e = let z : ◌≡◌ {A = ℕ} 0 1 = cc in absurd (omega arith)
kinds true true false e = (refl, refl, refl)
kinds true true true e = let z : ◌≡◌ {A = ℕ} 0 1 = cc in absurd (omega arith)

different_kind : (t u : Term) → tails t u ≡ Different → (is_unknown (kernel t) ≡ true) × (is_unknown (kernel u) ≡ true) × (eqb (number (kernel t)) (number (kernel u)) ≡ false)
unfolding tails
different_kind t u e = kinds (is_unknown (kernel t)) (is_unknown (kernel u)) (eqb (number (kernel t)) (number (kernel u))) e

then-cond : (a : Bool) (r : ℕ) (v : Term) (st : State) → then_bound r v (cond a dead (live st)) ≡ cond a dead (bound r v st)
unfolding then_bound
then-cond true r v st = refl
then-cond false r v st = refl

module _ {arities l : List ℕ} {from : ℕ} {rest : Rest} {sides : Sides} {to lent next scratch : ℕ} {p : Parent} (D : Due arities l from rest sides to lent next scratch p)
    (kind : tails p.t p.u ≡ Different) where
  abbrev s : ℕ
  s = number (kernel p.t)

  abbrev r : ℕ
  r = number (kernel p.u)

  -- s is in U, or r is in T, or s is in T and r is in U
  abbrev crossing : Bool
  crossing = any (occurs s) (to_left p) || (any (occurs r) (to_right p) || (any (occurs s) (to_right p) && any (occurs r) (to_left p)))

  k : (is_unknown (kernel p.t) ≡ true) × (is_unknown (kernel p.u) ≡ true) × (eqb s r ≡ false)
  k = different_kind p.t p.u kind

  s_less : s < next
  s_less = s_small D k.0

  r_less : r < next
  r_less = r_small D k.1

  renewed_is : renewed (pend (news p ++ p.st.pending) p.st) ≡ ahead (news p) (next + 1) p.st
  unfolding renewed pend ahead
  renewed_is = let e : next + 1 ≡ suc p.st.next = omega (arith, D.opened.next_is) in rw e

  child_different : child p ≡ cond crossing dead (live (twice p next s r))
  unfolding settle bound twice half first_value second_value
  child_different =
      let n : p.st.next ≡ next = sym D.opened.next_is in
      let first : Term = over (to_left p) (unknown next) in
      let second : Term = subst s first (over (to_right p) (unknown next)) in
      let sl = s_less in
      let rl = r_less in
      let os : occurs s first ≡ any (occurs s) (to_left p) = occurs_over s next (λ e. omega arith) (to_left p) in
      let or : occurs r second ≡ (any (occurs r) (to_right p) || (any (occurs s) (to_right p) && any (occurs r) (to_left p))) =
      occurs_subst {r = r} {s = s} (λ e. eqb-false s r k.2 (sym e)) first (over (to_right p) (unknown next))
      ∙ rw (occurs_over r next (λ e. omega arith) (to_right p), occurs_over s next (λ e. omega arith) (to_right p), occurs_over r next (λ e. omega arith) (to_left p)) in
      let G : ℕ → State → Node = λ m st. then_bound r (subst s (over (to_left p) (unknown m)) (over (to_right p) (unknown m))) (bound s (over (to_left p) (unknown m)) st) in
      let start : child p ≡ G p.st.next (renewed (pend (news p ++ p.st.pending) p.st)) = child_is p kind in
      let after : State = ahead (news p) (next + 1) p.st in
      let A : Bool = any (occurs s) (to_left p) in
      let B : Bool = any (occurs r) (to_right p) || (any (occurs s) (to_right p) && any (occurs r) (to_left p)) in
      start
      ∙ ap (λ (m : ℕ). G m (renewed (pend (news p ++ p.st.pending) p.st))) n
      ∙ ap (G next) renewed_is
      ∙ ap (λ (c : Bool). then_bound r second (cond c dead (live (half p next s)))) os
      ∙ then-cond A r second (half p next s)
      ∙ ap (λ (c : Bool). cond A dead (cond c dead (live (twice p next s r)))) or
      ∙ sym (cond_or A B dead (live (twice p next s r)))

  -- ---- U and T are laid out

  module _ {joined : Joined} {q : List ℕ} (L : JoinedLaid l from sides lent scratch joined q) where
    pub sharing : Sharing l lent scratch p joined q
    sharing = L.laid arities rest next p D.opened

    abbrev U : List ℕ
    U = member_words edition_one (to_left p)

    abbrev T : List ℕ
    T = member_words edition_one (to_right p)

    abbrev one : List ℕ
    one = put l (value_row lent scratch) U

    pub joined_elsewhere : Elsewhere l q from lent scratch
    joined_elsewhere =
        let N = numbers D.opened in
        elsewhere_next (elsewhere_put l U (value_row lent scratch) from lent scratch refl (earlier (omega arith)) (earlier (omega arith)))
        (elsewhere_put one T (second_row lent scratch) from lent scratch sharing.room (earlier (omega arith)) (earlier (omega arith)))

    due-joined : Due arities q from rest sides to lent next scratch p
    due-joined = due_elsewhere joined_elsewhere D

    pub below-joined : Below l q to
    below-joined =
        let h = D.before in
        below_next (below_put l U (value_row lent scratch) refl (omega arith)) (below_put one T (second_row lent scratch) sharing.room (omega arith))

    laid-parts : ShareParts q joined next lent scratch
    laid-parts =
        let N = numbers due-joined.opened in
        record { space = N.space; u_within = sharing.u_within; t_within = sharing.t_within; few = N.few }

    pub joined-within : (joined.u ≤ lent) × (joined.t ≤ lent) × (length q ≡ length l)
    joined-within = (sharing.u_within, sharing.t_within, below-joined.long)

    module _ {x y : ℕ} (x_is : x ≡ get_or l (from + HEADER + sides.s) 0) (y_is : y ≡ get_or l (from + HEADER + sides.r) 0) where
      x-word : x ≡ FIRST_UNKNOWN + s
      x-word = x_is ∙ s-word D k.0

      y_word : y ≡ FIRST_UNKNOWN + r
      y_word = y_is ∙ r-word D k.1

      holds_of : (z n : ℕ) → z ≡ FIRST_UNKNOWN + n → n < next → (ms : List Term) → holds z (member_words edition_one ms) ≡ any (occurs n) ms
      unfolding edition_one
      holds_of z n e h ms = let N = numbers D.opened in rw e (holds-members edition_one_unknowns_first (omega arith) ms)

      module _ {c : Bool}
          (test : c ≡ (holds x (seg q (value_row lent scratch) (value_row lent scratch + joined.u - value_row lent scratch))
          || (holds y (seg q (second_row lent scratch) (second_row lent scratch + joined.t - (second_row lent scratch)))
          || (holds x (seg q (second_row lent scratch) (second_row lent scratch + joined.t - (second_row lent scratch)))
          && holds y (seg q (value_row lent scratch) (value_row lent scratch + joined.u - value_row lent scratch)))))) where
        crossing_is : c ≡ crossing
        crossing_is =
            let a : value_row lent scratch + joined.u - value_row lent scratch ≡ joined.u = omega arith in
            let b : second_row lent scratch + joined.t - (second_row lent scratch) ≡ joined.t = omega arith in
            let u = u_there lent scratch q joined next laid-parts sharing in
            let t = t_there lent scratch q joined next laid-parts sharing in
            test ∙ rw (a, b, u, t, holds_of x s x-word s_less (to_left p), holds_of y r y_word r_less (to_right p), holds_of x s x-word s_less (to_right p), holds_of y r y_word r_less (to_left p))

        pub different_dead : c ≡ true → Makes edition_one l to lent (child p) Dead q
        different_dead e = makes_dead below-joined (child_different ∙ rw (sym crossing_is ∙ e))

        module _ (e : c ≡ false) where
          child_live : child p ≡ live (twice p next s r)
          child_live = child_different ∙ rw (sym crossing_is ∙ e)

          pub different_names : PATH_UNKNOWNS ≤ next → Makes edition_one l to lent (child p) Names q
          unfolding edition_one twice half bound_state ahead
          different_names h = rw child_live (makes_names below-joined (omega arith))

          module _ (h : next < PATH_UNKNOWNS) where
            renewing : Renew arities q from rest sides joined x y to lent next scratch l p s r
            renewing = record { due = due-joined; sharing = sharing; few = omega arith; x_is = x-word; y_is = y_word; s_below = s_less; r_below = r_less }

            pub different_parts : RenewParts arities q from rest sides joined x y to lent next scratch
            different_parts = record { l₀ = l; p = p; s = s; r = r; parts = renewing }

            pub different_made : {a : Made} {o : List ℕ} → RenewMade arities q from rest sides joined x y to lent next scratch a o → Makes edition_one l to lent (child p) a o
            different_made M = rw child_live (makes_before below-joined (M.makes l p s r renewing))
