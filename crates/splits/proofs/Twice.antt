-- Two bindings, one after the other: s by way of the last row of scratch, then r.
use Prim.Native.Nat.{ℕ, ◌+◌, ◌<◌, ◌≤◌}
use mathlib.Core.Path.{◌≡◌, refl, ap, sym, ◌∙◌}
use mathlib.Core.List.{List, [], ◌∷◌}
use mathlib.Core.Bool.{Bool}
use native.Mathlib.Omega.{arith}
use native.Mathlib.Nat.{zero-add}
use lib.Dec.{leb, ltb}
use lib.ListN.{length, length-append}
use borrow.Author.Tests.{le-ltb, leb-true, leb-false}
use Rattle.room.specs.Room.{seg, seg-seg}
use Rattle.room.specs.Parts.{earlier, later}
use Rattle.room.specs.Layout.{value_row, shared_row, between_row}
use Rattle.terms.specs.Bounds.{edition_one, PATH_UNKNOWNS}
use Rattle.terms.specs.Lists.{All, both, All-map, All_of_map, cases, none}
use Rattle.terms.specs.Term.{Term, members}
use Rattle.terms.specs.Formed.{Formed, formed_unknown}
use Rattle.terms.specs.Formed.{Equation}
use Rattle.terms.specs.Laws.Substitution.{formed_wider, formed_subst}
use Rattle.terms.specs.Laws.FormedParts.{formed_members, formed_over}
use Rattle.search.specs.State.{State, live, state_size}
use Rattle.search.specs.Children.{bound_state, kept, others}
use Rattle.search.specs.PileEntries.{All-others}
use Rattle.rows.specs.declared.parts.Rest.{Rest}
use Rattle.rows.specs.declared.parts.Made.{Made}
use Rattle.rows.specs.declared.parts.Made.TheVariants.{Large, Live}
use Rattle.rows.specs.Finished.{made}
use Rattle.rows.specs.Row.{Makes, becomes}
use Rattle.binding.specs.Child.{ahead}
use Rattle.search_laws.specs.Picking.{joining_by}
use Rattle.choices.specs.declared.sides.Sides.{Sides}
use Rattle.choices.specs.OpenParent.{Parent, Opened, Elsewhere, elsewhere_next, own_right, to_left}
use Rattle.tails.specs.Bound.{Bound, BoundParts, BoundMade, bound_child}
use Rattle.splits.specs.OccursAfter.{bound-size}
use Rattle.splits.specs.Shared.{Again, AgainParts, AgainMade, Twice, first_value, second_value, half, twice}
use Rattle.tails.proofs.OpenSplit.{numbers}
use Rattle.tails.proofs.Making.{Below, makes_before, makes_large, due_target, due_elsewhere}

-- ---- terms stay formed

-- those members of a formed set that join a tail
formed_joining : {arities : List ℕ} {n : ℕ} (pair : Term → Term → Equation) (tail : Bool) (others : List Term) {owns : List Term} (ds : List ℕ) → All (Formed arities n) owns
    → All (Formed arities n) (joining_by pair tail others owns ds)
unfolding joining_by
formed_joining pair tail others ds none = none
formed_joining pair tail others [] (both f fs) = none
formed_joining pair tail others (d ∷ ds) (both f fs) =
    cases (ltb d (length others)) (λ t. rw t (formed_joining pair tail others ds fs)) (λ q. rw q (both f (formed_joining pair tail others ds fs)))

-- ---- what is told of a live node

module _ (lent : ℕ) (st : State) (few : st.next ≤ PATH_UNKNOWNS) {a : Made} (tells : a ≡ becomes edition_one lent (live st)) where
  told-made : a ≡ made lent (state_size st)
  unfolding becomes edition_one
  told-made = tells ∙ rw (le-ltb PATH_UNKNOWNS st.next few)

  pub live_fits : a ≡ Live → state_size st ≤ lent
  unfolding made
  live_fits e =
      let t = told-made in
      cases (leb (state_size st) lent) (λ b. leb-true (state_size st) lent b)
      (λ b. let g : a ≡ Large = t ∙ rw b in let z : ◌≡◌ {A = ℕ} 0 1 = cc in absurd (omega arith))

  pub not_live : (a ≡ Live → ⊥) → lent < state_size st
  unfolding made
  not_live n =
      let t = told-made in
      cases (leb (state_size st) lent) (λ b. absurd (n (t ∙ rw b))) (λ b. leb-false (state_size st) lent b)

-- ---- the first binding

module _ {arities l : List ℕ} {from : ℕ} {rest : Rest} {sides : Sides} {x u y m to lent next scratch : ℕ} {p : Parent} {s r : ℕ}
    (D : Twice arities l from rest sides x u y m to lent next scratch p s r) where
  abbrev O : Opened arities l from rest sides lent next scratch p
  O = D.due.opened

  abbrev between : ℕ
  between = between_row lent scratch

  first_bound : Bound arities l from rest sides x (value_row lent scratch) u between lent (next + 1) scratch p s (first_value p next)
  first_bound =
      let N = numbers O in
      record {
        named = next;
        opened = O;
        target = record { to_within = omega arith; low_apart = earlier (omega arith); high_apart = earlier (omega arith) };
        x_is = D.x_is;
        name_small = omega (arith, D.s_below);
        stands = D.first;
        few = D.few;
        by_within = omega (arith, D.u_within);
        by_apart = earlier (omega (arith, D.u_within));
      }

  pub first-parts : BoundParts arities l from rest sides x (value_row lent scratch) u between lent (next + 1) scratch
  first-parts = record { p = p; name = s; value = first_value p next; bound = first_bound }

  half-next : (half p next s).next ≤ PATH_UNKNOWNS
  unfolding half bound_state ahead
  half-next = D.few

  module _ {a : Made} {q : List ℕ} (M : BoundMade arities l from rest sides x (value_row lent scratch) u between lent (next + 1) scratch a q) where
    half-made : Makes edition_one l between lent (live (half p next s)) a q
    unfolding half bound_child
    half-made = M.makes p s (first_value p next) first_bound

    between-below : to ≤ between
    between-below = omega (arith, D.due.before)

    half-below : Below l q to
    half-below =
        let h = between-below in
        let B = half-made in
        record {
          long = B.long;
          below = rw zero-add at (sym (seg-seg q 0 between 0 to (omega arith)) ∙ ap (λ (ws : List ℕ). seg ws 0 to) B.below ∙ seg-seg l 0 between 0 to (omega arith));
        }

    twice-next : (twice p next s r).next ≤ PATH_UNKNOWNS
    unfolding twice half bound_state ahead
    twice-next = D.few

    pub twice_large : (a ≡ Live → ⊥) → Makes edition_one l to lent (live (twice p next s r)) Large q
    unfolding twice edition_one
    twice_large n =
        let h = not_live lent (half p next s) half-next half-made.tells n in
        makes_large half-below twice-next (omega (arith, (bound-size r (omega (arith, D.r_below, D.few)) (second_value p next s) (half p next s)).0))

    first_formed : Formed arities (next + 1) (first_value p next)
    unfolding first_value to_left
    first_formed =
        formed_over (formed_joining own_right _ (members p.t) p.es (formed_members (formed_wider {m = next + 1} (omega arith) O.formed_u))) (formed_unknown (omega arith))

    few_unknowns : next + 1 ≤ edition_one.unknown_words
    unfolding edition_one
    few_unknowns = omega (arith, D.few)

    pub second-again : a ≡ Live → Again arities q between y (shared_row lent scratch) m to lent (next + 1) (half p next s) r (second_value p next s)
    unfolding half bound_state ahead kept
    second-again e =
        let N = numbers O in
        let B = half-made in
        let long = B.long in
        record {
          fresh = B.holds (half p next s) refl e;
          fits = live_fits lent (half p next s) half-next B.tells e;
          worded = record { proper = O.worded.proper; functors = O.worded.functors; unknowns = few_unknowns };
          formed = All_of_map (kept s (first_value p next)) (λ k f. formed_subst s (first_value p next) first_formed f) (All-map (λ k f. f.1) (All-others s (All-map (λ k f. formed_wider {m = next + 1} (omega arith) f) O.formed_pile)));
          next_is = refl;
          few = D.few;
          lent_small = N.lent_small;
          small = rw long N.small;
          bindings_small = omega (arith, length-append p.st.bindings (record { name = s; value = first_value p next } ∷ []), O.rested.bindings, N.bindings_small);
          x_is = D.y_is;
          name_small = omega (arith, D.r_below, D.few);
          stands = record {
            stands = rw zero-add at (sym (seg-seg q 0 between (shared_row lent scratch) m (omega (arith, D.m_within))) ∙ ap (λ (ws : List ℕ). seg ws (shared_row lent scratch) m) B.below ∙ seg-seg l 0 between (shared_row lent scratch) m (omega (arith, D.m_within))) ∙ D.second.stands;
          };
          below = omega (arith, D.due.before);
          by_within = rw long (omega (arith, D.m_within));
          by_apart = later (omega (arith, D.due.before));
        }

    pub second_parts : a ≡ Live → AgainParts arities q between y (shared_row lent scratch) m to lent (next + 1)
    second_parts e = record { st = half p next s; name = r; value = second_value p next s; again = second-again e }

    pub twice-made : a ≡ Live → {b : Made} {o : List ℕ} → AgainMade arities q between y (shared_row lent scratch) m to lent (next + 1) b o → Makes edition_one l to lent (live (twice p next s r)) b o
    unfolding twice
    twice-made e A = makes_before half-below (A.makes (half p next s) r (second_value p next s) (second-again e))

    pub twice-kept : {b : Made} {o : List ℕ} → AgainMade arities q between y (shared_row lent scratch) m to lent (next + 1) b o → Elsewhere l o from lent scratch
    twice-kept A = elsewhere_next M.kept (A.kept from scratch (due_target (due_elsewhere M.kept D.due)))
