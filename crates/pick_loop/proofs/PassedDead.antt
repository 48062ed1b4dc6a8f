-- Children passed one after the other: those up to the picks that stand in scratch are dead ends.
use Prim.Native.Nat.{ℕ, zero, suc, ◌+◌, ◌≤◌, ◌<◌}
use mathlib.Core.Path.{◌≡◌, refl, sym, ap, ◌∙◌}
use mathlib.Core.Bool.{Bool, true, false}
use mathlib.Core.List.{List, ◌∷◌, ◌++◌}
use native.Mathlib.Omega.{arith}
use native.Mathlib.Nat.{add-zero}
use lib.ListN.{length, drop}
use Rattle.room.specs.Room.{seg}
use Rattle.room.specs.Layout.{stride, sides_at}
use Rattle.terms.specs.Bounds.{Bounds, edition_one}
use Rattle.search.specs.State.{State, Node, dead, live}
use Rattle.search.specs.declared.steps.Tails.{Tails}
use Rattle.rows.specs.declared.parts.Rest.{Rest}
use Rattle.rows.specs.declared.parts.Made.{Made}
use Rattle.rows.specs.declared.parts.Made.TheVariants.{Dead}
use Rattle.rows.specs.declared.parts.Reached.{Reached}
use Rattle.rows.specs.Made.{of_reached, reached_alive}
use Rattle.rows.specs.Row.{becomes}
use Rattle.choices.specs.declared.sides.Sides.{Sides}
use Rattle.choices.specs.Digits.{PickParts, Advanced}
use Rattle.choices.specs.OpenParent.{Parent, Elsewhere, same_high, opened_after}
use Rattle.tails.specs.Due.{child, Due, ChildParts, ChildMade}
use Rattle.only_child.specs.declared.next.Next.{Next}
use Rattle.only_child.specs.declared.next.Next.TheVariants.{Spent, Node as Found, Due as Later}
use Rattle.only_child.specs.Became.{never_dead}
use Rattle.only_child.specs.Next.{dead_ends, all_dead, then_live, then_due}
use Rattle.pick_loop.specs.PicksInScratch.{all_children, place, Picks, Ended, again, Further, Picked}
use Rattle.pick_loop.proofs.Advancing.{advance_parts, advanced_long, advanced_before, advanced_told, advanced, one_further, none_further}
use Rattle.pick_loop.proofs.Numbering.{radices, child-here}
use Rattle.pick_loop.proofs.Repicking.{numbers, picks}
use Rattle.pick_loop.proofs.ToldBefore.{spent_none, due_none, found_same, tells_before}

-- ---- dead ends

dead_more : (k : ℕ) (ns : List Node) → dead_ends k ++ (dead ∷ ns) ≡ dead_ends (suc k) ++ ns
unfolding dead_ends
dead_more zero ns = refl
dead_more (suc k) ns = ap (λ (l : List Node). dead ∷ l) (dead_more k ns)

module _ (b : Bounds) (lent : ℕ) where
  -- what is told of a node says whether it is dead
  pub told_dead : (node : Node) → Dead ≡ becomes b lent node → node ≡ dead
  told_dead dead e = refl
  told_dead (live st) e = absurd (never_dead b lent st e)

  pub told_live : (node : Node) (a : Reached) → of_reached a ≡ becomes b lent node → (st : State) × (node ≡ live st)
  unfolding becomes
  told_live dead a e = absurd (reached_alive a e)
  told_live (live st) a e = (st, refl)

-- ---- the loop

-- after k dead ends
pub record Passed (arities l : List ℕ) (at : ℕ) (rest : Rest) (sides : Sides) (kind : Tails) (first second lent next scratch most : ℕ) (p : Parent) (r : List ℕ) (k : ℕ) : Type 0 where
  pub on : Further arities r at rest sides kind first second lent next scratch most p k
  pub few : k ≤ most
  pub passed : drop (place p) (all_children p) ≡ dead_ends k ++ drop (place p + k) (all_children p)
  pub long : length r ≡ length l
  pub below : seg r 0 (at + stride lent) ≡ seg l 0 (at + stride lent)
  pub told : seg r (sides_at lent scratch) 3 ≡ seg l (sides_at lent scratch) 3

-- what the child that was made leaves as it was
same_told : {l r : List ℕ} {at lent scratch : ℕ} → Elsewhere l r at lent scratch → seg r (sides_at lent scratch) 3 ≡ seg l (sides_at lent scratch) 3
same_told {lent = lent} {scratch = scratch} E =
    let e : scratch + (stride lent + stride lent + lent) ≡ sides_at lent scratch = omega arith in
    rw e at (same_high E (stride lent + stride lent + lent) 3 (omega arith))

module _ {arities l : List ℕ} {at : ℕ} {rest : Rest} {sides : Sides} {kind : Tails} {first second lent next scratch most : ℕ} {p : Parent} where
  pub none_passed : Picks arities l at rest sides kind first second lent next scratch most p → Passed arities l at rest sides kind first second lent next scratch most p l 0
  unfolding dead_ends
  none_passed P = record {
    on = record { ds = p.ds; es = p.es; here = P; place_at = sym (add-zero (place p)) };
    few = omega arith;
    passed = ap (λ (k : ℕ). drop k (all_children p)) (sym (add-zero (place p)));
    long = refl;
    below = refl;
    told = refl;
  }

  module _ {r : List ℕ} {k : ℕ} (P : Passed arities l at rest sides kind first second lent next scratch most p r k) where
    abbrev q : Parent
    q = again p P.on.ds P.on.es

    abbrev to : ℕ
    to = at + stride lent

    pub due : k < most → Due arities r at rest sides to lent next scratch q
    due h = record { opened = P.on.here.opened; after = omega arith; before = P.on.here.child (omega arith) }

    pub child-parts : k < most → ChildParts arities r at rest sides kind to lent next scratch
    child-parts h = record { p = q; due = due h; kind = P.on.here.kind_is }

    -- the child that is due
    from-here : drop (place p) (all_children p) ≡ dead_ends k ++ (child q ∷ drop (suc (place q)) (all_children p))
    unfolding all_children
    from-here = P.passed ∙ ap (λ (ns : List Node). dead_ends k ++ ns) (ap (λ (j : ℕ). drop j (all_children p)) (sym P.on.place_at) ∙ child-here P.on.here)

    -- no more may be passed
    pub told-due : most ≤ k → Picked arities l at rest sides kind first second lent next scratch most p (Later k) r
    told-due h = record {
      long = P.long;
      below = P.below;
      told = P.told;
      tells = then_due {k = k} (child q) _ (omega (arith, P.few)) from-here;
      further = λ j e. absurd (due_none e);
    }

    -- the picks stand where they stood
    pub still : {r' : List ℕ} → Elsewhere r r' at lent scratch → Picks arities r' at rest sides kind first second lent next scratch most q
    still E =
        let H = P.on.here in
        record {
          opened = opened_after E H.opened;
          kind_is = H.kind_is;
          first_is = H.first_is;
          second_is = H.second_is;
          proper_t = H.proper_t;
          proper_u = H.proper_u;
          child = H.child;
          most_small = H.most_small;
        }

    module _ (h : k < most) {a : Made} {r' : List ℕ} (M : ChildMade arities r at rest sides kind to lent next scratch a r') where
      pub elsewhere : Elsewhere r r' at lent scratch
      elsewhere = M.kept q (due h) P.on.here.kind_is

      -- a node that is no dead end
      pub told_node : (node : Reached) → a ≡ of_reached node → Picked arities l at rest sides kind first second lent next scratch most p (Found k node) r'
      told_node node g =
          let N = M.makes q (due h) P.on.here.kind_is in
          let S = told_live edition_one lent (child q) node (sym g ∙ N.tells) in
          record {
            long = N.long ∙ P.long;
            below = N.below ∙ P.below;
            told = same_told elsewhere ∙ P.told;
            tells = then_live {k = k} S.0 (drop (suc (place q)) (all_children p)) h (rw S.1 at from-here) (record {
              long = N.long ∙ P.long;
              below = N.below ∙ P.below;
              tells = sym g ∙ N.tells ∙ ap (becomes edition_one lent) S.1;
              holds = λ st e f. N.holds st (S.1 ∙ e) (g ∙ f);
            });
            further = λ j e. record { ds = P.on.ds; es = P.on.es; here = still elsewhere; place_at = P.on.place_at ∙ ap (λ (i : ℕ). place p + i) (found_same e) };
          }

      pub made_dead : a ≡ Dead → child q ≡ dead
      made_dead e = told_dead edition_one lent (child q) (sym e ∙ (M.makes q (due h) P.on.here.kind_is).tells)

    -- a dead end
    module _ (h : k < most) {r' : List ℕ} (E : Elsewhere r r' at lent scratch) (d : child q ≡ dead) where
      one_more : drop (place p) (all_children p) ≡ dead_ends (suc k) ++ drop (suc (place q)) (all_children p)
      one_more = from-here ∙ ap (λ (n : Node). dead_ends k ++ (n ∷ drop (suc (place q)) (all_children p))) d ∙ dead_more k _

      pub dead_parts : PickParts r' sides.n first (picks P.on.here.opened) × PickParts r' sides.m second (picks P.on.here.opened + sides.n)
      dead_parts = advance_parts (still E)

      module _ {more : Bool} {r'' : List ℕ} (A : Advanced r' (picks P.on.here.opened) (radices P.on.here) (seg r' (picks P.on.here.opened) (sides.n + sides.m)) more r'') where
        long : length r'' ≡ length l
        long = advanced_long (still E) A ∙ E.long ∙ P.long

        below : seg r'' 0 to ≡ seg l 0 to
        below = let N = numbers (still E).opened in advanced_before (still E) A 0 to (omega arith) ∙ E.low ∙ P.below

        told : seg r'' (sides_at lent scratch) 3 ≡ seg l (sides_at lent scratch) 3
        told = advanced_told (still E) A ∙ same_told E ∙ P.told

        pub told_spent : more ≡ false → Picked arities l at rest sides kind first second lent next scratch most p (Spent (k + 1)) r''
        unfolding all_children
        told_spent f =
            let s : suc k ≡ k + 1 = omega arith in
            record {
              long = long;
              below = below;
              told = told;
              tells = all_dead {k = k + 1} (omega arith) (one_more ∙ rw s (ap (λ (ns : List Node). dead_ends (k + 1) ++ ns) (none_further (still E) A f)));
              further = λ j e. absurd (spent_none e);
            }

        pub passed_again : more ≡ true → Passed arities l at rest sides kind first second lent next scratch most p r'' (k + 1)
        passed_again f =
            let s : suc k ≡ k + 1 = omega arith in
            let t : suc (place q) ≡ place p + (k + 1) = omega (arith, P.on.place_at) in
            record {
              on = record { ds = _; es = _; here = advanced (still E) A; place_at = one_further (still E) A f ∙ t };
              few = omega arith;
              passed = one_more ∙ rw (s, t);
              long = long;
              below = below;
              told = told;
            }

-- ---- a first child

module _ {arities l : List ℕ} {at : ℕ} {rest : Rest} {sides : Sides} {kind : Tails} {first second lent next scratch most : ℕ} {p : Parent} where
  -- it is a dead end
  module _ (E : Ended arities l at rest sides kind first second lent next scratch most p) where
    here : Elsewhere l l at lent scratch
    here = record { long = refl; low = refl; high = refl }

    pub first-parts : PickParts l sides.n first (picks E.here.opened) × PickParts l sides.m second (picks E.here.opened + sides.n)
    first-parts = advance_parts E.here

    module _ {more : Bool} {r : List ℕ} (A : Advanced l (picks E.here.opened) (radices E.here) (seg l (picks E.here.opened) (sides.n + sides.m)) more r) where
      pub first_spent : more ≡ false → Picked arities l at rest sides kind first second lent next scratch most p (Spent 1) r
      unfolding child none_passed
      first_spent = told_spent (none_passed E.here) E.may here E.ended A

      pub first_passed : more ≡ true → Passed arities l at rest sides kind first second lent next scratch most p r 1
      unfolding child none_passed
      first_passed = passed_again (none_passed E.here) E.may here E.ended A

  -- it was made
  module _ (P : Picks arities l at rest sides kind first second lent next scratch most p) where
    pub first-due : most ≡ 0 → Picked arities l at rest sides kind first second lent next scratch most p (Later 0) l
    first-due e = told-due (none_passed P) (omega arith)

    module _ (h : 0 < most) where
      pub first-asked : ChildParts arities l at rest sides kind (at + stride lent) lent next scratch
      first-asked = child-parts (none_passed P) h

      module _ {a : Made} {r : List ℕ} (M : ChildMade arities l at rest sides kind (at + stride lent) lent next scratch a r) where
        pub first_node : (node : Reached) → a ≡ of_reached node → Picked arities l at rest sides kind first second lent next scratch most p (Found 0 node) r
        first_node = told_node (none_passed P) h M

        pub first_ended : a ≡ Dead → Ended arities r at rest sides kind first second lent next scratch most p
        unfolding none_passed
        first_ended e = record { here = still (none_passed P) (elsewhere (none_passed P) h M); may = h; ended = made_dead (none_passed P) h M e }

        -- and what is told of those after it
        pub first-told : {x : Next} {q : List ℕ} → Picked arities r at rest sides kind first second lent next scratch most p x q → Picked arities l at rest sides kind first second lent next scratch most p x q
        first-told K =
            let E = elsewhere (none_passed P) h M in
            record {
              long = K.long ∙ E.long;
              below = K.below ∙ E.low;
              told = K.told ∙ same_told E;
              tells = tells_before E.long E.low refl K.tells;
              further = K.further;
            }
