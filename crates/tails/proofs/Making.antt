-- What is said of a child that is made: from an earlier room on, and where there is none in the row; and what stays as it is.
use Rattle.std.proofs.Common.{Option}
use Prim.Native.Nat.{ℕ, ◌+◌, ◌<◌, ◌≤◌}
use mathlib.Core.Path.{◌≡◌, refl, ap, ◌∙◌}
use mathlib.Core.List.{List}
use native.Mathlib.Omega.{arith}
use lib.ListN.{length}
use borrow.Author.Tests.{le-ltb, lt-ltb}
use Rattle.room.specs.Room.{seg, put, length-put}
use Rattle.room.specs.Parts.{earlier, later, apart_part, seg-put}
use Rattle.room.specs.Layout.{HEADER, stride}
use Rattle.terms.specs.Bounds.{Bounds, edition_one}
use Rattle.search.specs.declared.steps.Tails.{Tails}
use Rattle.search.specs.State.{State, Node, dead, live, state_size}
use Rattle.search.specs.Classify.{tails}
use Rattle.rows.specs.declared.parts.Rest.{Rest}
use Rattle.rows.specs.declared.parts.Made.{Made}
use Rattle.rows.specs.declared.parts.Made.TheVariants.{Dead, Names, Large, Live}
use Rattle.rows.specs.Finished.{Finished, made_large}
use Rattle.rows.specs.Wrote.{Wrote}
use Rattle.rows.specs.Row.{Makes, becomes}
use Rattle.choices.specs.declared.sides.Sides.{Sides}
use Rattle.choices.specs.OpenParent.{Parent, Elsewhere, elsewhere_next, elsewhere_put, opened_after}
use Rattle.tails.specs.Due.{Due, ChildMade, child}
use Rattle.tails.specs.Bound.{Target}

-- r has the words of l below a place
pub record Below (l r : List ℕ) (to : ℕ) : Type 0 where
  pub long : length r ≡ length l
  pub below : seg r 0 to ≡ seg l 0 to

pub below_same : (l : List ℕ) (to : ℕ) → Below l l to
below_same l to = record { long = refl; below = refl }

pub below_next : {l r q : List ℕ} {to : ℕ} → Below l r to → Below r q to → Below l q to
below_next A B = record { long = B.long ∙ A.long; below = B.below ∙ A.below }

pub below_put : (l out : List ℕ) (i : ℕ) {to : ℕ} {r : List ℕ} → r ≡ put l i out → to ≤ i → Below l r to
below_put l out i e h = record { long = ap length e ∙ length-put l i out; below = rw e (seg-put out l (earlier (omega arith))) }

module _ {b : Bounds} {l r : List ℕ} {to lent : ℕ} (B : Below l r to) where
  pub makes_before : {node : Node} {a : Made} {q : List ℕ} → Makes b r to lent node a q → Makes b l to lent node a q
  makes_before M = record { long = M.long ∙ B.long; below = M.below ∙ B.below; tells = M.tells; holds = M.holds }

  pub makes_dead : {node : Node} → node ≡ dead → Makes b l to lent node Dead r
  unfolding becomes
  makes_dead e = record {
    long = B.long;
    below = B.below;
    tells = rw e;
    holds = λ s f g. let z : ◌≡◌ {A = ℕ} 0 1 = cc in absurd (omega arith);
  }

  module _ {st : State} where
    pub makes_large : st.next ≤ b.path_unknowns → lent < state_size st → Makes b l to lent (live st) Large r
    unfolding becomes
    makes_large few h = record {
      long = B.long;
      below = B.below;
      tells = rw (le-ltb b.path_unknowns st.next few, made_large lent (state_size st) h);
      holds = λ s f g. let z : ◌≡◌ {A = ℕ} 0 1 = cc in absurd (omega arith);
    }

    pub makes_names : b.path_unknowns < st.next → Makes b l to lent (live st) Names r
    unfolding becomes
    makes_names h = record {
      long = B.long;
      below = B.below;
      tells = rw (lt-ltb b.path_unknowns st.next h);
      holds = λ s f g. let z : ◌≡◌ {A = ℕ} 0 1 = cc in absurd (omega arith);
    }

-- another answer than Live
pub not_large : {a : Made} → a ≡ Large → a ≡ Live → ⊥
not_large e f = let z : ◌≡◌ {A = ℕ} 0 1 = cc in absurd (omega arith)

-- ---- what stays as it is

module _ {l₀ : List ℕ} {from lent scratch to : ℕ} (T : Target l₀ from lent scratch to) where
  -- what is put into the child's row changes nothing elsewhere
  put_elsewhere : (l out : List ℕ) (i : ℕ) {r : List ℕ} → r ≡ put l i out → to ≤ i → i + length out ≤ to + stride lent → Elsewhere l r from lent scratch
  put_elsewhere l out i e h k =
      elsewhere_put l out i from lent scratch e (apart_part T.low_apart (omega arith) (omega arith) h k) (apart_part T.high_apart (omega arith) (omega arith) h k)

  pub wrote_elsewhere : {l piece : List ℕ} {a : Option ℕ} {r : List ℕ} → Wrote l (to + HEADER) lent piece a r → Elsewhere l r from lent scratch
  wrote_elsewhere {l} W = put_elsewhere l W.out (to + HEADER) W.room (omega arith) (omega (arith, W.within))

  pub finished_elsewhere : {l : List ℕ} {written : ℕ} {piece header : List ℕ} {a : Made} {r : List ℕ} → Finished l to written lent piece header a r → Elsewhere l r from lent scratch
  finished_elsewhere {l} {written} F =
      elsewhere_next (put_elsewhere l F.out (to + HEADER + written) refl (omega arith) (omega (arith, F.within)))
      (put_elsewhere (put l (to + HEADER + written) F.out) F.top to F.room (omega arith) (omega (arith, F.top_within)))

  -- the whole row: the new equations, and then the rest
  pub row_elsewhere : {l piece : List ℕ} {a : Option ℕ} {r : List ℕ} → Wrote l (to + HEADER) lent piece a r
      → {written : ℕ} {rest header : List ℕ} {b : Made} {q : List ℕ} → Finished r to written lent rest header b q → Elsewhere l q from lent scratch
  row_elsewhere W F = elsewhere_next (wrote_elsewhere W) (finished_elsewhere F)

module _ {arities l : List ℕ} {from : ℕ} {rest : Rest} {sides : Sides} {to lent next scratch : ℕ} where
  -- the child's row
  pub due_target : {p : Parent} → Due arities l from rest sides to lent next scratch p → Target l from lent scratch to
  due_target D = record {
    to_within = omega (arith, D.before, D.opened.space);
    low_apart = earlier (omega (arith, D.after));
    high_apart = later (omega (arith, D.before));
  }

  -- it is due there as well
  pub due_elsewhere : {r : List ℕ} → Elsewhere l r from lent scratch → {p : Parent} → Due arities l from rest sides to lent next scratch p → Due arities r from rest sides to lent next scratch p
  due_elsewhere E D = record { opened = opened_after E D.opened; after = D.after; before = D.before }

  -- the child of whichever parent it is
  pub child-made : {k : Tails} {a : Made} {r : List ℕ}
      → ((p : Parent) → Due arities l from rest sides to lent next scratch p → tails p.t p.u ≡ k → Makes edition_one l to lent (child p) a r × Elsewhere l r from lent scratch)
      → ChildMade arities l from rest sides k to lent next scratch a r
  child-made f = record { makes = λ p D k. (f p D k).0; kept = λ p D k. (f p D k).1 }
