-- A row whose first child was made, and whose body does not begin with a member mark: it is no split, so it has no second child.
use Prim.Native.Nat.{ℕ, ◌+◌, ◌<◌}
use mathlib.Core.Path.{◌≡◌, refl, sym, ap, ◌∙◌}
use mathlib.Core.List.{List, [], ◌∷◌, ◌++◌}
use native.Mathlib.Omega.{arith}
use lib.ListN.{get_or}
use Rattle.room.specs.Room.{get_or-seg}
use Rattle.room.specs.Layout.{HEADER}
use Rattle.terms.specs.Bounds.{edition_one, MEMBER}
use Rattle.terms.specs.Term.{Term, with, words}
use Rattle.terms.specs.Formed.{Equation}
use Rattle.terms.specs.Laws.Flat.{size_positive}
use Rattle.search.specs.State.{State, Entry, pend, size_equations}
use Rattle.search.specs.Classify.{classify}
use Rattle.search.specs.StepView.{Stepped, splits}
use Rattle.search.proofs.StepView.{stepped}
use Rattle.search.specs.declared.steps.Tails.{Tails}
use Rattle.search.specs.declared.steps.Step.TheVariants.{Split}
use Rattle.binding.specs.At.{first_words, first-size}
use Rattle.only_child.specs.declared.next.Next.TheVariants.{Spent}
use Rattle.only_child.specs.Next.{Ready, Child}
use Rattle.only_child.proofs.JoinAsked.{no_joined, one-joined}
use Rattle.only_child.proofs.Only.{no_child, only_passed}
use Rattle.only_child.proofs.ReadyRow.{children_by-first}
use Rattle.only_child.proofs.StepAsked.{only_one}

-- the left side of a split has a member
left_member : {t u : Term} {k : Tails} → Stepped t u (Split k) → (m : Term) × ((r : Term) × (t ≡ with m r))
left_member (splits {m = m} {r = r} tailed) = (m, (r, refl))

-- and its words begin with a mark
begins_marked : {t m r : Term} (ws : List ℕ) → t ≡ with m r → get_or (words edition_one t ++ ws) 0 0 ≡ MEMBER
unfolding words
begins_marked ws e = rw e

module _ {arities l : List ℕ} {at number lent scratch most : ℕ} {st : State} (R : Ready arities l at number lent scratch most st) (later : 0 < number) (unmarked : get_or l (at + HEADER) 0 ≡ MEMBER → ⊥) where
  no_split : {e : Equation} {es : List Equation} → st.pending ≡ e ∷ es → (k : Tails) → classify e.left e.right ≡ Split k → ⊥
  no_split {e} {es} cut k p =
      let v : Stepped e.left e.right (Split k) = rw p at (stepped e.left e.right) in
      let place : at + HEADER + 0 ≡ at + HEADER = omega arith in
      let some : 0 < size_equations st.pending = omega (arith, first-size st cut, size_positive e.left) in
      unmarked
      (ap (λ (j : ℕ). get_or l j 0) (sym place) ∙ sym (get_or-seg l (at + HEADER) (size_equations st.pending) 0 some)
      ∙ ap (λ (ws : List ℕ). get_or ws 0 0) (first_words R.holds cut) ∙ begins_marked _ (left_member v).1.1)

  by_pile : (ns : List Entry) → st.pending ≡ [] → st.pile ≡ ns → Child l at number lent most st (Spent 0) l
  by_pile [] q p = no_child l at number lent most st (no_joined st q p)
  by_pile (n ∷ ns) q p = only_passed l at number lent most st (one-joined st q p) later

  by_pending : (es : List Equation) → st.pending ≡ es → Child l at number lent most st (Spent 0) l
  by_pending [] q = by_pile st.pile q refl
  by_pending (e ∷ es) q =
      only_passed l at number lent most st
      (children_by-first R q ∙ (only_one (classify e.left e.right) e.left e.right (pend es st) (no_split q)).1)
      later

  pub left_at_once : Child l at number lent most st (Spent 0) l
  left_at_once = by_pending st.pending refl
