-- A split that stands open in scratch: the places of its members, the picks of one of its children, and after these the numbers of members and of words.
-- It stands there until another split is opened.
use Rattle.std.specs.Prelude.{ℕ, ◌+◌, ◌*◌, ◌≤◌, ◌≡◌, List, [], ◌∷◌, ◌++◌, true, false, length}
use Rattle.std.proofs.Common.{ap, ◌∙◌, arith}
use Rattle.room.specs.Room.{seg}
use Rattle.room.specs.Layout.{stride, right_row, picks_row, sides_at}
use Rattle.terms.specs.Term.{members, kernel, size}
use Rattle.terms.specs.Shape.{is_unknown}
use Rattle.terms.specs.Formed.{Equation}
use Rattle.search.specs.State.{State, pend, size_equations, state_size}
use Rattle.search.specs.Classify.{classify}
use Rattle.search.specs.declared.steps.Tails.{Tails}
use Rattle.search.specs.declared.steps.Step.TheVariants.{Split}
use Rattle.rows.specs.declared.parts.Reached.TheVariants.{Live}
use Rattle.rows.specs.Sections.{sections_fit}
use Rattle.search_laws.specs.ChoiceNumbers.{Digits}
use Rattle.search_laws.specs.Picking.{radix}
use Rattle.choices.specs.Digits.{copies}
use Rattle.choices.specs.MemberPlaces.{places}
use Rattle.choices.specs.OpenParent.{few_members}
use Rattle.only_child.specs.declared.next.Next.{Next}
use Rattle.only_child.specs.declared.next.Next.TheVariants.{Node as Found}
use Rattle.only_child.specs.declared.next.Looked.{Looked}
use Rattle.only_child.specs.Next.{Ready, Child, same_part}
use Rattle.pick_loop.specs.PicksInScratch.{place}

-- the first equation of the state is a split, and the picks are those of its child of the number `last`
pub record Shown (l : List ℕ) (lent scratch : ℕ) (st : State) (last : ℕ) : Type 0 where
  pub first : Equation
  pub others : List Equation
  pub kind : Tails
  pub ds : List ℕ
  pub es : List ℕ
  pub cut : st.pending ≡ first ∷ others
  pub step_is : classify first.left first.right ≡ Split kind
  pub last_is : place (record { t = first.left; u = first.right; st = pend others st; ds = ds; es = es }) ≡ last
  pub t_noted : seg l scratch (length (members first.left) + 1) ≡ places first.left 0
  pub u_noted : seg l (right_row lent scratch) (length (members first.right) + 1) ≡ places first.right (size first.left)
  pub picked : seg l (picks_row lent scratch) (length (members first.left) + length (members first.right)) ≡ ds ++ es
  pub ds_proper : Digits (copies (length (members first.left)) (radix (is_unknown (kernel first.right)) (length (members first.right)))) ds
  pub es_proper : Digits (copies (length (members first.right)) (radix (is_unknown (kernel first.left)) (length (members first.left)))) es
  pub told : seg l (sides_at lent scratch) 3
      ≡ length (members first.left) ∷ length (members first.right) ∷ (size first.left + size first.right) ∷ []

-- where a child was opened, the split stands open with that child's picks
pub record Leaves (r : List ℕ) (lent scratch : ℕ) (st : State) (number : ℕ) (a : Next) : Type 0 where
  pub shown : (k : ℕ) → a ≡ Found k Live → Shown r lent scratch st (number + k)

-- what is told of the children of a row, and whether its split stands open then; if not, what stood open still does
pub record Looks (l : List ℕ) (at number lent scratch most : ℕ) (st : State) (a : Looked) (r : List ℕ) : Type 0 where
  pub child : Child l at number lent most st a.next r
  pub opens : a.opens ≡ true → Leaves r lent scratch st number a.next
  pub keeps : a.opens ≡ false → seg r scratch (3 * stride lent) ≡ seg l scratch (3 * stride lent)

-- what is told of a split's children; where one was opened, the split stands open
pub record Opens (l : List ℕ) (at number lent scratch most : ℕ) (st : State) (a : Next) (r : List ℕ) : Type 0 where
  pub child : Child l at number lent most st a r
  pub leaves : Leaves r lent scratch st number a

-- the row's split stands open, with the picks of the child before the one that is next
pub record Opened (arities l : List ℕ) (at lent scratch most : ℕ) (st : State) (last : ℕ) : Type 0 where
  pub ready : Ready arities l at (last + 1) lent scratch most st
  pub shown : Shown l lent scratch st last

pub record OpenedAt (arities l : List ℕ) (at lent scratch most : ℕ) : Type 0 where
  pub state : State
  pub last : ℕ
  pub here : Opened arities l at lent scratch most state last

-- ---- what stands open stands in the first three rows of scratch

-- each side has fewer members than words, and both fit
sides_fit : (lent : ℕ) (st : State) {e : Equation} {es : List Equation} → st.pending ≡ e ∷ es → state_size st ≤ lent → size e.left + size e.right ≤ lent
unfolding size_equations
sides_fit lent st cut h = omega (arith, sections_fit st h, ap size_equations cut)

pub shown_kept : {l r : List ℕ} {lent scratch : ℕ} {st : State} {last : ℕ} → seg r scratch (3 * stride lent) ≡ seg l scratch (3 * stride lent) → state_size st ≤ lent → Shown l lent scratch st last
    → Shown r lent scratch st last
shown_kept {l} {r} {lent} {scratch} {st} same fits S =
    let few = sides_fit lent st S.cut fits in
    let many = few_members S.first.left in
    let more = few_members S.first.right in
    let first : scratch + 0 ≡ scratch = omega arith in
    let third : scratch + (stride lent + stride lent) ≡ picks_row lent scratch = omega arith in
    let after : scratch + (stride lent + stride lent + lent) ≡ sides_at lent scratch = omega arith in
    record {
      first = S.first;
      others = S.others;
      kind = S.kind;
      ds = S.ds;
      es = S.es;
      cut = S.cut;
      step_is = S.step_is;
      last_is = S.last_is;
      t_noted = rw first at (part 0 (length (members S.first.left) + 1) (omega arith)) ∙ S.t_noted;
      u_noted = part (stride lent) (length (members S.first.right) + 1) (omega arith) ∙ S.u_noted;
      picked = rw third at (part (stride lent + stride lent) (length (members S.first.left) + length (members S.first.right)) (omega arith)) ∙ S.picked;
      ds_proper = S.ds_proper;
      es_proper = S.es_proper;
      told = rw after at (part (stride lent + stride lent + lent) 3 (omega arith)) ∙ S.told;
    }
  where
    part : (i j : ℕ) → i + j ≤ 3 * stride lent → seg r (scratch + i) j ≡ seg l (scratch + i) j
    part i j h = same_part l r scratch (3 * stride lent) i j h same
