-- A row whose first equation is a split: its two sides stand first in the body, and then what is left of the row.
use Prim.Native.Nat.{ℕ, ◌+◌, ◌≤◌, ◌<◌}
use mathlib.Core.Path.{◌≡◌, ◌∙◌}
use mathlib.Core.List.{List, [], ◌∷◌}
use native.Mathlib.Omega.{arith}
use Rattle.room.specs.Layout.{HEADER}
use Rattle.terms.specs.Bounds.{edition_one}
use Rattle.terms.specs.Term.{words, size}
use Rattle.terms.specs.Formed.{Equation}
use Rattle.search.specs.State.{State, pend, size_equations, size_entries, size_bindings, state_size}
use Rattle.search.specs.Classify.{tails}
use Rattle.search.specs.Children.{children}
use Rattle.search.specs.Children as steps
use Rattle.search.specs.declared.steps.Tails.{Tails}
use Rattle.rows.specs.declared.parts.Rest.{Rest}
use Rattle.rows.specs.Sections.{sections_fit}
use Rattle.rows.specs.Row.{Rested, header_for}
use Rattle.rows.specs.First.{rest_after, holds-rest}
use Rattle.binding.specs.At.{sound_worded, first_formed, first-size, sides_stand, few_bindings}
use Rattle.choices.specs.Open.{Open}
use Rattle.openings.specs.SplitRow.{Splitting}
use Rattle.pick_loop.proofs.Radices.{Sets, sets}
use Rattle.only_child.proofs.ReadyRow.{children_by-first}

-- the numbers of what is left of the row
pub record RestNumbers (rest : Rest) (at end lent : ℕ) : Type 0 where
  pub at_is : rest.at ≡ at + HEADER + end
  pub fits : end + (rest.pending + rest.pile + rest.bound) ≤ lent
  pub bindings_small : rest.bindings < 65534

module _ {arities l : List ℕ} {at : ℕ} {rest : Rest} {right end : ℕ} {kind : Tails} {number lent next scratch most : ℕ} {st : State} {e : Equation} {es : List Equation}
    (S : Splitting arities l at rest right end kind number lent next scratch most st e es) where
  abbrev L : List ℕ
  L = words edition_one e.left

  abbrev R : List ℕ
  R = words edition_one e.right

  pub both-sets : Sets e.left e.right kind
  both-sets = sets e.left e.right S.step_is

  sizes : size_equations st.pending ≡ size e.left + size e.right + size_equations es
  sizes = first-size st S.cut

  body-fits : size_equations st.pending + size_entries st.pile + size_bindings st.bindings ≤ lent
  body-fits = sections_fit st S.ready.fits

  pub open_there : Open arities l at right end lent scratch st.next e.left e.right
  open_there = record {
    worded = sound_worded S.ready.sound;
    formed_t = (first_formed S.ready.sound S.cut).0;
    formed_u = (first_formed S.ready.sound S.cut).1;
    stands = rw S.end_is (sides_stand S.ready.holds S.cut);
    right_is = S.right_is;
    end_is = S.end_is;
    fits = omega (arith, S.end_is, sizes, body-fits);
    row = S.ready.row;
    space = S.ready.scratch_rows;
    lent_small = S.ready.lent_small;
    small = S.ready.small;
  }

  pub rested : Rested edition_one l rest (pend es st)
  unfolding size_equations
  rested =
      let z : size e.left + size e.right + 0 ≡ size e.left + size e.right = omega arith in
      rw S.rest_is (rw z at (holds-rest S.ready.holds (e ∷ []) es S.cut))

  pub rest-numbers : RestNumbers rest at end lent
  unfolding rest_after header_for state_size
  rest-numbers = rw S.rest_is (record {
    at_is = omega (arith, S.end_is);
    fits = omega (arith, S.end_is, sizes, body-fits);
    bindings_small = omega (arith, few_bindings st.bindings, body-fits, S.ready.lent_small);
  })

  pub children_are : children st ≡ steps.split (tails e.left e.right) e.left e.right (pend es st)
  unfolding steps.take
  children_are = children_by-first S.ready S.cut ∙ rw (S.step_is, both-sets.kind)
