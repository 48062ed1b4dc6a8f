-- A row that is ready for its next child: its header, its first equation and what is left after it are found in its words, and where there is a row for
-- a child, it is held as the steps ask, which lay things out after the first three rows of scratch.
use Prim.Native.Nat.{ℕ, ◌+◌, ◌-◌, ◌*◌, ◌≤◌, ◌<◌}
use mathlib.Core.Path.{◌≡◌, refl, ap, ◌∙◌}
use mathlib.Core.List.{List, [], ◌∷◌}
use native.Mathlib.Omega.{arith}
use lib.ListN.{take, drop}
use Rattle.room.specs.Room.{seg}
use Rattle.room.specs.Layout.{HEADER, stride, aside_row}
use Rattle.terms.specs.Formed.{Equation, row}
use Rattle.terms.specs.Laws.Flat.{size_positive}
use Rattle.search.specs.State.{State, pend, size_equations, state_size}
use Rattle.search.specs.Classify.{classify}
use Rattle.search.specs.Children.{children, children_by}
use Rattle.search.specs.Children as search
use Rattle.rows.specs.declared.header.Header.{Header}
use Rattle.binding.specs.At.{Held}
use Rattle.rows.specs.Sections.{sections_fit}
use Rattle.rows.specs.First.{header_in, header_in_words, HeaderParts}
use Rattle.rows.specs.Row.{header_for, Beside}
use Rattle.only_child.specs.Next.{Ready, same_part}

-- a part of the room, as the code lends it
pub lent-part : (l : List ℕ) (k n : ℕ) → take (k + n - k) (drop k l) ≡ seg l k n
unfolding seg
lent-part l k n = let e : k + n - k ≡ n = omega arith in rw e

-- ---- nothing, or a first

pub record Begins {A : Type 0} (xs : List A) : Type 0 where
  pub first : A
  pub others : List A
  pub cut : xs ≡ first ∷ others

pub no_equation : (es : List Equation) → size_equations es ≡ 0 → es ≡ []
unfolding size_equations
no_equation [] q = refl
no_equation (e ∷ es) q = absurd (omega (arith, size_positive e.left))

pub some-equation : (es : List Equation) → (size_equations es ≡ 0 → ⊥) → Begins es
unfolding size_equations
some-equation [] n = absurd (n refl)
some-equation (e ∷ es) n = record { first = e; others = es; cut = refl }

module _ {arities l : List ℕ} {at number lent scratch most : ℕ} {st : State} (R : Ready arities l at number lent scratch most st) where
  pub held : 0 < most → Held arities l at (at + stride lent) (aside_row lent scratch) lent st
  held h = record {
    rows = record {
      row = omega arith;
      next_row = omega (arith, R.child h);
      scratch_rows = omega (arith, R.scratch_rows);
      lent_small = R.lent_small;
      small = R.small;
    };
    holds = R.holds;
    sound = R.sound;
    fits = R.fits;
  }

  pub kept_beside : {r : List ℕ} → 0 < most → Beside l r (at + stride lent) lent (aside_row lent scratch) → seg r scratch (3 * stride lent) ≡ seg l scratch (3 * stride lent)
  kept_beside {r} h B =
      let b = R.child h in
      let e : at + stride lent + stride lent + (scratch - (at + stride lent + stride lent)) ≡ scratch = omega arith in
      rw e at (same_part l r (at + stride lent + stride lent) (aside_row lent scratch - (at + stride lent + stride lent)) (scratch - (at + stride lent + stride lent)) (3 * stride lent) (omega arith) B.kept)

  pub header_read : {h : Header} → h ≡ header_in (take (at + 5 - at) (drop at l)) → h ≡ header_for st
  header_read e = e ∙ ap header_in (lent-part l at 5 ∙ R.holds.header) ∙ header_in_words (header_for st)

  -- the words of the pending equations end before the scratch rows
  pub pending_within : at + HEADER + size_equations st.pending ≤ scratch
  pending_within = omega (arith, sections_fit st R.fits, R.row)

  pub rest-parts : (skip : ℕ) → skip ≤ size_equations st.pending → HeaderParts at (header_for st) skip
  unfolding header_for state_size
  rest-parts skip h = record { place = omega (arith, pending_within, R.scratch_rows, R.small); skipped = h; parts = omega arith }

  module _ {e : Equation} {es : List Equation} (cut : st.pending ≡ e ∷ es) where
    pub children_by-first : children st ≡ search.take (classify e.left e.right) e.left e.right (pend es st)
    unfolding children children_by
    children_by-first = ap (λ (ds : List Equation). children_by ds st) cut
