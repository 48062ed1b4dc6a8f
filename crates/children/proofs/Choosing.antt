-- By its header and its first equation, a row is one of the three kinds: nothing is pending, its first equation leaves no choice, or it is a split.
use Prim.Native.Nat.{ℕ, ◌+◌, ◌-◌, ◌≤◌, ◌<◌, ◌^◌}
use mathlib.Core.Path.{◌≡◌, sym, ap, ◌∙◌}
use mathlib.Core.List.{List}
use native.Mathlib.Omega.{arith}
use lib.ListN.{length, take, drop}
use Rattle.room.specs.Room.{length-seg}
use Rattle.room.specs.Layout.{HEADER}
use Rattle.terms.specs.Bounds.{edition_one}
use Rattle.terms.specs.Term.{size}
use Rattle.search.specs.State.{State, size_equations}
use Rattle.search.specs.Classify.{classify}
use Rattle.search.specs.declared.steps.Tails.{Tails}
use Rattle.search.specs.declared.steps.Step.TheVariants.{Split}
use Rattle.binding.specs.At.{first_found, first-size}
use Rattle.rows.specs.declared.parts.Rest.{Rest}
use Rattle.rows.specs.declared.first.First.{First}
use Rattle.rows.specs.declared.header.Header.{Header}
use Rattle.rows.specs.First.{first_in, header_in, HeaderParts, rest_after}
use Rattle.rows.specs.Row.{header_for}
use Rattle.plain_steps.specs.declared.plain.Plain.{Plain}
use Rattle.plain_steps.specs.Plain.{of_plain}
use Rattle.only_child.specs.Next.{Ready}
use Rattle.only_child.specs.Quiet.{Quiet}
use Rattle.only_child.specs.NoChoice.{Single}
use Rattle.openings.specs.SplitRow.{Splitting}
use Rattle.only_child.proofs.ReadyRow.{lent-part, Begins, no_equation, some-equation, header_read, pending_within, rest-parts}

module _ {arities l : List ℕ} {at number lent scratch most : ℕ} {st : State} (R : Ready arities l at number lent scratch most st) {h : Header}
    (read : h ≡ header_in (take (at + 5 - at) (drop at l))) where
  pending_is : h.pending ≡ size_equations st.pending
  unfolding header_for
  pending_is = ap (λ g. g.pending) (header_read R read)

  pub nothing_pending : h.pending ≡ 0 → Quiet arities l at h number lent scratch most st
  nothing_pending z = record { ready = R; header_is = header_read R read; quiet = no_equation st.pending (sym pending_is ∙ z) }

  pub last_within : at + HEADER + h.pending ≤ scratch
  last_within = omega (arith, pending_within R, pending_is)

  pub lent_small : length (take (at + HEADER + h.pending - (at + HEADER)) (drop (at + HEADER) l)) < 2 ^ 32
  lent_small =
      let s = last_within in
      rw (lent-part l (at + HEADER) h.pending, length-seg l (at + HEADER) h.pending (omega (arith, R.scratch_rows))) (omega (arith, R.scratch_rows, R.small))

  module _ (some : h.pending ≡ 0 → ⊥) {f : First} (found : f ≡ first_in edition_one arities (take (at + HEADER + h.pending - (at + HEADER)) (drop (at + HEADER) l))) where
    pub begins : Begins st.pending
    begins = some-equation st.pending (λ z. some (pending_is ∙ z))

    first_is : f
        ≡ record { step = classify begins.first.left begins.first.right; right = size begins.first.left; end = size begins.first.left + size begins.first.right }
    first_is =
        found ∙ ap (first_in edition_one arities) (lent-part l (at + HEADER) h.pending ∙ rw pending_is) ∙ first_found R.holds begins.cut R.sound

    pub rest-asked : HeaderParts at h f.end
    rest-asked = rw (header_read R read, first_is) (rest-parts R _ (omega (arith, first-size st begins.cut)))

    module _ {rest : Rest} (left : rest ≡ rest_after at h f.end) where
      rest_is : rest ≡ rest_after at (header_for st) (size begins.first.left + size begins.first.right)
      rest_is = left ∙ ap (λ g. rest_after at g f.end) (header_read R read) ∙ ap (λ g. rest_after at (header_for st) g.end) first_is

      next_is : h.next ≡ st.next
      unfolding header_for
      next_is = ap (λ g. g.next) (header_read R read)

      pub splitting : {kind : Tails} → f.step ≡ Split kind → Splitting arities l at rest f.right f.end kind number lent h.next scratch most st begins.first begins.others
      splitting p = record {
        ready = R;
        cut = begins.cut;
        right_is = ap (λ g. g.right) first_is;
        end_is = ap (λ g. g.end) first_is;
        rest_is = rest_is;
        step_is = sym (ap (λ g. g.step) first_is) ∙ p;
        next_is = next_is;
      }

      pub single : {p : Plain} → f.step ≡ of_plain p
          → Single arities l at rest (record { step = p; right = f.right; end = f.end }) number lent h.next scratch most st begins.first begins.others
      single e = record {
        ready = R;
        cut = begins.cut;
        step_is = sym e ∙ ap (λ g. g.step) first_is;
        right_is = ap (λ g. g.right) first_is;
        end_is = ap (λ g. g.end) first_is;
        rest_is = rest_is;
        next_is = next_is;
      }
