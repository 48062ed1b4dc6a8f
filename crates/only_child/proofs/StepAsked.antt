-- The first equation leaves no choice: what is told of the children, and what the function that takes the step is asked.
use Prim.Native.Nat.{ℕ, ◌+◌, ◌-◌, ◌≤◌, ◌<◌}
use mathlib.Core.Path.{◌≡◌, refl, sym, ap, ◌∙◌}
use mathlib.Core.List.{List, [], ◌∷◌}
use native.Mathlib.Omega.{arith}
use lib.ListN.{take, drop}
use Rattle.room.specs.Layout.{HEADER, stride, aside_row}
use Rattle.terms.specs.Bounds.{edition_one}
use Rattle.terms.specs.Term.{Term}
use Rattle.terms.specs.Formed.{Equation}
use Rattle.search.specs.State.{State, Node, pend}
use Rattle.search.specs.Children.{children}
use Rattle.search.specs.Children as search
use Rattle.search.specs.declared.steps.Tails.{Tails}
use Rattle.search.specs.declared.steps.Step.{Step}
use Rattle.search.specs.declared.steps.Step.TheVariants.{Drop, Bind, Postpone, Decompose, Split, Dead}
use Rattle.binding.specs.At.{first-size}
use Rattle.rows.specs.declared.parts.Made.{Made}
use Rattle.rows.specs.declared.parts.Rest.{Rest}
use Rattle.rows.specs.declared.first.Subject.{Subject}
use Rattle.rows.specs.First.{subject_in}
use Rattle.plain_steps.specs.declared.plain.Forced.{Forced}
use Rattle.plain_steps.specs.OnlyStep.{StepFor, StepAt, Taken}
use Rattle.plain_steps.specs.Plain.{of_plain, no_split}
use Rattle.only_child.specs.declared.next.Next.{Next}
use Rattle.only_child.specs.declared.next.Next.TheVariants.{Spent, Due}
use Rattle.only_child.specs.Next.{Kept, next_made}
use Rattle.only_child.specs.NoChoice.{Single}
use Rattle.only_child.proofs.Only.{unopened, only_passed, only-due, only-made}
use Rattle.only_child.proofs.ReadyRow.{lent-part, held, kept_beside, pending_within, children_by-first}

-- a step that is no split has one child
pub only_one : (k : Step) (t u : Term) (st : State) → ((j : Tails) → k ≡ Split j → ⊥) → ((node : Node) × search.take k t u st ≡ node ∷ [])
unfolding search.take
only_one Drop t u st n = (_, refl)
only_one (Bind k) t u st n = (_, refl)
only_one (Postpone k) t u st n = (_, refl)
only_one Decompose t u st n = (_, refl)
only_one (Split k) t u st n = absurd (n k refl)
only_one Dead t u st n = (_, refl)

module _ {arities l : List ℕ} {at : ℕ} {rest : Rest} {first : Forced} {number lent next scratch most : ℕ} {st : State} {e : Equation} {es : List Equation}
    (S : Single arities l at rest first number lent next scratch most st e es) where
  child : ((node : Node) × search.take (of_plain first.step) e.left e.right (pend es st) ≡ node ∷ [])
  child = only_one (of_plain first.step) e.left e.right (pend es st) (no_split first.step)

  one : children st ≡ child.0 ∷ []
  one = children_by-first S.ready S.cut ∙ ap (λ (j : Step). search.take j e.left e.right (pend es st)) (sym S.step_is) ∙ child.1

  pub step_passed : 0 < number → Kept l at number lent scratch most st (Spent 0) l
  step_passed h = unopened scratch (only_passed l at number lent most st one h)

  pub step_due : number ≡ 0 → most ≡ 0 → Kept l at number lent scratch most st (Due 0) l
  step_due e f = unopened scratch (only-due l at number lent most st one e f)

  pub right_within : first.right ≤ first.end
  right_within = omega (arith, S.right_is, S.end_is)

  pub first-within : at + HEADER + first.end ≤ scratch
  first-within = omega (arith, S.end_is, first-size st S.cut, pending_within S.ready)

  step_for : {s : Subject} → 0 < most → s ≡ subject_in edition_one (take (at + HEADER + first.end - (at + HEADER)) (drop (at + HEADER) l)) (at + HEADER) first.right first.end
      → StepFor arities l at (at + stride lent) (aside_row lent scratch) lent first.right first.end next rest s (of_plain first.step) st e es
  step_for h q = record {
    held = held S.ready h;
    cut = S.cut;
    right_is = S.right_is;
    end_is = S.end_is;
    rest_is = S.rest_is;
    subject_is = rw (S.right_is, S.end_is) at (rw (lent-part l (at + HEADER) first.end) at q);
    step_is = S.step_is;
    next_is = S.next_is;
  }

  pub step_asked : {s : Subject} → 0 < most → s ≡ subject_in edition_one (take (at + HEADER + first.end - (at + HEADER)) (drop (at + HEADER) l)) (at + HEADER) first.right first.end
      → StepAt arities l at (at + stride lent) (aside_row lent scratch) lent first.right first.end next rest s (of_plain first.step)
  step_asked h q = record { state = st; first = e; others = es; here = step_for h q }

  pub step_told : {s : Subject} {a : Made} {x : Next} {r : List ℕ} → number ≡ 0 → 0 < most → s ≡ subject_in edition_one (take (at + HEADER + first.end - (at + HEADER)) (drop (at + HEADER) l)) (at + HEADER) first.right first.end
      → Taken arities l at (at + stride lent) (aside_row lent scratch) lent first.right first.end next rest s (of_plain first.step) a r → x ≡ next_made a → Kept l at number lent scratch most st x r
  step_told z h q T f =
      record {
        child = only-made l at number lent most st one z h (T.taken st e es child.0 (step_for h q) child.1) f;
        keeps = kept_beside S.ready h (T.beside st e es (step_for h q));
      }
