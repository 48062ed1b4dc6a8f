-- Nothing is pending: what is told of the children, and what the function that joins the pile is asked.
use Prim.Native.Nat.{ℕ, ◌+◌, ◌<◌}
use mathlib.Core.Path.{◌≡◌, refl, sym, ap, ◌∙◌}
use mathlib.Core.List.{List, [], ◌∷◌}
use native.Mathlib.Omega.{arith}
use Rattle.room.specs.Layout.{stride, aside_row}
use Rattle.terms.specs.Term.{unknown, over}
use Rattle.search.specs.State.{State, Node, Entry, renewed, size_entries}
use Rattle.search.specs.Children.{children, children_by, bound, join, joined, without}
use Rattle.rows.specs.declared.parts.Made.{Made}
use Rattle.rows.specs.declared.parts.Rest.{Rest}
use Rattle.rows.specs.declared.header.Header.{Header}
use Rattle.rows.specs.First.{HeaderParts, rest_after}
use Rattle.plain_steps.specs.JoinLaid.{JoinParts, Joined}
use Rattle.plain_steps.specs.JoinMade.{join-parts, join-made, join_beside}
use Rattle.rows.specs.Row.{header_for}
use Rattle.only_child.specs.declared.next.Next.{Next}
use Rattle.only_child.specs.declared.next.Next.TheVariants.{Spent, Due}
use Rattle.only_child.specs.Next.{Kept, next_made}
use Rattle.only_child.specs.Quiet.{Quiet}
use Rattle.only_child.proofs.Only.{unopened, no_child, only_passed, only-due, only-made}
use Rattle.only_child.proofs.ReadyRow.{Begins, held, kept_beside, rest-parts}

no_entry : (ns : List Entry) → size_entries ns ≡ 0 → ns ≡ []
unfolding size_entries
no_entry [] q = refl
no_entry (n ∷ ns) q = absurd (omega arith)

some-entry : (ns : List Entry) → (size_entries ns ≡ 0 → ⊥) → Begins ns
unfolding size_entries
some-entry [] n = absurd (n refl)
some-entry (n ∷ ns) q = record { first = n; others = ns; cut = refl }

-- the children of a state in which nothing is pending
pub no_joined : (st : State) → st.pending ≡ [] → st.pile ≡ [] → children st ≡ []
unfolding children children_by join
no_joined st q p = rw (q, p)

-- the pile's first unknown bound to its members
abbrev pub heir : State → ℕ → Node
heir st x =
    bound x (over (joined x st.pile) (unknown st.next)) (renewed (without x st.pile st))

pub one-joined : (st : State) {n : Entry} {ns : List Entry} → st.pending ≡ [] → st.pile ≡ n ∷ ns → children st ≡ heir st n.name ∷ []
unfolding children children_by join
one-joined st q p = rw (q, p)

module _ {arities l : List ℕ} {at : ℕ} {header : Header} {number lent scratch most : ℕ} {st : State} (Q : Quiet arities l at header number lent scratch most st) where
  pile_is : header.pile ≡ size_entries st.pile
  unfolding header_for
  pile_is = ap (λ h. h.pile) Q.header_is

  pub answer-told : header.pile ≡ 0 → Kept l at number lent scratch most st (Spent 0) l
  answer-told z = unopened scratch (no_child l at number lent most st (no_joined st Q.quiet (no_entry st.pile (sym pile_is ∙ z))))

  pub quiet_parts : HeaderParts at header 0
  quiet_parts = rw Q.header_is (rest-parts Q.ready 0 (omega arith))

  module _ (some : 0 < header.pile) where
    entry : Begins st.pile
    entry = some-entry st.pile (λ z. omega (arith, pile_is))

    one : children st ≡ heir st entry.first.name ∷ []
    one = one-joined st Q.quiet entry.cut

    pub join_passed : 0 < number → Kept l at number lent scratch most st (Spent 0) l
    join_passed h = unopened scratch (only_passed l at number lent most st one h)

    pub join-due : number ≡ 0 → most ≡ 0 → Kept l at number lent scratch most st (Due 0) l
    join-due e f = unopened scratch (only-due l at number lent most st one e f)

    pub join-asked : {rest : Rest} → 0 < most → rest ≡ rest_after at header 0 → JoinParts l rest (aside_row lent scratch) (at + stride lent) lent header.next
    unfolding header_for
    join-asked h e = rw (e, Q.header_is) (join-parts (held Q.ready h) Q.quiet entry.cut)

    pub join-told : {rest : Rest} {a : Made} {x : Next} {r : List ℕ} → number ≡ 0 → 0 < most → rest ≡ rest_after at header 0
        → Joined arities l rest (aside_row lent scratch) (at + stride lent) lent header.next a r → x ≡ next_made a → Kept l at number lent scratch most st x r
    unfolding header_for
    join-told z h e J f =
        let H = held Q.ready h in
        let K = rw (e, Q.header_is) at J in
        record {
          child = only-made l at number lent most st one z h (join-made H Q.quiet entry.cut K) f;
          keeps = kept_beside Q.ready h (join_beside H Q.quiet entry.cut K);
        }
