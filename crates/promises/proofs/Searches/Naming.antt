-- Names: no path makes more new unknowns than the question has unknowns. Before the pile's turn each new unknown costs two bound ones; from then on
-- each costs an unknown that waits in the pile, and none comes to wait any more.
use Rattle.std.specs.Prelude.{ℕ, ◌+◌, ◌≤◌, ◌≡◌, List, [], true, false, not, eqb}
use Rattle.std.proofs.Common.{ap, eqb-true, arith}
use Rattle.terms.specs.Lists.{All, Any, any→, All-map, Any_with, Any-out}
use Rattle.terms.specs.Formed.{Question}
use Rattle.search.specs.State.{State, Node, live, Entry, start}
use Rattle.search.specs.Run.{visit, dead_visit, visits, root}
use Rattle.invariants.specs.Tally.{tally_no_more, tally-most}
use Rattle.invariants.proofs.Orderly.{named, Orderly, usable_unbound}
use Rattle.invariants.specs.Weight.{weights}
use Rattle.invariants.proofs.Falling.{waits, unbound, waiting, Falls, ends_dead, fewer_unbound, lighter, shorter}
use Rattle.invariants.proofs.JoinFalls.{children_fall}
use Rattle.promises.specs.Searches.Visiting.{visits_each}
use Rattle.invariants.proofs.Tree.{FormedQuestion, start_orderly, Live, is_dead, is_live}

-- what a state may still make of names, within `most`
data Budget (most : ℕ) (st : State) : Type 0 where
  by_unbound : st.next + unbound st ≤ most → Budget most st
  by_waiting : st.pending ≡ [] → st.next + waiting st ≤ most → Budget most st

record Thrifty (arities : List ℕ) (most : ℕ) (st : State) : Type 0 where
  orderly : Orderly arities st
  budget : Budget most st

waits-any : (y : ℕ) (ns : List Entry) → waits y ns ≡ true → Any (λ m. eqb m.name y ≡ true) ns
unfolding waits
waits-any y ns e = any→ _ ns e

-- who waits in the pile is not bound
waiting-unbound : {arities : List ℕ} (st : State) → Orderly arities st → waiting st ≤ unbound st
unfolding waiting unbound
waiting-unbound st o = tally_no_more st.next (λ y l e. ap not (go y e))
  where
    go : (y : ℕ) → waits y st.pile ≡ true → named y st.bindings ≡ false
    go y e = Any-out (λ m h. rw (eqb-true m.name y h.1) at (usable_unbound h.0.name)) (Any_with o.pile (waits-any y st.pile e))

thrifty_child : {arities : List ℕ} {most : ℕ} {st : State} → Thrifty arities most st → {k : Node} → Falls arities st k → Live (Thrifty arities most) k
unfolding weights
thrifty_child t ends_dead = is_dead
thrifty_child {most = most} {st = st} t (fewer_unbound {st = st'} o w l m) = is_live (record { orderly = o; budget = go t.budget })
  where
    go : Budget most st → Budget most st'
    go (by_unbound h) = by_unbound (omega arith)
    go (by_waiting e h) = absurd (omega (arith, ap weights e))
thrifty_child {most = most} {st = st} t (lighter {st = st'} o n u w) = is_live (record { orderly = o; budget = go t.budget })
  where
    go : Budget most st → Budget most st'
    go (by_unbound h) = by_unbound (omega arith)
    go (by_waiting e h) = absurd (omega (arith, ap weights e))
thrifty_child {most = most} {st = st} t (shorter {st = st'} o e e' u m p) = is_live (record { orderly = o; budget = go t.budget })
  where
    go : Budget most st → Budget most st'
    go (by_unbound h) = by_waiting e' (omega (arith, waiting-unbound st t.orderly))
    go (by_waiting _ h) = by_waiting e' (omega arith)

budget_next : {most : ℕ} {st : State} → Budget most st → st.next ≤ most
budget_next (by_unbound h) = omega arith
budget_next (by_waiting e h) = omega arith

-- ---- of a question

pub names_within : (q : Question) → FormedQuestion q → (n : ℕ) → All (λ v. v.next ≤ q.unknowns + q.unknowns) (visits n 0 (root q))
unfolding root visit dead_visit unbound
names_within q h n =
    visits_each (Thrifty q.arities (q.unknowns + q.unknowns)) (λ v. v.next ≤ q.unknowns + q.unknowns)
    (λ st t. All-map (λ k f. thrifty_child t f) (children_fall st t.orderly)) (λ d. omega arith) (λ d st t. budget_next t.budget) n 0 (live (start q))
    (is_live (record { orderly = start_orderly q h; budget = by_unbound (omega (arith, tally-most q.unknowns (λ y. not (named y [])))) }))
