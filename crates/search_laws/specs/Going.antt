-- A run that goes on from where it stands: what was counted so far, and the visits still to come, read off the open states of a path.
-- In order: a run resumed, and what each verdict makes of it; the visits below a path, and what a turn makes of them.
use Prim.Native.Nat.{ℕ, suc, ◌+◌, ◌-◌, ◌≤◌}
use Rattle.std.specs.Prelude.{◌≡◌, drop}
use Rattle.std.proofs.Common.{ap}
use mathlib.Core.List.{List, [], ◌∷◌, ◌++◌, flat_map, append_assoc, append-nil}
use Rattle.std.proofs.Math.ListN.{length}
use native.Mathlib.Omega.{arith}
use Rattle.terms.specs.Bounds.{Bounds}
use Rattle.search.specs.declared.ends.End.{End}
use Rattle.search.specs.declared.ends.End.TheVariants.{Space}
use Rattle.search.specs.State.{State, Node, dead, live}
use Rattle.search.specs.Children.{children}
use Rattle.search.specs.Run.{Visit, visit, dead_visit, visits, Loan, Outcome, found, found_size, stops, overflows, goes_on, verdict, spend, after, scan}

-- ---- a run resumed

-- so many nodes were visited and these answers listed before
unfoldable pub resumed : ℕ → List (List ℕ) → Outcome → Outcome
resumed k ws o = record { end = o.end; visited = k + o.visited; answers = ws ++ o.answers }

-- what is left of a loan after so many nodes and so many answer words
unfoldable pub left : Loan → ℕ → ℕ → Loan
left l k used = record { steps = l.steps - k; depth = l.depth; size = l.size; space = l.space - used }

pub resumed_none : (o : Outcome) → resumed 0 [] o ≡ o
unfolding resumed
resumed_none o = let z : 0 + o.visited ≡ o.visited = omega arith in rw z

pub left_none : (l : Loan) → left l 0 0 ≡ l
unfolding left
left_none l = let s : l.steps - 0 ≡ l.steps = omega arith in let p : l.space - 0 ≡ l.space = omega arith in rw (s, p)

module _ (b : Bounds) (l : Loan) (k : ℕ) (ws : List (List ℕ)) (used : ℕ) (v : Visit) (vs : List Visit) where
  -- the run before the visit v, and after it
  abbrev pub Before : Outcome
  Before = resumed k ws (scan b (left l k used) (v ∷ vs))

  pub run_stops : (e : End) → verdict b (left l k used) v ≡ stops e → Before ≡ record { end = e; visited = k; answers = ws }
  unfolding resumed scan after
  run_stops e h = let z : k + 0 ≡ k = omega arith in rw (h, z, append-nil ws)

  pub run_overflows : verdict b (left l k used) v ≡ overflows → Before ≡ record { end = Space; visited = k + 1; answers = ws }
  unfolding resumed scan after
  run_overflows h = rw (h, append-nil ws)

  pub run_goes_on : verdict b (left l k used) v ≡ goes_on
      → Before ≡ resumed (k + 1) (ws ++ found b v.answer) (scan b (left l (k + 1) (used + found_size b v)) vs)
  unfolding resumed scan after spend left
  run_goes_on h =
      let s : l.steps - k - 1 ≡ l.steps - (k + 1) = omega arith in
      let p : l.space - used - found_size b v ≡ l.space - (used + found_size b v) = omega arith in
      let rest : Outcome = scan b (record { steps = l.steps - (k + 1); depth = l.depth; size = l.size; space = l.space - (used + found_size b v) }) vs in
      let n : k + suc rest.visited ≡ k + 1 + rest.visited = omega arith in
      rw (h, s, p, n, append_assoc ws (found b v.answer) rest.answers)

-- ---- the visits below a path

-- an open state and the number of its next child
pub record Open : Type 0 where
  pub state : State
  pub child : ℕ

-- what is still to come below a path, the deepest state first, where nodes of depth `deepest` + 1 are the last that are looked at
unfoldable pub to_come : ℕ → List Open → List Visit
to_come deepest [] = []
to_come deepest (o ∷ path) =
    flat_map (visits (deepest + 1 - length path) (suc (length path))) (drop o.child (children o.state)) ++ to_come deepest path

module _ (deepest : ℕ) (st : State) (path : List Open) (c : ℕ) where
  abbrev here : ℕ → Open
  here n = record { state = st; child = n }

  -- no child is left: the path goes on above
  pub to_come_spent : drop c (children st) ≡ [] → to_come deepest (here c ∷ path) ≡ to_come deepest path
  unfolding to_come flat_map
  to_come_spent e = rw e

  -- the next child is a dead end
  pub to_come_dead : (rest : List Node) → drop c (children st) ≡ dead ∷ rest → drop (suc c) (children st) ≡ rest → length path ≤ deepest
      → to_come deepest (here c ∷ path) ≡ dead_visit (suc (length path)) ∷ to_come deepest (here (suc c) ∷ path)
  unfolding to_come flat_map visits
  to_come_dead rest e f h =
      let n : deepest + 1 - length path ≡ suc (deepest - length path) = omega arith in
      rw (n, e, f)

  -- the next child is a state, which is opened
  pub to_come_live : (next : State) (rest : List Node) → drop c (children st) ≡ live next ∷ rest → drop (suc c) (children st) ≡ rest → length path ≤ deepest
      → to_come deepest (here c ∷ path) ≡ visit (suc (length path)) next ∷ to_come deepest (record { state = next; child = 0 } ∷ here (suc c) ∷ path)
  unfolding to_come flat_map visits
  to_come_live next rest e f h =
      let n : deepest + 1 - length path ≡ suc (deepest - length path) = omega arith in
      let m : deepest + 1 - suc (length path) ≡ deepest - length path = omega arith in
      rw (n, e, f, m)
      (ap (λ l. visit (suc (length path)) next ∷ l)
      (append_assoc (flat_map (visits (deepest - length path) (suc (suc (length path)))) (children next)) (flat_map (visits (suc (deepest - length path)) (suc (length path))) rest) (to_come deepest path)))

-- the whole search: the root, and what is below it
pub to_come-root : (deepest : ℕ) (st : State) → visits (deepest + 2) 0 (live st) ≡ visit 0 st ∷ to_come deepest (record { state = st; child = 0 } ∷ [])
unfolding to_come visits
to_come-root deepest st =
    let n : deepest + 2 ≡ suc (deepest + 1 - 0) = omega arith in
    rw (n, append-nil)
