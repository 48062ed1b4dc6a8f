-- A node that is met and not opened: it needs an unknown too many, or is larger than lent. What is told of a node says which.
use Prim.Native.Nat.{ℕ, suc, ◌+◌, ◌*◌, ◌≤◌, ◌<◌}
use mathlib.Core.Path.{◌≡◌, ap, ◌∙◌}
use mathlib.Core.List.{List, ◌∷◌, ◌++◌}
use Rattle.std.proofs.Common.{Option, Break}
use native.Mathlib.Omega.{arith}
use lib.ListN.{length, drop}
use Rattle.room.specs.Layout.{stride}
use Rattle.terms.specs.Bounds.{edition_one}
use Rattle.search.specs.declared.ends.End.TheVariants.{Names, Size}
use Rattle.search.specs.declared.limits.Limits.{Limits}
use Rattle.search.specs.State.{State, Node, live}
use Rattle.search.specs.Children.{children}
use Rattle.search.specs.Run.{Visit, visit}
use Rattle.search_laws.specs.Going.{left, to_come, to_come_live}
use Rattle.search_laws.specs.ChoiceNumbers.{drop-next}
use Rattle.rows.specs.declared.parts.Reached.TheVariants.{Names as ManyNames, Large}
use Rattle.rows.specs.Made.{of_reached}
use Rattle.results.specs.declared.ran.Record.{Record}
use Rattle.counters.specs.Counted.{counted}
use Rattle.only_child.specs.declared.next.Next.TheVariants.{Node as Found}
use Rattle.only_child.specs.Became.{many_names, few_names, too_large}
use Rattle.only_child.specs.Next.{dead_ends, Tells, then_live}
use Rattle.search_turn.specs.ChildrenPassed.{names_stop, large_stops}
use Rattle.results.specs.Loans.{loan}
use Rattle.visits.specs.DueNode.{most_of}
use Rattle.search_turn.specs.Running.{Given, given, remains, Running, Turned, ends}
use Rattle.search_turn.proofs.GoesOn.{passed, most_few, most-deep}
use Rattle.search_turn.proofs.Turning.{stops_here, Told}

module _ {arities : List ℕ} {limits : Limits} {l a : List ℕ} {level : ℕ} {shown : Option ℕ} {r : Record} {to : Given} (R : Running arities limits l a level shown r to) where
  abbrev pub next_visit : State → Visit
  next_visit next = visit (suc (length R.above)) next

  -- the visits from the node on
  abbrev pub from_node : State → ℕ → List Visit
  from_node next k =
      next_visit next ∷ to_come limits.depth (record { state = next; child = 0 } ∷ record { state = R.top.state; child = suc (R.top.child + k) } ∷ R.above)

  pub met : (next : State) (rest : List Node) (k : ℕ) → k < most_of limits level r → drop R.top.child (children R.top.state) ≡ dead_ends k ++ (live next ∷ rest)
      → to ≡ given (counted r k) a (remains limits (counted r k) (length a) (from_node next k))
  met next rest k h e =
      let p = passed R k (omega arith) e in
      p.1
      ∙ ap (λ vs. given (counted r k) a (remains limits (counted r k) (length a) vs))
      (to_come_live limits.depth R.top.state R.above (R.top.child + k) next rest p.0 (drop-next (R.top.child + k) (children R.top.state) _ _ p.0) (omega (arith, R.levels, R.deep)))

  -- steps are left, and the node is not too deep
  pub open_to : (k : ℕ) → k < most_of limits level r
      → (0 < (left (loan limits (length a)) (r.visited + k) r.words).steps) × (suc (length R.above) ≤ (left (loan limits (length a)) (r.visited + k) r.words).depth)
  unfolding left loan
  open_to k h = (omega (arith, most_few limits level r), omega (arith, most-deep limits level r (omega arith), R.levels))

  pub turned_names : {k : ℕ} {shown₁ : Option ℕ} {l₁ : List ℕ} → Told R (Found k ManyNames) l₁ → Turned arities limits l₁ a level r to (Break (record { end = Names; counts = counted r k })) shown₁
  unfolding visit of_reached
  turned_names {k} {shown₁} {l₁} C = go C.tells
    where
      go : {l₂ : List ℕ} → Tells l (level * stride limits.size + stride limits.size) limits.size (drop R.top.child (children R.top.state)) (most_of limits level r) l₂ (Found k ManyNames)
          → Turned arities limits l₁ a level r to (Break (record { end = Names; counts = counted r k })) shown₁
      go (then_live next rest h e M) =
          let o = open_to k h in
          ends (met next rest k h e ∙ stops_here limits (counted r k) a (next_visit next) _ Names
          (names_stop edition_one (left (loan limits (length a)) (r.visited + k) r.words) (next_visit next) o.0 o.1 (many_names edition_one limits.size next M.tells)))

  pub turned_large : {k : ℕ} {shown₁ : Option ℕ} {l₁ : List ℕ} → Told R (Found k Large) l₁ → Turned arities limits l₁ a level r to (Break (record { end = Size; counts = counted r k })) shown₁
  unfolding visit left loan of_reached
  turned_large {k} {shown₁} {l₁} C = go C.tells
    where
      go : {l₂ : List ℕ} → Tells l (level * stride limits.size + stride limits.size) limits.size (drop R.top.child (children R.top.state)) (most_of limits level r) l₂ (Found k Large)
          → Turned arities limits l₁ a level r to (Break (record { end = Size; counts = counted r k })) shown₁
      go (then_live next rest h e M) =
          let o = open_to k h in
          let n = few_names edition_one limits.size next M.tells (λ q. let z : ◌≡◌ {A = ℕ} 0 1 = cc in omega arith) in
          ends (met next rest k h e ∙ stops_here limits (counted r k) a (next_visit next) _ Size
          (large_stops edition_one (left (loan limits (length a)) (r.visited + k) r.words) (next_visit next) o.0 o.1 n (too_large edition_one limits.size next M.tells)))
