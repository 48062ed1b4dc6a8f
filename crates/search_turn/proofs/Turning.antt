-- What a turn makes of a search that goes on, where no child is opened: none is left, or the due one ends the run.
use Prim.Native.Nat.{ℕ, zero, suc, ◌+◌, ◌*◌, ◌-◌, ◌≤◌, ◌<◌}
use mathlib.Core.Path.{◌≡◌, refl, sym, ap, ◌∙◌}
use mathlib.Core.List.{List, [], ◌∷◌}
use Rattle.std.proofs.Common.{Option, Break}
use native.Mathlib.Omega.{arith}
use native.Mathlib.Nat.{add-zero}
use lib.Dec.{leb}
use lib.ListN.{length, drop}
use borrow.Author.Tests.{leb-true, leb-false, ne_eqb}
use Rattle.room.specs.Room.{put-nil}
use Rattle.room.specs.Layout.{stride}
use Rattle.terms.specs.Bounds.{edition_one}
use Rattle.terms.specs.Answers.{listed}
use Rattle.terms.specs.Lists.{cases}
use Rattle.search.specs.declared.ends.End.{End as How}
use Rattle.search.specs.declared.ends.End.TheVariants.{Done, Steps, Depth}
use Rattle.search.specs.declared.limits.Limits.{Limits}
use Rattle.search.specs.State.{State, Node, dead, live}
use Rattle.search.specs.Children.{children}
use Rattle.search.specs.Run.{Visit, visit, dead_visit, stops, verdict, scan}
use Rattle.search_laws.specs.Going.{Open, resumed, left, to_come, to_come_spent, to_come_dead, to_come_live, run_stops}
use Rattle.search_laws.specs.ChoiceNumbers.{drop-next}
use Rattle.rows.specs.declared.parts.Reached.{Reached}
use Rattle.results.specs.declared.ran.Record.{Record}
use Rattle.counters.specs.Counted.{counted}
use Rattle.only_child.specs.declared.next.Next.{Next}
use Rattle.only_child.specs.declared.next.Next.TheVariants.{Spent, Node as Found, Due}
use Rattle.only_child.specs.Next.{Tells, all_dead, then_live, then_due, Child}
use Rattle.search_turn.specs.Desk.{Desk}
use Rattle.search_turn.specs.ChildrenPassed.{spent_stops, deep_stops}
use Rattle.search_turn.specs.Path.{Rows, rows_kept}
use Rattle.results.specs.Loans.{loan}
use Rattle.visits.specs.DueNode.{most_of, back_to, due_ending}
use Rattle.search_turn.specs.Running.{Given, given, remains, Suits, scratch_of, Running, Turned, goes, ends}
use Rattle.search_turn.proofs.GoesOn.{rows_above, passed, most_few, most-left}

-- ---- a run that ends

module _ (limits : Limits) (r : Record) (a : List ℕ) where
  pub done-here : given r a (remains limits r (length a) []) ≡ record { ending = record { end = Done; counts = r }; answers = a }
  unfolding given remains resumed scan listed
  done-here = rw (add-zero r.visited, add-zero r.answers, add-zero r.words, put-nil)

  -- what is left of the loan
  abbrev pub lent_now : Visit → How → Type 0
  lent_now v e = verdict edition_one (left (loan limits (length a)) r.visited r.words) v ≡ stops e

  pub stops_here : (v : Visit) (vs : List Visit) (e : How) → lent_now v e
      → given r a (remains limits r (length a) (v ∷ vs)) ≡ record { ending = record { end = e; counts = r }; answers = a }
  unfolding given remains listed
  stops_here v vs e h =
      rw (run_stops edition_one (loan limits (length a)) r.visited [] r.words v vs e h, add-zero r.answers, add-zero r.words, put-nil)

pub nothing-to_come : (deepest : ℕ) → to_come deepest [] ≡ []
unfolding to_come
nothing-to_come deepest = refl

-- the due node ends the run: steps are spent, or it is too deep
pub due_stops : (limits : Limits) (level : ℕ) (r : Record) (a : List ℕ) (k : ℕ) (v : Visit) (vs : List Visit) → v.depth ≡ suc level → k ≡ most_of limits level r → r.visited ≤ limits.steps
    → given (counted r k) a (remains limits (counted r k) (length a) (v ∷ vs)) ≡ record { ending = due_ending limits (counted r k); answers = a }
unfolding due_ending left loan
due_stops limits level r a k v vs d h s =
    cases (leb limits.steps (r.visited + k))
    (λ t.
    let g = leb-true limits.steps (r.visited + k) t in
    rw t (stops_here limits (counted r k) a v vs Steps (spent_stops edition_one (left (loan limits (length a)) (r.visited + k) r.words) v (omega arith))))
    (λ f.
    let g = leb-false limits.steps (r.visited + k) f in
    let deep : limits.depth ≤ level = cases (leb limits.depth level) (λ y. leb-true limits.depth level y)
    (λ n. let m = most-left limits level r (leb-false limits.depth level n) in absurd (omega arith)) in
    rw f (stops_here limits (counted r k) a v vs Depth (deep_stops edition_one (left (loan limits (length a)) (r.visited + k) r.words) v (omega arith) (omega arith))))

dead_depth : (d : ℕ) → (dead_visit d).depth ≡ d
unfolding dead_visit
dead_depth d = refl

live_depth : (d : ℕ) (st : State) → (visit d st).depth ≡ d
unfolding visit
live_depth d st = refl

-- ---- the rows of a path whose room was written past them

pub suits_kept : {arities : List ℕ} {limits : Limits} {l r : List ℕ} → length r ≡ length l → Suits arities limits l → Suits arities limits r
suits_kept e S = record { steps = S.steps; depth = S.depth; size = S.size; table = S.table; room = rw e S.room; short = rw e S.short }

module _ {arities : List ℕ} {limits : Limits} {l a : List ℕ} {level : ℕ} {shown : Option ℕ} {r : Record} {to : Given} (R : Running arities limits l a level shown r to) where
  abbrev pub most : ℕ
  most = most_of limits level r

  abbrev pub Told : Next → List ℕ → Type 0
  Told n l₁ = Child l (level * stride limits.size) R.top.child limits.size most R.top.state n l₁

  pub told_few : {k : ℕ} {l₁ : List ℕ} → Told (Spent k) l₁ → k ≤ limits.steps - r.visited
  told_few C = go C.tells
    where
      go : {ns : List Node} {l₁ : List ℕ} {k : ℕ} → Tells l (level * stride limits.size + stride limits.size) limits.size ns most l₁ (Spent k) → k ≤ limits.steps - r.visited
      go (all_dead h e) = omega (arith, most_few limits level r)

  pub due_few : {k : ℕ} {l₁ : List ℕ} → Told (Due k) l₁ → k ≤ limits.steps - r.visited
  due_few C = go C.tells
    where
      go : {ns : List Node} {l₁ : List ℕ} {k : ℕ} → Tells l (level * stride limits.size + stride limits.size) limits.size ns most l₁ (Due k) → k ≤ limits.steps - r.visited
      go (then_due node rest h e) = omega (arith, most_few limits level r)

  pub node_few : {k : ℕ} {m : Reached} {l₁ : List ℕ} → Told (Found k m) l₁ → k < limits.steps - r.visited
  node_few C = go C.tells
    where
      go : {ns : List Node} {l₁ : List ℕ} {k : ℕ} {m : Reached} → Tells l (level * stride limits.size + stride limits.size) limits.size ns most l₁ (Found k m) → k < limits.steps - r.visited
      go (then_live next rest h e M) = omega (arith, most_few limits level r)

  -- no child is left
  pub turned_spent : {k : ℕ} {shown₁ : Option ℕ} {l₁ : List ℕ} → Told (Spent k) l₁ → Desk l₁ limits.size (scratch_of limits) R.above shown₁ → Turned arities limits l₁ a level r to (back_to level (counted r k)) shown₁
  unfolding back_to
  turned_spent {k} {shown₁} {l₁} C D = go C.tells
    where
      up : (path : List Open) (n : ℕ) → length path ≡ n → Rows arities limits.size r.visited l path
          → Desk l₁ limits.size (scratch_of limits) path shown₁ → n * stride limits.size ≤ level * stride limits.size + stride limits.size
          → n ≤ limits.depth + 1 → k ≤ limits.steps - r.visited
          → level ≡ n → to ≡ given (counted r k) a (remains limits (counted r k) (length a) (to_come limits.depth path)) → Turned arities limits l₁ a level r to (back_to n (counted r k)) shown₁
      up [] n e Rs S w d f same g =
          rw (sym e) (ends (g ∙ ap (λ vs. given (counted r k) a (remains limits (counted r k) (length a) vs)) (nothing-to_come limits.depth) ∙ done-here limits (counted r k) a))
      up (o ∷ path) zero e Rs S w d f same g = absurd (omega arith)
      up (o ∷ path) (suc n) e Rs S w d f same g =
          rw (ne_eqb (suc n) 0 (λ z. omega arith))
          (goes {p = record { level = suc n - 1; counts = counted r k }}
          (record {
            suits = suits_kept C.long R.suits;
            top = o;
            above = path;
            rows = rows_kept l l₁ (level * stride limits.size + stride limits.size) C.below C.long {more = r.visited + k} (omega arith) (o ∷ path) (rw e w) Rs;
            levels = omega arith;
            desk = S;
            deep = omega arith;
            steps = omega (arith, R.steps);
            answers = omega (arith, R.answers);
            words = R.words;
            gives = g;
          })
          (omega arith))

      go : {l₂ : List ℕ} → Tells l (level * stride limits.size + stride limits.size) limits.size (drop R.top.child (children R.top.state)) most l₂ (Spent k)
          → Turned arities limits l₁ a level r to (back_to level (counted r k)) shown₁
      go (all_dead h e) =
          let p = passed R k h e in
          up R.above level R.levels (rows_above R.rows) D (omega arith) (omega (arith, R.deep)) (omega (arith, most_few limits level r)) refl
          (p.1
          ∙ ap (λ vs. given (counted r k) a (remains limits (counted r k) (length a) vs)) (to_come_spent limits.depth R.top.state R.above (R.top.child + k) p.0))

  -- a child is due that may not be opened
  pub turned_due : {k : ℕ} {shown₁ : Option ℕ} {l₁ : List ℕ} → Told (Due k) l₁ → Turned arities limits l₁ a level r to (Break (due_ending limits (counted r k))) shown₁
  turned_due {k} {shown₁} {l₁} C = go C.tells
    where
      at_node : (v : Visit) (vs : List Visit) → v.depth ≡ suc level → k ≡ most
          → to ≡ given (counted r k) a (remains limits (counted r k) (length a) (v ∷ vs)) → Turned arities limits l₁ a level r to (Break (due_ending limits (counted r k))) shown₁
      at_node v vs d h g = ends (g ∙ due_stops limits level r a k v vs d h R.steps)

      by_node : (node : Node) (rest : List Node) → drop (R.top.child + k) (children R.top.state) ≡ node ∷ rest → k ≡ most
          → to ≡ given (counted r k) a (remains limits (counted r k) (length a) (to_come limits.depth (record { state = R.top.state; child = R.top.child + k } ∷ R.above)))
          → Turned arities limits l₁ a level r to (Break (due_ending limits (counted r k))) shown₁
      by_node dead rest e h g =
          at_node (dead_visit (suc (length R.above))) _ (dead_depth _ ∙ ap suc R.levels) h
          (g ∙ ap (λ vs. given (counted r k) a (remains limits (counted r k) (length a) vs))
          (to_come_dead limits.depth R.top.state R.above (R.top.child + k) rest e (drop-next (R.top.child + k) (children R.top.state) _ _ e) (omega (arith, R.levels, R.deep))))
      by_node (live next) rest e h g =
          at_node (visit (suc (length R.above)) next) _ (live_depth _ next ∙ ap suc R.levels) h
          (g ∙ ap (λ vs. given (counted r k) a (remains limits (counted r k) (length a) vs))
          (to_come_live limits.depth R.top.state R.above (R.top.child + k) next rest e (drop-next (R.top.child + k) (children R.top.state) _ _ e) (omega (arith, R.levels, R.deep))))

      go : {l₂ : List ℕ} → Tells l (level * stride limits.size + stride limits.size) limits.size (drop R.top.child (children R.top.state)) most l₂ (Due k)
          → Turned arities limits l₁ a level r to (Break (due_ending limits (counted r k))) shown₁
      go (then_due node rest h e) = let p = passed R k (omega arith) e in by_node node rest p.0 h p.1
