-- One turn, put together: what is told of the next child, and what the functions of a turn make of it.
use Prim.Native.Nat.{ℕ, ◌+◌, ◌*◌, ◌-◌, ◌≤◌}
use mathlib.Core.Path.{◌≡◌, ap, ◌∙◌}
use mathlib.Core.Bool.{true, cond}
use mathlib.Core.List.{List}
use Rattle.std.proofs.Common.{Option, Some, None, Break}
use native.Mathlib.Omega.{arith}
use lib.ListN.{length, take, drop}
use Rattle.room.specs.Room.{seg}
use Rattle.room.specs.Layout.{stride}
use Rattle.search.specs.declared.limits.Limits.{Limits}
use Rattle.search.specs.State.{State}
use Rattle.search.specs.RunLimits.{most_steps}
use Rattle.rows.specs.declared.parts.Reached.{Reached}
use Rattle.rows.specs.declared.parts.Reached.TheVariants.{Names as ManyNames, Large, Live}
use Rattle.results.specs.declared.ran.Record.{Record}
use Rattle.counters.specs.Counted.{counted}
use Rattle.only_child.specs.declared.next.Looked.{Looked}
use Rattle.only_child.specs.declared.next.Next.TheVariants.{Spent, Node as Found, Due}
use Rattle.results.specs.declared.ran.Ending.{Ending}
use Rattle.pick_loop.specs.Shown.{Looks}
use Rattle.children.specs.Looking.{Looking}
use Rattle.visits.specs.ChildNumber.{number_of, number_words, number-back}
use Rattle.visits.specs.DueNode.{Turn, OpenParts, most_of, back_to, due_ending, node_turn, node_room, node_answers}
use Rattle.search_turn.specs.Running.{Given, scratch_of, Running, Turned}
use Rattle.search_turn.proofs.Desking.{looking, open_then_spent, open_then_live}
use Rattle.search_turn.proofs.OpenedNode.{live_parts, turned_live}
use Rattle.search_turn.proofs.UnopenedNode.{turned_names, turned_large}
use Rattle.search_turn.proofs.GoesOn.{row_here}
use Rattle.search_turn.proofs.Turning.{Told, told_few, due_few, node_few, turned_spent, turned_due}

module _ {arities : List ℕ} {limits : Limits} {l a : List ℕ} {level : ℕ} {shown : Option ℕ} {r : Record} {to : Given} (R : Running arities limits l a level shown r to) where
  abbrev at : ℕ
  at = level * stride limits.size

  -- the number in the deepest row's header
  pub number-here : {n : ℕ} → n ≡ number_of (take (at + 7 - (at + 5)) (drop (at + 5) l)) → n ≡ R.top.child
  unfolding seg
  number-here e =
      let two : at + 7 - (at + 5) ≡ 2 = omega arith in
      let w : take (at + 7 - (at + 5)) (drop (at + 5) l) ≡ number_words R.top.child = rw two (row_here R).number in
      e ∙ ap number_of w ∙ number-back R.top.child

  module _ {n m : ℕ} (is_number : n ≡ R.top.child) (is_most : m ≡ most_of limits level r) where
    pub asks : Looking arities l at level n limits.size (scratch_of limits) m shown R.top.state
    asks = rw (is_number, is_most) (looking R)

    module _ {x : Looked} {l₁ : List ℕ}
        (says : ((st : State) → Looking arities l at level n limits.size (scratch_of limits) m shown st → Looks l at n limits.size (scratch_of limits) m st x l₁) × (shown ≡ Some level → x.opens ≡ true)) where
      looks : Looks l at R.top.child limits.size (scratch_of limits) (most_of limits level r) R.top.state x l₁
      looks = rw (is_number, is_most) at (says.0 R.top.state asks)

      heard : Told R x.next l₁
      heard = looks.child

      pub spent_few : {k : ℕ} → x.next ≡ Spent k → r.visited + k ≤ most_steps
      spent_few e = omega (arith, told_few R (rw e at heard), R.steps, R.suits.steps)

      pub due_few_steps : {k : ℕ} → x.next ≡ Due k → r.visited + k ≤ most_steps
      due_few_steps e = omega (arith, due_few R (rw e at heard), R.steps, R.suits.steps)

      pub node_few_steps : {k : ℕ} {node : Reached} → x.next ≡ Found k node → (r.visited + k ≤ most_steps) × (n + k ≤ most_steps)
      node_few_steps e =
          let f = node_few R (rw e at heard) in
          let p = (row_here R).passed in
          (omega (arith, R.steps, R.suits.steps), omega (arith, R.steps, R.suits.steps))

      pub hears_spent : {k : ℕ} {shown₁ : Option ℕ} {t : Turn} {c : Record} → x.next ≡ Spent k → c ≡ counted r k → t ≡ back_to level c → shown₁ ≡ cond x.opens None shown → Turned arities limits l₁ a level r to t shown₁
      hears_spent e f g s = rw (g, f, s) (turned_spent R (rw e at heard) (open_then_spent R looks says.1))

      pub hears_due : {k : ℕ} {shown₁ : Option ℕ} {d : Ending} {c : Record} → x.next ≡ Due k → c ≡ counted r k → d ≡ due_ending limits c → Turned arities limits l₁ a level r to (Break d) shown₁
      hears_due e f g = rw (g, f) (turned_due R (rw e at heard))

      pub hears_parts : {k : ℕ} {node : Reached} {c : Record} → x.next ≡ Found k node → c ≡ counted r k → node ≡ Live → OpenParts limits level l₁ a c (n + k)
      hears_parts {k} {node} e f g = rw (f, is_number) (live_parts R (rw (e, g) at heard))

      by_node : {k : ℕ} (node : Reached) → x.next ≡ Found k node → Told R (Found k node) l₁
          → Turned arities limits (node_room limits level l₁ (R.top.child + k) node) (node_answers limits level l₁ a (counted r k) node) level r to (node_turn limits level l₁ (length a) (counted r k) node) (cond x.opens (Some level) shown)
      unfolding node_room node_answers node_turn
      by_node ManyNames e C = turned_names R C
      by_node Large e C = turned_large R C
      by_node Live e C = turned_live R C (open_then_live R looks says.1 e)

      pub hears_node : {k : ℕ} {shown₁ : Option ℕ} {node : Reached} {c : Record} {t : Turn} {l₂ a₂ : List ℕ} → x.next ≡ Found k node → c ≡ counted r k
          → (t ≡ node_turn limits level l₁ (length a) c node) × ((l₂ ≡ node_room limits level l₁ (n + k) node) × (a₂ ≡ node_answers limits level l₁ a c node))
          → shown₁ ≡ cond x.opens (Some level) shown → Turned arities limits l₂ a₂ level r to t shown₁
      hears_node {k} {node = node} e f g s = rw (g.0, g.1.0, g.1.1, f, s, is_number) (by_node node e (rw e at heard))
