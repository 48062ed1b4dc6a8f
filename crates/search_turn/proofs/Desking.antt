-- Which split stands open after a look at the deepest row: none where the row is spent and its split was opened, the row's own where a child of it is
-- opened, and else the one that stood open before.
use Prim.Native.Nat.{ℕ, suc, ◌+◌, ◌*◌}
use mathlib.Core.Path.{◌≡◌, sym, ap, ◌∙◌}
use mathlib.Core.Bool.{true, false, cond}
use mathlib.Core.List.{List, ◌∷◌}
use Rattle.std.proofs.Common.{Option, Some, None}
use native.Mathlib.Omega.{arith}
use Rattle.room.specs.Layout.{stride}
use Rattle.search.specs.declared.limits.Limits.{Limits}
use Rattle.rows.specs.declared.parts.Reached.TheVariants.{Live}
use Rattle.results.specs.declared.ran.Record.{Record}
use Rattle.only_child.specs.declared.next.Looked.{Looked}
use Rattle.only_child.specs.declared.next.Next.TheVariants.{Node as Found}
use Rattle.pick_loop.specs.Shown.{Looks}
use Rattle.search_turn.specs.Desk.{Desk, nothing_open, open_here, open_above, desk_here, desk_above, desk_kept}
use Rattle.children.specs.Looking.{Looking}
use Rattle.visits.specs.DueNode.{most_of}
use Rattle.search_turn.specs.Running.{Given, Running, scratch_of}
use Rattle.search_turn.proofs.GoesOn.{rows_above, ready}
use Rattle.terms.specs.Lists.{cases}

module _ {arities : List ℕ} {limits : Limits} {l a : List ℕ} {level : ℕ} {shown : Option ℕ} {r : Record} {to : Given} (R : Running arities limits l a level shown r to) where
  abbrev at : ℕ
  at = level * stride limits.size

  pub looking : Looking arities l at level R.top.child limits.size (scratch_of limits) (most_of limits level r) shown R.top.state
  looking = record {
    level_small = omega (arith, R.deep, R.suits.depth);
    ready = ready R;
    stands = λ e. desk_here R.desk (e ∙ ap Some (sym R.levels));
  }

  module _ {x : Looked} {l₁ : List ℕ} (L : Looks l at R.top.child limits.size (scratch_of limits) (most_of limits level r) R.top.state x l₁) (own : shown ≡ Some level → x.opens ≡ true) where
    still_open : x.opens ≡ false → Desk l₁ limits.size (scratch_of limits) R.above shown
    still_open f =
        desk_kept (L.keeps f) (rows_above R.rows)
        (desk_above R.desk (λ e. let t = own (e ∙ ap Some R.levels) in let z : ◌≡◌ {A = ℕ} 0 1 = cc in omega arith))

    pub open_then_spent : Desk l₁ limits.size (scratch_of limits) R.above (cond x.opens None shown)
    open_then_spent = cases x.opens (λ t. rw t nothing_open) (λ f. rw f (still_open f))

    pub open_then_live : {k : ℕ} → x.next ≡ Found k Live
        → Desk l₁ limits.size (scratch_of limits) (record { state = R.top.state; child = suc (R.top.child + k) } ∷ R.above) (cond x.opens (Some level) shown)
    open_then_live {k} e =
        cases x.opens
        (λ t. rw (t, sym R.levels) (open_here {o = record { state = R.top.state; child = suc (R.top.child + k) }} (record { last = R.top.child + k; after = omega arith; shown = (L.opens t).shown k e })))
        (λ f. rw f (open_above (still_open f)))
