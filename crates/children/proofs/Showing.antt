-- A look at a row whose split stands open: the picks may go on, and what is told of the children after them is what a look tells.
use Prim.Native.Nat.{ℕ, ◌+◌}
use mathlib.Core.Path.{◌≡◌, sym}
use mathlib.Core.Bool.{true}
use mathlib.Core.List.{List}
use Rattle.std.proofs.Common.{Option, Some}
use native.Mathlib.Omega.{arith}
use Rattle.search.specs.State.{State}
use Rattle.only_child.specs.declared.next.Next.{Next}
use Rattle.pick_loop.specs.Shown.{Opened, OpenedAt, Looks, Opens}
use Rattle.children.specs.Looking.{Looking}

module _ {arities l : List ℕ} {at level number size scratch most : ℕ} {shown : Option ℕ} {st : State} (K : Looking arities l at level number size scratch most shown st) (own : shown ≡ Some level) where
  abbrev last : ℕ
  last = (K.stands own).last

  opened : Opened arities l at size scratch most st last
  opened = record { ready = rw (sym (K.stands own).after) K.ready; shown = (K.stands own).shown }

  pub opened_at : OpenedAt arities l at size scratch most
  opened_at = record { state = st; last = last; here = opened }

  pub looks_on : {x : Next} {r : List ℕ} → ((st : State) (last : ℕ) → Opened arities l at size scratch most st last → Opens l at (last + 1) size scratch most st x r)
      → Looks l at number size scratch most st (record { next = x; opens = true }) r
  looks_on says =
      let L = says st last opened in
      rw (K.stands own).after
      (record {
        child = L.child;
        opens = λ t. L.leaves;
        keeps = λ f. let z : ◌≡◌ {A = ℕ} 0 1 = cc in absurd (omega arith);
      })
