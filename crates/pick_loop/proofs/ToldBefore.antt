-- What is told of a row's children, said of the room as it was before: what was written meanwhile lies after the row.
use Prim.Native.Nat.{ℕ}
use mathlib.Core.Path.{◌≡◌, sym, ◌∙◌}
use mathlib.Core.Bool.{true, false, true≢false}
use mathlib.Core.List.{List}
use native.Mathlib.Omega.{arith}
use lib.ListN.{length}
use Rattle.room.specs.Room.{seg}
use Rattle.search.specs.State.{State, Node}
use Rattle.rows.specs.declared.parts.Reached.{Reached}
use Rattle.only_child.specs.declared.next.Next.{Next}
use Rattle.only_child.specs.declared.next.Next.TheVariants.{Spent, Node as Found, Due}
use Rattle.only_child.specs.Next.{Tells, all_dead, then_live, then_due, Kept}
use Rattle.pick_loop.specs.Shown.{Looks, Opens}

-- ---- the variants differ

pub spent_none : {k j : ℕ} {a : Reached} → Spent k ≡ Found j a → ⊥
spent_none e = let z : ◌≡◌ {A = ℕ} 0 1 = cc in omega arith

pub due_none : {k j : ℕ} {a : Reached} → Due k ≡ Found j a → ⊥
due_none e = let z : ◌≡◌ {A = ℕ} 0 1 = cc in omega arith

pub found_same : {k j : ℕ} {a b : Reached} → Found k a ≡ Found j b → k ≡ j
found_same e = cc

-- ---- the room before

pub tells_before : {l r q : List ℕ} {to lent most : ℕ} {ns ms : List Node} {a : Next} → length r ≡ length l → seg r 0 to ≡ seg l 0 to → ms ≡ ns → Tells r to lent ns most q a → Tells l to lent ms most q a
tells_before long below e (all_dead h w) = all_dead h (e ∙ w)
tells_before long below e (then_live s ns h w M) = then_live s ns h (e ∙ w) (record { long = M.long ∙ long; below = M.below ∙ below; tells = M.tells; holds = M.holds })
tells_before long below e (then_due n ns h w) = then_due n ns h (e ∙ w)

-- ---- with whether the split stands open

module _ {l : List ℕ} {at number lent scratch most : ℕ} {st : State} {a : Next} {r : List ℕ} where
  pub looks_kept : Kept l at number lent scratch most st a r → Looks l at number lent scratch most st (record { next = a; opens = false }) r
  looks_kept K = record { child = K.child; opens = λ e. absurd (true≢false (sym e)); keeps = λ e. K.keeps }

  pub looks_opened : Opens l at number lent scratch most st a r → Looks l at number lent scratch most st (record { next = a; opens = true }) r
  looks_opened O = record { child = O.child; opens = λ e. O.leaves; keeps = λ e. absurd (true≢false e) }
