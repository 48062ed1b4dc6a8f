-- A search that goes on: its deepest row is ready for the next child, and the dead ends passed at once are counted.
use Prim.Native.Nat.{ℕ, zero, suc, ◌+◌, ◌*◌, ◌-◌, ◌≤◌, ◌<◌}
use mathlib.Core.Path.{◌≡◌, sym, ap, ◌∙◌}
use mathlib.Core.List.{List, ◌∷◌, ◌++◌}
use Rattle.std.proofs.Common.{Option}
use native.Mathlib.Omega.{arith}
use native.Mathlib.Nat.{suc-mul, add-zero, mul-le-mul, add-mul}
use lib.Dec.{leb}
use lib.ListN.{length, drop}
use borrow.Author.Tests.{leb-true, leb-false}
use Rattle.room.specs.Parts.{row_within}
use Rattle.room.specs.Layout.{HEADER, SPARE_ROWS, stride}
use Rattle.terms.specs.Bounds.{edition_one}
use Rattle.terms.specs.Lists.{cases}
use Rattle.search.specs.declared.limits.Limits.{Limits}
use Rattle.search.specs.State.{Node}
use Rattle.search.specs.Children.{children}
use Rattle.search.specs.RunLimits.{most_depth, most_size}
use Rattle.search_laws.specs.Going.{Open, to_come}
use Rattle.results.specs.declared.ran.Record.{Record}
use Rattle.counters.specs.Counted.{counted}
use Rattle.only_child.specs.Next.{dead_ends, Ready}
use Rattle.search_turn.specs.ChildrenPassed.{to_come_deads, deads_pass}
use Rattle.search_turn.specs.Path.{Row, Rows, a_row}
use Rattle.results.specs.Loans.{loan, needed}
use Rattle.visits.specs.DueNode.{most_of}
use Rattle.search_turn.specs.Running.{Given, given, remains, Running}
use Rattle.search_turn.proofs.Sounding.{sound}

pub top-row : {arities : List ℕ} {size visited : ℕ} {l : List ℕ} {o : Open} {path : List Open} → Rows arities size visited l (o ∷ path) → Row arities size visited l (length path * stride size) o
top-row (a_row R Rs) = R

pub rows_above : {arities : List ℕ} {size visited : ℕ} {l : List ℕ} {o : Open} {path : List Open} → Rows arities size visited l (o ∷ path) → Rows arities size visited l path
rows_above (a_row R Rs) = Rs

pub most_few : (limits : Limits) (level : ℕ) (r : Record) → most_of limits level r ≤ limits.steps - r.visited
unfolding most_of
most_few limits level r = cases (leb limits.depth level) (λ t. rw t (omega arith)) (λ f. rw f (omega arith))

pub most-deep : (limits : Limits) (level : ℕ) (r : Record) → 0 < most_of limits level r → level < limits.depth
unfolding most_of
most-deep limits level r =
    cases (leb limits.depth level) (λ t h. let z : 0 < 0 = rw t at h in absurd (omega arith)) (λ f h. leb-false limits.depth level f)

-- within the lent depth, the steps that are left
pub most-left : (limits : Limits) (level : ℕ) (r : Record) → level < limits.depth → most_of limits level r ≡ limits.steps - r.visited
unfolding most_of
most-left limits level r h =
    cases (leb limits.depth level) (λ t. let g = leb-true limits.depth level t in absurd (omega arith)) (λ f. rw f)

pub needed_small : (limits : Limits) → limits.depth ≤ most_depth → limits.size ≤ most_size → needed limits ≤ 8462400
unfolding needed
needed_small limits d s = mul-le-mul {n₁ = limits.depth + SPARE_ROWS} {m₁ = limits.size + HEADER} {n₂ = 1032} {m₂ = 8200} (omega arith) (omega arith)

pub needed_rows : (limits : Limits) → (limits.depth + 1) * stride limits.size + 7 * stride limits.size ≡ needed limits
unfolding needed
needed_rows limits =
    sym (add-mul (limits.depth + 1) 7 (stride limits.size)) ∙ ap (λ (n : ℕ). n * stride limits.size) (rows_in_all limits.depth)
  where
    rows_in_all : (d : ℕ) → d + 1 + 7 ≡ d + HEADER
    rows_in_all d = omega arith

module _ {arities : List ℕ} {limits : Limits} {l a : List ℕ} {level : ℕ} {shown : Option ℕ} {r : Record} {to : Given} (R : Running arities limits l a level shown r to) where
  pub row_here : Row arities limits.size r.visited l (level * stride limits.size) R.top
  row_here = rw R.levels at (top-row R.rows)

  pub ready : Ready arities l (level * stride limits.size) R.top.child limits.size ((limits.depth + 1) * stride limits.size) (most_of limits level r) R.top.state
  ready =
      let S = R.suits in
      let h = row_here in
      let n = needed_rows limits in
      record {
        sound = sound S.table h.few h.orderly;
        holds = h.holds;
        fits = h.small;
        row = row_within (stride limits.size) {i = level} {rows = limits.depth + 1} (omega (arith, R.deep)) (omega arith);
        child = λ some.
            omega (arith, suc-mul level (stride limits.size), row_within (stride limits.size) {i = suc level} {rows = limits.depth + 1} {n = (limits.depth + 1) * (stride limits.size)} (omega (arith, most-deep limits level r some)) (omega arith));
        scratch_rows = omega (arith, S.room);
        lent_small = S.size;
        small = S.short;
        numbers = omega (arith, h.passed, most_few limits level r, R.steps, S.steps);
      }

  -- the dead ends are passed, and the next child is the one after them
  pub passed : (k : ℕ) {rest : List Node} → k ≤ most_of limits level r → drop R.top.child (children R.top.state) ≡ dead_ends k ++ rest
      → (drop (R.top.child + k) (children R.top.state) ≡ rest) × (to
      ≡ given (counted r k) a (remains limits (counted r k) (length a) (to_come limits.depth (record { state = R.top.state; child = R.top.child + k } ∷ R.above))))
  unfolding given remains loan dead_ends
  passed zero f e = rw (add-zero R.top.child, add-zero r.visited) (e, R.gives)
  passed (suc k) f e =
      let d = most-deep limits level r (omega arith) in
      let m = most_few limits level r in
      let t = to_come_deads limits.depth R.top.state R.above (omega (arith, R.levels)) R.top.child (suc k) e in (
        t.0,
        R.gives
            ∙ ap (λ vs. given r a (remains limits r (length a) vs)) t.1
            ∙ ap (given r a)
            (deads_pass edition_one (loan limits (length a)) r.words {d = suc (length R.above)} (omega (arith, R.levels)) r.visited (suc k) (omega (arith, R.steps))
            (to_come limits.depth (record { state = R.top.state; child = R.top.child + suc k } ∷ R.above))),
      )
