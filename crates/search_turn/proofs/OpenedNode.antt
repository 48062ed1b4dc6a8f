-- A node that is opened: it is counted, its answer is noted, and the search goes on below it; or the answer does not fit, and the run ends.
use Prim.Native.Nat.{ℕ, zero, suc, ◌+◌, ◌*◌, ◌-◌, ◌≤◌, ◌<◌}
use mathlib.Core.Path.{◌≡◌, refl, sym, ap, ◌∙◌}
use mathlib.Core.List.{List, [], ◌∷◌, ◌++◌}
use Rattle.std.proofs.Common.{Option}
use native.Mathlib.Omega.{arith}
use native.Mathlib.Nat.{suc-mul, add-zero}
use native.Mathlib.Numerals.{add-one}
use lib.Dec.{leb}
use lib.ListN.{length, drop, length-append}
use borrow.Author.Tests.{leb-true, leb-false}
use Rattle.room.specs.Room.{seg, put, length-put, put-put, put-nil}
use Rattle.room.specs.Layout.{HEADER, stride}
use Rattle.terms.specs.Bounds.{edition_one}
use Rattle.terms.specs.Lists.{All, none, both, cases}
use Rattle.terms.specs.Answers.{listed, listed_append}
use Rattle.search.specs.declared.ends.End.TheVariants.{Space}
use Rattle.search.specs.declared.limits.Limits.{Limits}
use Rattle.search.specs.State.{State, Node, live, state_size}
use Rattle.search.specs.Children.{children}
use Rattle.search.specs.Run.{Visit, visit, Outcome, Answer, silent, states, found, found_size, overflows, goes_on, verdict}
use Rattle.invariants.proofs.Orderly.{Orderly}
use Rattle.invariants.proofs.Tree.{orderly_children, Live as IsLive, is_live}
use Rattle.search.specs.Verdicts.{allowed}
use Rattle.search_laws.specs.Going.{Open, resumed, left, to_come, run_goes_on, run_overflows}
use Rattle.rows.specs.declared.parts.Reached.TheVariants.{Live}
use Rattle.rows.specs.Made.{of_reached}
use Rattle.rows.specs.Row.{Fresh, Makes}
use Rattle.results.specs.declared.ran.Record.{Record}
use Rattle.counters.specs.Counted.{counted}
use Rattle.answer_record.specs.Noting.{with_answers, fits, answer_in, note_by, held_by}
use Rattle.answer_record.specs.RowAnswer.{answer-held, held_notable}
use Rattle.only_child.specs.declared.next.Next.TheVariants.{Node as Found}
use Rattle.only_child.specs.Became.{few_names, small_enough}
use Rattle.only_child.specs.Next.{dead_ends, Tells, then_live}
use Rattle.search_turn.specs.Desk.{Desk, open_above, desk_kept}
use Rattle.visits.specs.ChildNumber.{number_words, part-after}
use Rattle.search_turn.specs.ChildrenPassed.{long_overflows}
use Rattle.search_turn.specs.Path.{Row, Rows, a_row, holds_kept, rows_kept, part-kept, numbered, before-number, holds_numbered, holds_after, fresh_number}
use Rattle.results.specs.Loans.{loan}
use Rattle.visits.specs.DueNode.{most_of, OpenParts, child_place, child_row, noted_turn, node_turn, node_room, node_answers}
use Rattle.search_turn.specs.Running.{Given, given, remains, scratch_of, Running, Turned, goes, ends}
use Rattle.search_turn.proofs.UnopenedNode.{next_visit, met, open_to}
use Rattle.search_turn.proofs.GoesOn.{passed, rows_above, row_here, ready, most_few, most-deep}
use Rattle.search_turn.proofs.Turning.{Told, suits_kept}

-- ---- the record and the answer words, with answers more

-- so many nodes and these answers before, or counted and listed already
pub listed_already : (r : Record) (a : List ℕ) (k : ℕ) (ws : List (List ℕ)) (o : Outcome)
    → given r a (resumed k ws o) ≡ given (with_answers r ws) (put a r.words (listed ws)) (resumed k [] o)
unfolding given resumed with_answers
listed_already r a k ws o =
    let n : r.answers + length (ws ++ o.answers) ≡ r.answers + length ws + length o.answers = omega (arith, length-append ws o.answers) in
    let m : r.words + length (listed ws ++ listed o.answers) ≡ r.words + length (listed ws) + length (listed o.answers) =
    omega (arith, length-append (listed ws) (listed o.answers)) in
    rw (n, listed_append ws o.answers, m, ← (put-put (listed ws) a (listed o.answers) r.words))

module _ (limits : Limits) (r : Record) (a : List ℕ) (v : Visit) (vs : List Visit) where
  pub overflows_here : verdict edition_one (left (loan limits (length a)) r.visited r.words) v ≡ overflows
      → given r a (remains limits r (length a) (v ∷ vs)) ≡ record { ending = record { end = Space; counts = counted r 1 }; answers = a }
  unfolding given remains listed
  overflows_here h = rw (run_overflows edition_one (loan limits (length a)) r.visited [] r.words v vs h, add-zero r.answers, add-zero r.words, put-nil)

  abbrev pub more : Record
  more = with_answers (counted r 1) (found edition_one v.answer)

  abbrev pub then : List ℕ
  then = put a r.words (listed (found edition_one v.answer))

  pub goes_here : verdict edition_one (left (loan limits (length a)) r.visited r.words) v ≡ goes_on
      → given r a (remains limits r (length a) (v ∷ vs)) ≡ given more then (remains limits more (length then) vs)
  unfolding given remains with_answers found_size
  goes_here h =
      ap (given r a) (run_goes_on edition_one (loan limits (length a)) r.visited [] r.words v vs h)
      ∙ listed_already r a (r.visited + 1) (found edition_one v.answer) _
      ∙ rw (length-put a r.words (listed (found edition_one v.answer)))

-- a node is at most one answer
pub one_at_most : (x : Answer) → length (found edition_one x) ≤ 1
unfolding found
one_at_most silent = omega arith
one_at_most (states bs) = omega arith

-- ---- the child's state

child_of : {P : Node → Type 0} {ns : List Node} (c : ℕ) {n : Node} {rest : List Node} → All P ns → drop c ns ≡ n ∷ rest → P n
child_of zero none e = let z : ◌≡◌ {A = ℕ} 0 1 = cc in absurd (omega arith)
child_of {P} zero {n} (both {x = x} h hs) e = let s : x ≡ n = cc in rw (sym s) h
child_of (suc c) none e = let z : ◌≡◌ {A = ℕ} 0 1 = cc in absurd (omega arith)
child_of (suc c) (both h hs) e = child_of c hs e

live_orderly : {arities : List ℕ} {st : State} → IsLive (Orderly arities) (live st) → Orderly arities st
live_orderly (is_live o) = o

module _ {arities : List ℕ} {limits : Limits} {l a : List ℕ} {level : ℕ} {shown : Option ℕ} {r : Record} {to : Given} (R : Running arities limits l a level shown r to) {k : ℕ} {l₁ : List ℕ}
    (long : length l₁ ≡ length l) (below : seg l₁ 0 (child_place limits level) ≡ seg l 0 (child_place limits level)) (next : State) (rest : List Node)
    (h : k < most_of limits level r) (e : drop R.top.child (children R.top.state) ≡ dead_ends k ++ (live next ∷ rest))
    (M : Makes edition_one l (child_place limits level) limits.size (live next) (of_reached Live) l₁) where
  abbrev at : ℕ
  at = level * stride limits.size

  fresh : Fresh edition_one l₁ (child_place limits level) next
  unfolding of_reached
  fresh = M.holds next refl refl

  few : next.next ≤ edition_one.path_unknowns
  unfolding of_reached
  few = few_names edition_one limits.size next M.tells (λ q. let z : ◌≡◌ {A = ℕ} 0 1 = cc in omega arith)

  small : state_size next ≤ limits.size
  unfolding of_reached
  small = small_enough edition_one limits.size next M.tells

  orderly : Orderly arities next
  orderly = live_orderly (child_of (R.top.child + k) (orderly_children R.top.state (row_here R).orderly) (passed R k (omega arith) e).0)

  within : child_place limits level + stride limits.size ≤ length l₁
  within = let y = ready R in omega (arith, y.child (omega arith), y.scratch_rows)

  abbrev v : Visit
  v = next_visit R next

  answer : answer_in (child_row limits level l₁) ≡ found edition_one v.answer
  unfolding visit
  answer = answer-held fresh.holds (stride limits.size) within (omega (arith, small))

  pub open_parts : OpenParts limits level l₁ a (counted r k) (R.top.child + k)
  open_parts =
      let m = most_few limits level r in
      let y = row_here R in
      let S = R.suits in
      record {
        level_small = omega (arith, R.deep, S.depth);
        size_small = S.size;
        visited = omega (arith, S.steps, R.steps);
        number_small = omega (arith, S.steps, R.steps, y.passed);
        within = within;
        notable = held_notable fresh.holds (stride limits.size) within (omega (arith, small)) R.words (omega (arith, R.answers, R.steps, S.steps));
      }

  -- ---- the rows of the longer path

  abbrev number : ℕ
  number = R.top.child + k + 1

  abbrev l₂ : List ℕ
  l₂ = put l₁ (at + 5) (number_words number)

  abbrev here : Open
  here = record { state = R.top.state; child = suc (R.top.child + k) }

  here-within : at + HEADER ≤ length l₁
  here-within = omega (arith, within)

  here-row : Row arities limits.size (r.visited + k + 1) l₂ (length R.above * stride limits.size) here
  here-row =
      let y = row_here R in
      rw R.levels
      (record {
        holds = holds_numbered l₁ at number here-within (holds_kept l l₁ (child_place limits level) below long (omega (arith, y.small)) y.holds);
        number = numbered l₁ at number here-within ∙ ap number_words (add-one (R.top.child + k));
        small = y.small;
        few = y.few;
        orderly = y.orderly;
        passed = omega (arith, y.passed);
      })

  child-here : length (here ∷ R.above) * stride limits.size ≡ child_place limits level
  child-here = suc-mul (length R.above) (stride limits.size) ∙ ap (λ (n : ℕ). n * stride limits.size + stride limits.size) R.levels

  child_row-holds : Row arities limits.size (r.visited + k + 1) l₂ (length (here ∷ R.above) * stride limits.size) (record { state = next; child = 0 })
  child_row-holds =
      rw child-here
      (record {
        holds = holds_after l₁ at number here-within (omega arith) fresh.holds;
        number = part-after l₁ at number (child_place limits level + 5) 2 (omega arith) ∙ fresh_number fresh;
        small = small;
        few = few;
        orderly = orderly;
        passed = omega arith;
      })

  rows_before : seg l₂ 0 at ≡ seg l 0 at
  rows_before = before-number l₁ at number here-within ∙ part-kept l l₁ (child_place limits level) below long 0 at (omega arith)

  rows_then : Rows arities limits.size (r.visited + k + 1) l₂ (record { state = next; child = 0 } ∷ here ∷ R.above)
  rows_then =
      a_row child_row-holds
      (a_row here-row
      (rows_kept l l₂ at rows_before (length-put l₁ (at + 5) (number_words number) ∙ long) {more = r.visited + k + 1} (omega arith) R.above (rw R.levels (omega arith)) (rows_above R.rows)))

  -- ---- the split that stands open

  child_desk : {shown₁ : Option ℕ} → Desk l₁ limits.size (scratch_of limits) (here ∷ R.above) shown₁
      → Desk l₂ limits.size (scratch_of limits) (record { state = next; child = 0 } ∷ here ∷ R.above) shown₁
  child_desk D =
      open_above
      (desk_kept (part-after l₁ at number (scratch_of limits) (3 * stride limits.size) (omega (arith, (ready R).row))) (rows_above rows_then) D)

  -- ---- the turn

  left_now : (0 < (left (loan limits (length a)) (r.visited + k) r.words).steps) × (suc (length R.above) ≤ (left (loan limits (length a)) (r.visited + k) r.words).depth)
  left_now = open_to R k h

  abbrev deeper : List Visit
  deeper = to_come limits.depth (record { state = next; child = 0 } ∷ here ∷ R.above)

  overflowed : length a - r.words < found_size edition_one v → to ≡ record { ending = record { end = Space; counts = counted (counted r k) 1 }; answers = a }
  unfolding left loan visit
  overflowed f =
      met R next rest k h e
      ∙ overflows_here limits (counted r k) a v deeper (long_overflows edition_one (left (loan limits (length a)) (r.visited + k) r.words) v left_now.0 left_now.1 few small f)

  went_on : found_size edition_one v ≤ length a - r.words
      → to ≡ given (more limits (counted r k) a v deeper) (then limits (counted r k) a v deeper)
      (remains limits (more limits (counted r k) a v deeper) (length (then limits (counted r k) a v deeper)) deeper)
  unfolding left loan visit
  went_on f =
      met R next rest k h e
      ∙ goes_here limits (counted r k) a v deeper
      (allowed edition_one (left (loan limits (length a)) (r.visited + k) r.words) v
      (record { steps = left_now.0; depth = left_now.1; names = few; size = small; space = f }))

  goes_below : {shown₁ : Option ℕ} → Desk l₁ limits.size (scratch_of limits) (here ∷ R.above) shown₁ → found_size edition_one v ≤ length a - r.words
      → Running arities limits l₂ (then limits (counted r k) a v deeper) (level + 1) shown₁ (more limits (counted r k) a v deeper) to
  unfolding with_answers found_size
  goes_below D f =
      let p = length-put a r.words (listed (found edition_one v.answer)) in
      let o = one_at_most v.answer in
      record {
        suits = suits_kept (length-put l₁ (at + 5) (number_words number) ∙ long) R.suits;
        top = record { state = next; child = 0 };
        above = here ∷ R.above;
        rows = rows_then;
        levels = omega (arith, R.levels);
        desk = child_desk D;
        deep = omega (arith, most-deep limits level r (omega arith));
        steps = omega (arith, R.steps, most_few limits level r);
        answers = omega (arith, R.answers);
        words = omega (arith, R.words);
        gives = went_on f;
      }

  pub turned_open : {shown₁ : Option ℕ} → Desk l₁ limits.size (scratch_of limits) (here ∷ R.above) shown₁
      → Turned arities limits (node_room limits level l₁ (R.top.child + k) Live) (node_answers limits level l₁ a (counted r k) Live) level r to
      (node_turn limits level l₁ (length a) (counted r k) Live) shown₁
  unfolding node_room node_answers node_turn noted_turn note_by held_by fits found_size with_answers
  turned_open D =
      rw answer
      (cases (leb (length (listed (found edition_one v.answer))) (length a - r.words))
      (λ t. rw t (goes {p = record { level = level + 1; counts = more limits (counted r k) a v deeper }} (goes_below D (leb-true _ _ t)) (omega arith)))
      (λ f. rw f (ends (overflowed (leb-false _ _ f)))))

module _ {arities : List ℕ} {limits : Limits} {l a : List ℕ} {level : ℕ} {shown : Option ℕ} {r : Record} {to : Given} (R : Running arities limits l a level shown r to) {k : ℕ} {l₁ : List ℕ}
    (C : Told R (Found k Live) l₁) where
  pub live_parts : OpenParts limits level l₁ a (counted r k) (R.top.child + k)
  live_parts = go C.tells
    where
      go : Tells l (child_place limits level) limits.size (drop R.top.child (children R.top.state)) (most_of limits level r) l₁ (Found k Live)
          → OpenParts limits level l₁ a (counted r k) (R.top.child + k)
      go (then_live next rest h e M) = open_parts R C.long C.below next rest h e M

  pub turned_live : {shown₁ : Option ℕ} → Desk l₁ limits.size (scratch_of limits) (record { state = R.top.state; child = suc (R.top.child + k) } ∷ R.above) shown₁
      → Turned arities limits (node_room limits level l₁ (R.top.child + k) Live) (node_answers limits level l₁ a (counted r k) Live) level r to
      (node_turn limits level l₁ (length a) (counted r k) Live) shown₁
  turned_live {shown₁} D = go C.tells
    where
      go : Tells l (child_place limits level) limits.size (drop R.top.child (children R.top.state)) (most_of limits level r) l₁ (Found k Live)
          → Turned arities limits (node_room limits level l₁ (R.top.child + k) Live) (node_answers limits level l₁ a (counted r k) Live) level r to
          (node_turn limits level l₁ (length a) (counted r k) Live) shown₁
      go (then_live next rest h e M) = turned_open R C.long C.below next rest h e M D
