-- `search_loop::turn::take_turn`: `Hearing` says what each answer of `look` makes of the search.
use native.Mathlib.Omega.{arith}
use Rattle.search_turn.proofs.GoesOn.{ready}
use Rattle.search_turn.proofs.Hearing.{number-here, asks, spent_few, due_few_steps, node_few_steps, hears_spent, hears_due, hears_parts, hears_node}
use Rattle.search_turn.proofs.turn.take_turn.Goals as goal

pub overflow_mul-at : goal.overflow_mul-at
overflow_mul-at c = let y = ready c.requires.1 in omega (arith, y.row, y.small, y.scratch_rows)

pub overflow_mul-scratch : goal.overflow_mul-scratch
overflow_mul-scratch c = let y = ready c.requires.1 in omega (arith, y.row, y.small, y.scratch_rows)

pub overflow_add-low : goal.overflow_add-low
overflow_add-low c = let y = ready c.requires.1 in omega (arith, y.row, y.small, y.scratch_rows)

pub overflow_add-high : goal.overflow_add-high
overflow_add-high c = let y = ready c.requires.1 in omega (arith, y.row, y.small, y.scratch_rows)

pub offset_bounds-room-low : goal.offset_bounds-room-low
offset_bounds-room-low c = let y = ready c.requires.1 in omega (arith, y.row, y.small, y.scratch_rows)

pub slice_bounds-number_in-end : goal.slice_bounds-number_in-end
slice_bounds-number_in-end c = let y = ready c.requires.1 in omega (arith, y.row, y.small, y.scratch_rows)

pub look-looked-requires : goal.look-looked-requires
look-looked-requires c =
    let R = c.requires.1 in
    (R.top.state, asks R (number-here R c.number_in-number.ensures) c.most_passed-most.ensures)

pub passing-requires : goal.passing-requires
passing-requires c =
    let R = c.requires.1 in
    omega (
      arith,
      spent_few R (number-here R c.number_in-number.ensures) c.most_passed-most.ensures (c.look-looked.ensures.looks, c.look-looked.ensures.opens_value)
          c.in-Spent.is,
    )

pub passing-requires-in-Due : goal.passing-requires-in-Due
passing-requires-in-Due c =
    let R = c.requires.1 in
    omega (
      arith,
      due_few_steps R (number-here R c.number_in-number.ensures) c.most_passed-most.ensures (c.look-looked.ensures.looks, c.look-looked.ensures.opens_value)
          c.in-Due.is,
    )

pub passing-requires-in-Node : goal.passing-requires-in-Node
passing-requires-in-Node c =
    let R = c.requires.1 in
    omega (
      arith,
      (node_few_steps R (number-here R c.number_in-number.ensures) c.most_passed-most.ensures (c.look-looked.ensures.looks, c.look-looked.ensures.opens_value)
          c.in-Node.is).0,
    )

pub overflow_add-number : goal.overflow_add-number
overflow_add-number c =
    let R = c.requires.1 in
    omega (
      arith,
      (node_few_steps R (number-here R c.number_in-number.ensures) c.most_passed-most.ensures (c.look-looked.ensures.looks, c.look-looked.ensures.opens_value)
          c.in-Node.is).1,
    )

pub meet-requires : goal.meet-requires
meet-requires c =
    let R = c.requires.1 in
    rw c.passing-in-Node.ensures.level
    (hears_parts R (number-here R c.number_in-number.ensures) c.most_passed-most.ensures (c.look-looked.ensures.looks, c.look-looked.ensures.opens_value) c.in-Node.is
    c.passing-in-Node.ensures.counts)

pub returns-in-Spent : goal.returns-in-Spent
returns-in-Spent c =
    λ to R.
    hears_spent R (number-here R c.number_in-number.ensures) c.most_passed-most.ensures (c.look-looked.ensures.looks, c.look-looked.ensures.opens_value) c.in-Spent.is
    c.passing.ensures.counts (rw c.passing.ensures.level at c.back.ensures) c.shown_then.ensures

pub returns-in-Due : goal.returns-in-Due
returns-in-Due c =
    λ to R.
    hears_due R (number-here R c.number_in-number.ensures) c.most_passed-most.ensures (c.look-looked.ensures.looks, c.look-looked.ensures.opens_value) c.in-Due.is
    c.passing-in-Due.ensures.counts c.due.ensures

pub returns-in-Node : goal.returns-in-Node
returns-in-Node c =
    λ to R.
    hears_node R (number-here R c.number_in-number.ensures) c.most_passed-most.ensures (c.look-looked.ensures.looks, c.look-looked.ensures.opens_value) c.in-Node.is
    c.passing-in-Node.ensures.counts
    (rw c.passing-in-Node.ensures.level at c.meet.ensures.value, (rw c.passing-in-Node.ensures.level at c.meet.ensures.room_after, rw c.passing-in-Node.ensures.level at c.meet.ensures.answers_after))
    c.shown_then-in-Node.ensures
