use Rattle.rows.proofs.Firsts.{term_within, first_found, second-length, second-within, length-first}
use lib.Seq.{length-take-le}
use mathlib.Core.Path.{sym}
use native.Mathlib.Omega.{arith}
use Rattle.rows.proofs.first.first_of.Goals as goal

pub offset_bounds-words-right : goal.offset_bounds-words-right
offset_bounds-words-right c =
    let k = term_within c.args.arities.now c.args.words.now c.end_of_term-right.ensures in
    omega (arith, c.requires)

pub slice_bounds-other-count : goal.slice_bounds-other-count
slice_bounds-other-count c =
    let k = term_within c.args.arities.now c.args.words.now c.end_of_term-right.ensures in
    omega (arith, c.requires)

pub slice_bounds-other-start : goal.slice_bounds-other-start
slice_bounds-other-start c =
    let k = term_within c.args.arities.now c.args.words.now c.end_of_term-right.ensures in
    omega (arith, c.requires)

pub slice_bounds-step_for-end : goal.slice_bounds-step_for-end
slice_bounds-step_for-end c =
    let k = term_within c.args.arities.now c.args.words.now c.end_of_term-right.ensures in
    sym (length-take-le _ _ k)

pub slice_bounds-step_for-end-2 : goal.slice_bounds-step_for-end-2
slice_bounds-step_for-end-2 c = sym (second-length _ _ c.end_of_term-right.ensures c.end_of_term-n.ensures)

pub step_for-step-requires : goal.step_for-step-requires
step_for-step-requires c =
    let k = term_within c.args.arities.now c.args.words.now c.end_of_term-right.ensures in
    let w = second-within _ _ c.end_of_term-right.ensures c.end_of_term-n.ensures in (
      rw (length-first _ k) (omega (arith, c.requires)),
      rw (second-length _ _ c.end_of_term-right.ensures c.end_of_term-n.ensures) (omega (arith, c.requires)),
    )

pub overflow_add-end : goal.overflow_add-end
overflow_add-end c =
    let w = second-within _ _ c.end_of_term-right.ensures c.end_of_term-n.ensures in
    omega (arith, c.requires)

pub returns : goal.returns
returns c = first_found _ _ c.end_of_term-right.ensures c.end_of_term-n.ensures c.step_for-step.ensures
