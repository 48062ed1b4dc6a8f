use Rattle.plain_steps.proofs.Pairing.{lent, lent-within, left_copy, right_copy, both_copied}
use native.Mathlib.Omega.{arith}
use Rattle.plain_steps.proofs.first_equation.pair_first.Goals as goal

pub copy-requires : goal.copy-requires
copy-requires c =
    left_copy c.args.arities.now c.requires (lent-within c.args.arities.now c.requires _ _ c.requires.left_within c.end_of_term-e.ensures)

pub overflow_add-to : goal.overflow_add-to
overflow_add-to c =
    let h = (lent-within c.args.arities.now c.requires _ _ c.requires.left_within c.end_of_term-e.ensures) in
    omega (arith, c.requires.to_within)

pub copy-requires-2 : goal.copy-requires-2
copy-requires-2 c =
    let end_of_term_told = c.end_of_term-e.ensures in
    let end_of_term2_told = c.end_of_term-g.ensures in
    right_copy c.args.arities.now c.requires (lent-within c.args.arities.now c.requires _ _ c.requires.left_within end_of_term_told) (lent-within c.args.arities.now c.requires _ _ c.requires.right_within end_of_term2_told) c.copy.ensures

pub returns : goal.returns
returns c =
    let end_of_term_told = c.end_of_term-e.ensures in
    let end_of_term2_told = c.end_of_term-g.ensures in
    let copy_told = c.copy.ensures in
    (lent c.args.arities.now c.requires _ _ end_of_term_told, lent c.args.arities.now c.requires _ _ end_of_term2_told, both_copied c.args.arities.now c.requires (lent-within c.args.arities.now c.requires _ _ c.requires.left_within end_of_term_told) (lent-within c.args.arities.now c.requires _ _ c.requires.right_within end_of_term2_told) copy_told c.copy-2.ensures)
