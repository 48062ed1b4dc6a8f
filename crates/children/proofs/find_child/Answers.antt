-- `children::find_child`: the laws of `Choosing`.
use mathlib.Core.Path.{sym, ◌∙◌}
use native.Mathlib.Omega.{arith}
use Rattle.plain_steps.specs.Plain.{split_step, plain_step}
use Rattle.children.proofs.Choosing.{nothing_pending, last_within, lent_small, rest-asked, splitting, single}
use Rattle.pick_loop.proofs.ToldBefore.{looks_kept, looks_opened}
use Rattle.children.proofs.find_child.Goals as goal

pub join_pile-next-requires : goal.join_pile-next-requires
join_pile-next-requires c =
    let P = c.requires in
    (P.0, nothing_pending P.1 c.read_header-header.ensures c.if-header-eq0.true)

pub returns-then-header-eq0 : goal.returns-then-header-eq0
returns-then-header-eq0 c =
    let read_header_told = c.read_header-header.ensures in
    λ st R. looks_kept (c.join_pile-next.ensures st (nothing_pending R read_header_told c.if-header-eq0.true))

pub overflow_add-last : goal.overflow_add-last
overflow_add-last c =
    let R = c.requires.1 in
    omega (arith, last_within R c.read_header-header.ensures, R.scratch_rows, R.small)

pub slice_bounds-first_of-end : goal.slice_bounds-first_of-end
slice_bounds-first_of-end c =
    let R = c.requires.1 in
    omega (arith, last_within R c.read_header-header.ensures, R.scratch_rows, R.small)

pub first_of-first-requires : goal.first_of-first-requires
first_of-first-requires c = lent_small c.requires.1 c.read_header-header.ensures

pub rest_of-rest-requires : goal.rest_of-rest-requires
rest_of-rest-requires c =
    let read_header_told = c.read_header-header.ensures in
    rest-asked c.requires.1 read_header_told c.if-header-eq0.false c.first_of-first.ensures

pub pick-next-requires : goal.pick-next-requires
pick-next-requires c =
    let read_header_told = c.read_header-header.ensures in
    let if1 = c.if-header-eq0.false in
    let first_of_told = c.first_of-first.ensures in
    record { state = _; first = _; others = _; here = splitting c.requires.1 read_header_told if1 first_of_told c.rest_of-rest.ensures (split_step _ (sym c.way_of.ensures ∙ c.in-Split.is)) }

pub step_on-next-requires : goal.step_on-next-requires
step_on-next-requires c =
    let read_header_told = c.read_header-header.ensures in
    let if1 = c.if-header-eq0.false in
    let first_of_told = c.first_of-first.ensures in
    record { state = _; equation = _; others = _; here = single c.requires.1 read_header_told if1 first_of_told c.rest_of-rest.ensures (plain_step _ (sym c.way_of.ensures ∙ c.in-Plain.is)) }

pub returns-in-Split : goal.returns-in-Split
returns-in-Split c =
    let read_header_told = c.read_header-header.ensures in
    let if1 = c.if-header-eq0.false in
    let first_of_told = c.first_of-first.ensures in
    let rest_of_told = c.rest_of-rest.ensures in
    let way_of_told = c.way_of.ensures in
    λ st R. looks_opened (c.pick-next.ensures st _ _ (splitting R read_header_told if1 first_of_told rest_of_told (split_step _ (sym way_of_told ∙ c.in-Split.is))))

pub returns-in-Plain : goal.returns-in-Plain
returns-in-Plain c =
    let read_header_told = c.read_header-header.ensures in
    let if1 = c.if-header-eq0.false in
    let first_of_told = c.first_of-first.ensures in
    let rest_of_told = c.rest_of-rest.ensures in
    let way_of_told = c.way_of.ensures in
    λ st R. looks_kept (c.step_on-next.ensures st _ _ (single R read_header_told if1 first_of_told rest_of_told (plain_step _ (sym way_of_told ∙ c.in-Plain.is))))
