-- `openings::open_split::pick_on`: the laws of `Continuing`.
use native.Mathlib.Omega.{arith}
use borrow.Author.Tests.{not-false}
use Rattle.openings.proofs.Continuing.{sides-asked, tails-within, members_few, on_parts, on_spent, rest-asked, on_asked, on_told}
use Rattle.openings.proofs.open_split.pick_on.Goals as goal

pub shown_sides-shown-requires : goal.shown_sides-shown-requires
shown_sides-shown-requires c = sides-asked c.requires.here

pub overflow_add-body-2 : goal.overflow_add-body-2
overflow_add-body-2 c =
    let O = c.requires.here in
    let w = tails-within O c.shown_sides-shown.ensures in
    omega (arith, O.ready.row, O.ready.scratch_rows, O.ready.small)

pub offset_bounds-room-body : goal.offset_bounds-room-body
offset_bounds-room-body c =
    let O = c.requires.here in
    let w = tails-within O c.shown_sides-shown.ensures in
    omega (arith, O.ready.row, O.ready.scratch_rows, O.ready.small)

pub bounds-room-body : goal.bounds-room-body
bounds-room-body c =
    let O = c.requires.here in
    let w = tails-within O c.shown_sides-shown.ensures in
    omega (arith, O.ready.row, O.ready.scratch_rows, O.ready.small)

pub overflow_add-body-3 : goal.overflow_add-body-3
overflow_add-body-3 c =
    let O = c.requires.here in
    let w = tails-within O c.shown_sides-shown.ensures in
    omega (arith, O.ready.row, O.ready.scratch_rows, O.ready.small)

pub offset_bounds-room-body-2 : goal.offset_bounds-room-body-2
offset_bounds-room-body-2 c =
    let O = c.requires.here in
    let w = tails-within O c.shown_sides-shown.ensures in
    omega (arith, O.ready.row, O.ready.scratch_rows, O.ready.small)

pub bounds-room-body-2 : goal.bounds-room-body-2
bounds-room-body-2 c =
    let O = c.requires.here in
    let w = tails-within O c.shown_sides-shown.ensures in
    omega (arith, O.ready.row, O.ready.scratch_rows, O.ready.small)

pub picks_of_t-first-requires : goal.picks_of_t-first-requires
picks_of_t-first-requires c =
    let shown_sides_told = c.shown_sides-shown.ensures in
    let O = c.requires.here in
    let few = members_few O shown_sides_told in
    omega (arith, O.ready.lent_small)

pub picks_of_u-second-requires : goal.picks_of_u-second-requires
picks_of_u-second-requires c =
    let shown_sides_told = c.shown_sides-shown.ensures in
    let O = c.requires.here in
    let few = members_few O shown_sides_told in
    omega (arith, O.ready.lent_small)

pub advance-requires : goal.advance-requires
advance-requires c =
    let shown_sides_told = c.shown_sides-shown.ensures in
    on_parts c.requires.here shown_sides_told c.tails_by_words-tails.ensures c.picks_of_t-first.ensures c.picks_of_u-second.ensures

pub returns-then-not-advance : goal.returns-then-not-advance
returns-then-not-advance c =
    let shown_sides_told = c.shown_sides-shown.ensures in
    let tails_by_words_told = c.tails_by_words-tails.ensures in
    let picks_of_t_told = c.picks_of_t-first.ensures in
    let picks_of_u_told = c.picks_of_u-second.ensures in
    λ st last O. on_spent O shown_sides_told tails_by_words_told picks_of_t_told picks_of_u_told c.advance.ensures (c.if-not-advance.true)

pub rest_of-rest-requires : goal.rest_of-rest-requires
rest_of-rest-requires c =
    let shown_sides_told = c.shown_sides-shown.ensures in
    let tails_by_words_told = c.tails_by_words-tails.ensures in
    let picks_of_t_told = c.picks_of_t-first.ensures in
    let picks_of_u_told = c.picks_of_u-second.ensures in
    let advance_told = c.advance.ensures in
    rest-asked c.requires.here shown_sides_told tails_by_words_told picks_of_t_told picks_of_u_told advance_told c.read_header-header.ensures

pub pick_from-requires : goal.pick_from-requires
pick_from-requires c =
    let shown_sides_told = c.shown_sides-shown.ensures in
    let tails_by_words_told = c.tails_by_words-tails.ensures in
    let picks_of_t_told = c.picks_of_t-first.ensures in
    let picks_of_u_told = c.picks_of_u-second.ensures in
    let advance_told = c.advance.ensures in
    on_asked c.requires.here shown_sides_told tails_by_words_told picks_of_t_told picks_of_u_told advance_told c.read_header-header.ensures c.rest_of-rest.ensures

pub returns : goal.returns
returns c =
    let shown_sides_told = c.shown_sides-shown.ensures in
    let tails_by_words_told = c.tails_by_words-tails.ensures in
    let picks_of_t_told = c.picks_of_t-first.ensures in
    let picks_of_u_told = c.picks_of_u-second.ensures in
    let advance_told = c.advance.ensures in
    let if1 = c.if-not-advance.false-raw in
    let read_header_told = c.read_header-header.ensures in
    λ st last O. on_told O shown_sides_told tails_by_words_told picks_of_t_told picks_of_u_told advance_told read_header_told c.rest_of-rest.ensures (not-false _ if1) c.pick_from.ensures
