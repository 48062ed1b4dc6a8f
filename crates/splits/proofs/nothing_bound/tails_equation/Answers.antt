use Rattle.splits.proofs.NothingBound.{tails_full, s-parts, r-parts, tails-written}
use Rattle.splits.proofs.nothing_bound.tails_equation.Goals as goal

pub returns-then-capacity-s : goal.returns-then-capacity-s
returns-then-capacity-s c = tails_full c.requires c.if-capacity-s.true

pub copy-requires : goal.copy-requires
copy-requires c = s-parts c.requires c.if-capacity-s.false

pub copy-requires-2 : goal.copy-requires-2
copy-requires-2 c =
    let if1 = c.if-capacity-s.false in
    r-parts c.requires if1 c.copy.ensures

pub returns : goal.returns
returns c =
    let if1 = c.if-capacity-s.false in
    let copy_told = c.copy.ensures in
    tails-written c.requires if1 copy_told c.copy-2.ensures
