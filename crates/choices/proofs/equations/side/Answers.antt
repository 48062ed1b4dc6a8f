use Rattle.choices.proofs.EquationsWritten.{side-parts, side-written}
use Rattle.choices.proofs.equations.side.Goals as goal

pub replace-requires : goal.replace-requires
replace-requires c = side-parts c.requires c.from-p.ensures c.from-q.ensures

pub returns : goal.returns
returns c =
    let wide_told = c.from-p.ensures in
    side-written c.requires wide_told c.from-q.ensures _ c.replace.ensures.value c.replace.ensures.room_after
