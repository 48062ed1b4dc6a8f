use Rattle.binding.proofs.RestCopied.{keep_full, front-parts, entry-parts, back-parts, kept-written}
use Rattle.binding.proofs.keep.keep_rest.Goals as goal

pub returns-then-capacity-n : goal.returns-then-capacity-n
returns-then-capacity-n c = keep_full c.requires c.if-capacity-n.true

pub copy-requires : goal.copy-requires
copy-requires c = front-parts c.requires c.if-capacity-n.false

pub copy-requires-2 : goal.copy-requires-2
copy-requires-2 c =
    entry-parts c.requires c.if-capacity-n.false c.copy.ensures

pub copy-requires-3 : goal.copy-requires-3
copy-requires-3 c =
    let if1 = c.if-capacity-n.false in
    let copy_told = c.copy.ensures in
    back-parts c.requires if1 copy_told c.copy-2.ensures

pub returns : goal.returns
returns c =
    let if1 = c.if-capacity-n.false in
    let copy_told = c.copy.ensures in
    let copy2_told = c.copy-2.ensures in
    kept-written c.requires if1 copy_told copy2_told c.copy-3.ensures
