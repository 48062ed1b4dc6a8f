use Rattle.rows.specs.Wrote.{wrote_length}
use Rattle.binding.proofs.BindingPieces.{bindings-parts, value-parts, last_full, last_written}
use Rattle.binding.proofs.bind.bind_last.Goals as goal

pub returns-then-capacity-n : goal.returns-then-capacity-n
returns-then-capacity-n c = last_full c.requires.0 _ c.if-capacity-n.true

pub copy-requires : goal.copy-requires
copy-requires c = bindings-parts c.requires.0 c.if-capacity-n.false

pub copy-requires-2 : goal.copy-requires-2
copy-requires-2 c =
    rw c.unknown_number.ensures (value-parts c.requires.0 c.if-capacity-n.false c.copy.ensures _)

pub shape_of-room : goal.shape_of-room
shape_of-room c =
    wrote_length (last_written c.requires.0 c.if-capacity-n.false c.copy.ensures _ (rw c.unknown_number.ensures at c.copy-2.ensures))

pub returns : goal.returns
returns c =
    last_written c.requires.0 c.if-capacity-n.false c.copy.ensures _ (rw c.unknown_number.ensures at c.copy-2.ensures)
