use Rattle.plain_steps.proofs.Pairing.{entry_copy, postpone_long, postpone_parts, laid_out}
use Rattle.plain_steps.proofs.Pairing.{entry_copy, postpone_parts, laid_out}
use Rattle.rows.specs.Finished.{finished_length}
use mathlib.Core.Path.{◌∙◌}
use Rattle.plain_steps.proofs.first_equation.postpone.Goals as goal

pub copy-requires : goal.copy-requires
copy-requires c = entry_copy c.requires

pub keep-requires : goal.keep-requires
keep-requires c = postpone_parts c.requires c.copy.ensures

pub shape_of-room : goal.shape_of-room
shape_of-room c =
    let copy_told = c.copy.ensures in
    finished_length c.keep.ensures ∙ postpone_long c.requires copy_told

pub returns : goal.returns
returns c =
    let copy_told = c.copy.ensures in
    rw (laid_out c.requires copy_told) at c.keep.ensures
