use Rattle.plain_steps.proofs.Pairing.{decompose_parts, arguments-written}
use Rattle.plain_steps.proofs.first_equation.decompose.Goals as goal

pub keep-requires : goal.keep-requires
keep-requires c =
    decompose_parts c.args.arities.now c.args.k c.requires c.pair_all-written.ensures.value c.pair_all-written.ensures.room_after

pub returns : goal.returns
returns c =
    rw (arguments-written c.args.arities.now c.args.k c.requires c.pair_all-written.ensures.value c.pair_all-written.ensures.room_after, c.pair_all-written.ensures.value) at c.keep.ensures
