use Rattle.binding.proofs.Finishing.{others-parts, pile_next, pile_finished, pile_full}
use Rattle.binding.proofs.bind.finish_pile.Goals as goal

pub replace_others-requires : goal.replace_others-requires
replace_others-requires c = others-parts c.requires

pub finish_bindings-requires : goal.finish_bindings-requires
finish_bindings-requires c =
    pile_next c.args.arities.now c.requires c.in_ok-k.ensures

pub returns : goal.returns
returns c =
    pile_finished c.args.arities.now c.requires c.in_ok-k.ensures c.finish_bindings.ensures

pub returns-in_err-k : goal.returns-in_err-k
returns-in_err-k c =
    rw c.from_residual.ensures (pile_full c.args.arities.now c.requires c.in_err-k.ensures)
