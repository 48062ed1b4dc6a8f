use mathlib.Core.Path.{refl}
use Rattle.holding.proofs.Holds.{none_settled, relabelled-equations}
use Rattle.holding.proofs.hold.all_hold.Goals as goal

pub each_holds-requires : goal.each_holds-requires
each_holds-requires c =
    let e = c.requires in let k = c.number.auto.labels in record { equations = relabelled-equations e k; all_settled = none_settled e c.number.ensures k refl }
