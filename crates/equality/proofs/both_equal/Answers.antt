use mathlib.Core.Path.{◌∙◌, sym}
use native.Mathlib.Omega.{arith}
use lib.Seq.{length-take-le}
use Rattle.equality.proofs.CheckedTerms.{two_short, two_equations, two_told}
use Rattle.equality.proofs.both_equal.Goals as goal

pub slice_bounds-labels-end : goal.slice_bounds-labels-end
slice_bounds-labels-end c = omega (arith, two_short _ _ c.requires)

pub slice_bounds-all_hold-end : goal.slice_bounds-all_hold-end
slice_bounds-all_hold-end c = let b = c.blank-labels.ensures in sym (length-take-le _ _ (omega (arith, two_short _ _ c.requires)))

pub all_hold-requires : goal.all_hold-requires
all_hold-requires c =
    let b = c.blank-labels.ensures in two_equations _ _ c.requires (length-take-le _ _ (omega (arith, two_short _ _ c.requires)))

pub returns : goal.returns
returns c = c.all_hold.ensures ∙ two_told _ _ c.requires
