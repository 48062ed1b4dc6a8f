use mathlib.Core.Path.{◌∙◌}
use native.Mathlib.Omega.{arith}
use Rattle.term_places.specs.Relabelled.{each_its_own}
use Rattle.holding.proofs.hold.settled_in.Goals as goal

pub settle-requires : goal.settle-requires
settle-requires c =
    let d = c.clear-2.ensures in
    record {
      ranked = c.rank_all.ensures;
      long = d.long ∙ c.requires.settled_len;
      classes = each_its_own (c.number.auto.labels ∙ c.requires.equations.long) c.number.ensures;
      none = λ q i. d.none q (omega (arith, d.long));
    }
