-- `noted_sides::shown::shown_sides`: each number is the word that is read.
use Rattle.noted_sides.specs.NotedSides.{sides_in}
use Rattle.noted_sides.proofs.shown.shown_sides.Goals as goal

pub returns : goal.returns
unfolding sides_in
returns c =
    rw (
      c.from-r.ensures,
      c.from-s.ensures,
      c.from-right.ensures,
      c.from-end.ensures,
      c.from-m.ensures,
      c.from-n.ensures,
    )
