use mathlib.Core.Path.{◌∙◌}
use Rattle.term_places.specs.Standing.{walked}
use Rattle.term_places.proofs.places.term_end.Goals as goal

pub returns : goal.returns
returns c = let w = c.requires in c.terms_end.ensures ∙ walked w.terms _ w.inside
