use mathlib.Core.Path.{◌∙◌, ap}
use Rattle.term_places.specs.Places.{resolved, rest_of}
use Rattle.term_places.specs.Opened.{opened, resolvable}
use Rattle.term_places.proofs.places.Held.rest.Goals as goal

pub term_end-requires : goal.term_end-requires
term_end-requires c = let a = c.requires in record { unknowns = _; terms = a.placed.terms; inside = (opened a.placed _ a.inside a.member).next }

pub resolve-requires : goal.resolve-requires
resolve-requires c = let a = c.requires in rw c.term_end.ensures (resolvable a.placed _ (opened a.placed _ a.inside a.member).ends)

pub returns : goal.returns
unfolding rest_of
returns c = c.resolve.ensures ∙ ap (resolved _ _ _) c.term_end.ensures
