-- The slices of words, arities and starts as the code has them, in one struct: what they hold.
use Rattle.term_places.specs.Places as places
use Rattle.term_places.specs.declared.places.Held.{Held}

abbrev pub of : Held → places.Held
of h = places.held h.arities.now h.words.now h.starts.now
