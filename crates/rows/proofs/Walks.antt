-- Whether x is one of the words, as the code asks it.
use Prim.Native.Nat.{ℕ}
use mathlib.Core.Path.{◌≡◌, refl}
use mathlib.Core.List.{List, [], ◌∷◌}
use lib.Dec.{eqb}
use Rattle.std.specs.List.{list_any}
use Rattle.terms.specs.Lists.{any}
use Rattle.rows.specs.Terms.HeldWords.{holds}

pub holds_any : (x : ℕ) (ws : List ℕ) → list_any (λ w. eqb w x) ws ≡ holds x ws
unfolding holds any
holds_any x [] = refl
holds_any x (w ∷ ws) = rw (holds_any x ws)
