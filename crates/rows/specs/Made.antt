-- What became of a due node, where not every case can come: as one of all.
use Rattle.std.specs.Prelude.{ℕ, ◌≡◌, Option, Some, None}
use Rattle.std.proofs.Common.{arith}
use Rattle.rows.specs.declared.parts.Made.{Made}
use Rattle.rows.specs.declared.parts.Made.TheVariants as made
use Rattle.rows.specs.declared.parts.Reached.{Reached}
use Rattle.rows.specs.declared.parts.Reached.TheVariants as reached

unfoldable pub of_reached : Reached → Made
of_reached reached.Names = made.Names
of_reached reached.Large = made.Large
of_reached reached.Live = made.Live

-- a node whose size alone tells: Some is written, None is larger than lent
abbrev pub of_sized : Option (Unit {0}) → Made
of_sized None = made.Large
of_sized (Some tt) = made.Live

-- no dead end
pub reached_alive : (a : Reached) → of_reached a ≡ made.Dead → ⊥
unfolding of_reached
reached_alive reached.Names e = let z : ◌≡◌ {A = ℕ} 0 1 = cc in omega arith
reached_alive reached.Large e = let z : ◌≡◌ {A = ℕ} 0 1 = cc in omega arith
reached_alive reached.Live e = let z : ◌≡◌ {A = ℕ} 0 1 = cc in omega arith
