-- By what a test says: one case for each of its two answers.
use Rattle.std.specs.Prelude.{◌≡◌, refl, Bool, true, false}

pub cases : {P : Type 0} (b : Bool) → (b ≡ true → P) → (b ≡ false → P) → P
cases true f g = f refl
cases false f g = g refl
