-- Where more terms are due than words are left, the counter of terms no longer matters: the check tells the first word that cannot stand, or the end
-- of the words.
use Rattle.std.specs.Prelude.{ℕ, zero, suc, ◌+◌, ◌<◌, ◌≡◌, refl, List, [], ◌∷◌, length, Err, Ok}
use Rattle.std.proofs.Common.{arith, ne_eqb}
use Rattle.terms.specs.Bounds.{Bounds}
use Rattle.checks.specs.Check.{checked, follow, after, refused, Checked, Follow}
use Rattle.terms.specs.declared.refusal.Cause.TheVariants.{WordsStop}

unfoldable pub stopped : Bounds → List ℕ → ℕ → List ℕ → (place : ℕ) → Checked
stopped b arities n [] place = refused WordsStop place
stopped b arities n (w ∷ ws) place = after (follow b arities n w) place (λ m. stopped b arities n ws (place + 1))

same_after : (f : Follow) (place : ℕ) (g h : ℕ → Checked) → ((m : ℕ) → g m ≡ h m) → after f place g ≡ after f place h
unfolding after
same_after (Ok m) place g h e = e m
same_after (Err cause) place g h e = refl

pub short : (b : Bounds) (arities : List ℕ) (n : ℕ) (ws : List ℕ) (place answers bindings terms : ℕ) → length ws < terms
    → checked b arities n ws place answers bindings terms ≡ stopped b arities n ws place
unfolding checked stopped
short b arities n [] place a k t h = rw (ne_eqb (a + k + t) 0 (λ e. omega arith))
short b arities n (w ∷ ws) place a k zero h = absurd (omega arith)
short b arities n (w ∷ ws) place a k (suc t) h =
    same_after (follow b arities n w) place _ _ (λ m. short b arities n ws (place + 1) a k (t + m) (omega arith))
