-- Laws of decimal numbers: a digit more, and the digits that are left.
use Prim.Native.Nat.{ℕ, suc, ◌+◌, ◌≤◌, ◌<◌}
use native.Mathlib.Numerals.{add-one}
use native.Mathlib.Omega.{arith}
use mathlib.Core.Path.{◌≡◌, refl, sym, ap, ◌∙◌}
use mathlib.Core.List.{List, [], ◌∷◌}
use lib.ListN.{length, get_or, drop, drop_of_length-le}
use lib.Seq.{drop-cons}
use Rattle.std.specs.Prelude.{Option, Some, None}
use Rattle.case_fields.specs.DecimalField.{more, longer, with_digits, number_of}

pub with_malformed : (bs : List ℕ) → with_digits None bs ≡ None
unfolding with_digits longer
with_malformed [] = refl
with_malformed (b ∷ bs) = with_malformed bs

pub number-some : (l : List ℕ) → 0 < length l → with_digits (Some 0) l ≡ number_of l
unfolding number_of
number-some [] h = absurd (omega arith)
number-some (b ∷ bs) h = refl

pub number_none : (l : List ℕ) → length l ≡ 0 → number_of l ≡ None
unfolding number_of
number_none [] h = refl
number_none (b ∷ bs) h = absurd (omega arith)

pub digit-next : (l : List ℕ) (value i : ℕ) (r n : Option ℕ) → i < length l → r ≡ more value (get_or l i 0) → r ≡ n → with_digits (Some value) (drop i l) ≡ with_digits n (drop (i + 1) l)
unfolding with_digits longer
digit-next l value i r n h e g = rw (drop-cons l i 0 h, add-one i) (ap (λ (m : Option ℕ). with_digits m (drop (suc i) l)) (sym e ∙ g))

pub digit_none : (l : List ℕ) (value i : ℕ) (r : Option ℕ) → i < length l → r ≡ more value (get_or l i 0) → r ≡ None → with_digits (Some value) (drop i l) ≡ None
digit_none l value i r h e g = digit-next l value i r None h e g ∙ with_malformed (drop (i + 1) l)

pub digits-end : (l : List ℕ) (value i : ℕ) → length l ≤ i → with_digits (Some value) (drop i l) ≡ Some value
unfolding with_digits
digits-end l value i h = rw (drop_of_length-le l h)
