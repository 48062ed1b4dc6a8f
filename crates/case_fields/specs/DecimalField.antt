-- Plain decimal numbers of 64 bits, from the left.
use Rattle.std.specs.Prelude.{ℕ, ◌+◌, ◌-◌, ◌*◌, cond, List, [], ◌∷◌, ltb, Option, Some, None}

-- a number with one digit more
unfoldable pub more : ℕ → ℕ → Option ℕ
more value byte =
    cond (ltb byte 48) None
    (cond (ltb 57 byte) None
    (cond (ltb 18446744073709551615 (value * 10 + (byte - 48))) None (Some (value * 10 + (byte - 48)))))

unfoldable pub longer : Option ℕ → ℕ → Option ℕ
longer (Some value) byte = more value byte
longer None byte = None

-- with all these digits more
unfoldable pub with_digits : Option ℕ → List ℕ → Option ℕ
with_digits n [] = n
with_digits n (b ∷ bs) = with_digits (longer n b) bs

-- a field that is one number: digits and nothing else, of which there is one at least
unfoldable pub number_of : List ℕ → Option ℕ
number_of [] = None
number_of (b ∷ bs) = with_digits (Some 0) (b ∷ bs)
