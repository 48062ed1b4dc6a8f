-- Fields of a line: the bytes before, between and after its TABs.
use Rattle.std.specs.Prelude.{ℕ, zero, suc, cond, List, [], ◌∷◌, eqb, take, drop}
use Rattle.std.specs.List.{position_or_len}

-- how often b occurs
unfoldable pub count : ℕ → List ℕ → ℕ
count b [] = 0
count b (x ∷ xs) = cond (eqb x b) (suc (count b xs)) (count b xs)

-- the place of the first b, counted from 0; the length where there is none
unfoldable pub index_of : ℕ → List ℕ → ℕ
index_of b xs = position_or_len (λ x. eqb x b) xs

-- the bytes before the first TAB
unfoldable pub first_of : List ℕ → List ℕ
first_of line = take (index_of 9 line) line

-- field n, counted from 0
unfoldable pub field_of : ℕ → List ℕ → List ℕ
field_of zero line = first_of line
field_of (suc n) line = field_of n (drop (suc (index_of 9 line)) line)
