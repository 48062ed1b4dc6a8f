-- The keys of the text form, each with its equals sign, as bytes. The code's constants hold the same.
use Rattle.std.specs.Prelude.{ℕ, List, [], ◌∷◌}

-- edition=
abbrev pub edition_key : List ℕ
edition_key = 101 ∷ 100 ∷ 105 ∷ 116 ∷ 105 ∷ 111 ∷ 110 ∷ 61 ∷ []

-- unknowns=
abbrev pub unknowns_key : List ℕ
unknowns_key = 117 ∷ 110 ∷ 107 ∷ 110 ∷ 111 ∷ 119 ∷ 110 ∷ 115 ∷ 61 ∷ []

-- arities=
abbrev pub arities_key : List ℕ
arities_key = 97 ∷ 114 ∷ 105 ∷ 116 ∷ 105 ∷ 101 ∷ 115 ∷ 61 ∷ []

-- equations=
abbrev pub equations_key : List ℕ
equations_key = 101 ∷ 113 ∷ 117 ∷ 97 ∷ 116 ∷ 105 ∷ 111 ∷ 110 ∷ 115 ∷ 61 ∷ []

-- left=
abbrev pub left_key : List ℕ
left_key = 108 ∷ 101 ∷ 102 ∷ 116 ∷ 61 ∷ []

-- right=
abbrev pub right_key : List ℕ
right_key = 114 ∷ 105 ∷ 103 ∷ 104 ∷ 116 ∷ 61 ∷ []

-- end=
abbrev pub end_key : List ℕ
end_key = 101 ∷ 110 ∷ 100 ∷ 61 ∷ []

-- visited=
abbrev pub visited_key : List ℕ
visited_key = 118 ∷ 105 ∷ 115 ∷ 105 ∷ 116 ∷ 101 ∷ 100 ∷ 61 ∷ []

-- answers=
abbrev pub answers_key : List ℕ
answers_key = 97 ∷ 110 ∷ 115 ∷ 119 ∷ 101 ∷ 114 ∷ 115 ∷ 61 ∷ []

-- bindings=
abbrev pub bindings_key : List ℕ
bindings_key = 98 ∷ 105 ∷ 110 ∷ 100 ∷ 105 ∷ 110 ∷ 103 ∷ 115 ∷ 61 ∷ []

-- unknown=
abbrev pub unknown_key : List ℕ
unknown_key = 117 ∷ 110 ∷ 107 ∷ 110 ∷ 111 ∷ 119 ∷ 110 ∷ 61 ∷ []

-- value=
abbrev pub value_key : List ℕ
value_key = 118 ∷ 97 ∷ 108 ∷ 117 ∷ 101 ∷ 61 ∷ []
