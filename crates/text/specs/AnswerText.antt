-- The text of an answer list, as bytes: the lines that the program prints. SPECIFICATION 4.3.
use Rattle.std.specs.Prelude.{ℕ, List, [], ◌∷◌, ◌++◌, length}
use Rattle.terms.specs.Answers.{Binding}
use Rattle.text.specs.Keys.{edition_key, end_key, visited_key, answers_key, bindings_key, unknown_key, value_key}
use Rattle.text.specs.Text.{decimal, text, line}

unfoldable pub binding_lines : List Binding → List ℕ
binding_lines [] = []
binding_lines (b ∷ bs) = line unknown_key (decimal b.name) ++ (line value_key (text b.value) ++ binding_lines bs)

unfoldable pub answer_lines : List (List Binding) → List ℕ
answer_lines [] = []
answer_lines (l ∷ ls) = line bindings_key (decimal (length l)) ++ (binding_lines l ++ answer_lines ls)

-- the end's word, the nodes visited, and the answers
unfoldable pub list_text : List ℕ → ℕ → List (List Binding) → List ℕ
list_text end visited answers =
    line edition_key (decimal 1)
    ++ (line end_key end
    ++ (line visited_key (decimal visited)
    ++ (line answers_key (decimal (length answers))
    ++ answer_lines answers)))
