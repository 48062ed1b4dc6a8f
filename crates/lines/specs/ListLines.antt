-- An answer list's text, word by word: its lines with the walks over its values.
-- `Listings` proves that over the words of an answer list this is the text of the list.
use Rattle.std.specs.Prelude.{ℕ, ◌+◌, List, [], ◌∷◌, ◌++◌, ltb, length, get_or}
use Rattle.terms.specs.Answers.{Binding}
use Rattle.terms.specs.Bounds.{Bounds}
use Rattle.text.specs.Keys.{edition_key, end_key, visited_key, answers_key, bindings_key, unknown_key, value_key}
use Rattle.text.specs.Text.{choose, decimal, line}
use Rattle.word_writer.specs.Depths.{depths}
use Rattle.lines.specs.Lines.{term_line, repeat}
use Rattle.word_writer.specs.WordByWord.{Walk, ended, prepend}

-- a line with the number that a word is, and what comes after that word; where words stop nothing comes
unfoldable pub number_then : List ℕ → List ℕ → (ℕ → ℕ → Walk) → ℕ → Walk
number_then ws key on p = choose (ltb p (length ws)) (λ _. prepend (line key (decimal (get_or ws p 0))) (on (get_or ws p 0) (p + 1))) (λ _. ended p [])

-- an unknown's number and its value
unfoldable pub binding_at : Bounds → List ℕ → List ℕ → ℕ → Walk
binding_at b arities ws = number_then ws unknown_key (λ _ q. term_line b arities ws value_key q)

-- a number of bindings, and the bindings
unfoldable pub answer_at : Bounds → List ℕ → List ℕ → ℕ → Walk
answer_at b arities ws = number_then ws bindings_key (repeat (binding_at b arities ws))

unfoldable pub list_header : List ℕ → ℕ → ℕ → List ℕ
list_header end visited answers =
    line edition_key (decimal 1)
    ++ (line end_key end
    ++ (line visited_key (decimal visited)
    ++ line answers_key (decimal answers)))

unfoldable pub list_lines : Bounds → List ℕ → List ℕ → ℕ → ℕ → List ℕ → Walk
list_lines b end arities visited answers ws = prepend (list_header end visited answers) (repeat (answer_at b arities ws) answers 0)

-- ---- how deep the words' brackets stand: those of values alone

unfoldable pub binding_depths : List Binding → List ℕ
binding_depths [] = []
binding_depths (x ∷ xs) = 0 ∷ (depths 0 x.value ++ binding_depths xs)

unfoldable pub list_depths : List (List Binding) → List ℕ
list_depths [] = []
list_depths (l ∷ ls) = 0 ∷ (binding_depths l ++ list_depths ls)
