-- A question's text, word by word: its lines with the walks over its terms.
-- `QuestionWalk` of `writer` proves that over the words of a question this is the text of the question.
use Rattle.std.specs.Prelude.{ℕ, zero, suc, List, [], ◌∷◌, ◌++◌}
use Rattle.terms.specs.Bounds.{Bounds}
use Rattle.text.specs.Keys.{edition_key, unknowns_key, arities_key, equations_key, left_key, right_key}
use Rattle.text.specs.Text.{decimal, numbers, line}
use Rattle.word_writer.specs.WordByWord.{Walk, ended, prepend, then, term_at}

-- a line with the term that begins at a place
unfoldable pub term_line : Bounds → List ℕ → List ℕ → List ℕ → ℕ → Walk
term_line b arities ws key p = prepend key (then (term_at b arities ws p) (λ q. ended q (10 ∷ [])))

-- so many things one after the other, each beginning where the one before ended
unfoldable pub repeat : (ℕ → Walk) → ℕ → ℕ → Walk
repeat thing zero p = ended p []
repeat thing (suc n) p = then (thing p) (repeat thing n)

unfoldable pub equation_at : Bounds → List ℕ → List ℕ → ℕ → Walk
equation_at b arities ws p = then (term_line b arities ws left_key p) (term_line b arities ws right_key)

unfoldable pub header : ℕ → List ℕ → ℕ → List ℕ
header unknowns arities equations =
    line edition_key (decimal 1)
    ++ (line unknowns_key (decimal unknowns)
    ++ (line arities_key (numbers arities)
    ++ line equations_key (decimal equations)))

unfoldable pub question_lines : Bounds → ℕ → List ℕ → ℕ → List ℕ → Walk
question_lines b unknowns arities equations ws = prepend (header unknowns arities equations) (repeat (equation_at b arities ws) equations 0)
