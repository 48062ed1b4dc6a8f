-- What a writer answers, and what its buffer holds after it. SPECIFICATION 8.2 and 8.3: the writer tests 3, 8, 6, then 7; a refusal leaves the buffer untouched.
use Rattle.search.specs.declared.ends.End.{End}
use Rattle.std.specs.Prelude.{ℕ, cond, List, [], ◌++◌, ltb, length, drop, Err, None, Ok, Option, Result, Some}
use Rattle.search.specs.Ends.{end_of, end_word}
use Rattle.search.specs.RunLimits.{most_steps}
use Rattle.terms.specs.Answers.{Binding}
use Rattle.terms.specs.Bounds.{Bounds}
use Rattle.checks.specs.Check.{refused, above, check_question, check_answers, Checked}
use Rattle.terms.specs.Formed.{Question, sides}
use Rattle.terms.specs.Listing.{answers_of}
use Rattle.terms.specs.Reading.{question_of}
use Rattle.terms.specs.declared.refusal.Cause.TheVariants.{Limit, Nesting, Buffer}
use Rattle.terms.specs.declared.refusal.Refusal.{Refusal}
use Rattle.text.specs.AnswerText.{list_text}
use Rattle.text.specs.Text.{question_text}
use Rattle.word_writer.specs.Depths.{First, all_within, first_at, first_above, row_depths}
use Rattle.lines.specs.ListLines.{list_depths}
use Rattle.word_writer.specs.Pen.{counted}
use Rattle.word_writer.specs.WordByWord.{Walk, ended, too_deep, Passed}
use Rattle.word_writer.specs.declared.put.Passage.{Passage}
use Rattle.word_writer.specs.declared.put.TooDeep.{TooDeep}

-- 7: a buffer that is shorter than the text, with the length needed
unfoldable pub fitted : ℕ → List ℕ → Result ℕ Refusal
fitted room text = cond (ltb room (length text)) (Err (record { cause = Buffer; place = counted (length text) })) (Ok (length text))

-- 6, then 7
unfoldable pub nested : First → ℕ → List ℕ → Result ℕ Refusal
nested (first_at p) room text = Err (record { cause = Nesting; place = p })
nested all_within room text = fitted room text

-- 3 and 8 as the check of the words has them, then the rest
unfoldable pub tested : Checked → First → ℕ → List ℕ → Result ℕ Refusal
tested (Err refusal) deep room text = Err refusal
tested (Ok _) deep room text = nested deep room text

-- the text from the buffer's start, and every later byte as it was
unfoldable pub held : Result ℕ Refusal → List ℕ → List ℕ → List ℕ
held (Ok n) text before = text ++ drop (length text) before
held (Err refusal) text before = before

-- the first word of a question whose bracket stands too deep
unfoldable pub too_deep_in : Bounds → Question → First
too_deep_in b q = first_above b.nesting 0 (row_depths (sides q.equations))

unfoldable pub question_written : Bounds → (unknowns : ℕ) (arities : List ℕ) (equations : ℕ) (words : List ℕ) (room : ℕ) → Result ℕ Refusal
question_written b unknowns arities equations words room =
    tested (check_question b unknowns arities equations words) (too_deep_in b (question_of b unknowns arities words)) room (question_text (question_of b unknowns arities words))

-- ---- an answer list: its end by number and its visited number are tested first

unfoldable pub too_deep_in_list : Bounds → List (List Binding) → First
too_deep_in_list b answers = first_above b.nesting 0 (list_depths answers)

-- an end that the table hasn't, or a visited number above the most steps, is 3 with place 0
unfoldable pub check_list : Bounds → Option End → (visited : ℕ) (arities : List ℕ) (answers : ℕ) (words : List ℕ) → Checked
check_list b None visited arities answers words = refused Limit 0
check_list b (Some end) visited arities answers words = above (ltb most_steps visited) 0 (check_answers b arities answers words)

-- the text, where the table has the end
unfoldable pub text_of_list : Option End → ℕ → List (List Binding) → List ℕ
text_of_list None visited answers = []
text_of_list (Some end) visited answers = list_text (end_word end) visited answers

unfoldable pub list_written : Bounds → (arities : List ℕ) (end visited answers : ℕ) (words : List ℕ) (room : ℕ) → Result ℕ Refusal
list_written b arities end visited answers words room =
    tested (check_list b (end_of end) visited arities answers words) (too_deep_in_list b (answers_of b arities answers words)) room
    (text_of_list (end_of end) visited (answers_of b arities answers words))

-- ---- the code's way to it

unfoldable pub answered : Result Passage TooDeep → ℕ → Result ℕ Refusal
answered (Ok p) room = cond (ltb room p.at) (Err (record { cause = Buffer; place = p.at })) (Ok p.at)
answered (Err d) room = Err (record { cause = Nesting; place = d.word })

-- what is answered for a walk, where so many bytes are lent
unfoldable pub measured : Walk → ℕ → Result ℕ Refusal
measured (ended p bytes) room = answered (Ok (record { word = p; at = counted (length bytes) })) room
measured (too_deep p) room = answered (Err (record { word = p })) room

-- what the buffer holds by the answer: as it was, or written by the walk
pub data Held : Result ℕ Refusal → Walk → List ℕ → List ℕ → Type 0 where
  untouched : {refusal : Refusal} {x : Walk} {before : List ℕ} → Held (Err refusal) x before before
  written : {length : ℕ} {x : Walk} {r : Result Passage TooDeep} {before after : List ℕ} → Passed before 0 x r after → Held (Ok length) x before after
