-- What the two entries answer: the first fault of what was lent, or the test of the terms that the words hold.
use Rattle.std.specs.Prelude.{ℕ, List, Bool, Result, Ok, Err, drop}
use Rattle.terms.specs.Bounds.{Bounds}
use Rattle.checks.specs.Check.{check_question, check_row, Checked}
use Rattle.terms.specs.Reading.{read, top, question_of}
use Rattle.terms.specs.declared.refusal.Refusal.{Refusal}
use Rattle.laws.specs.Equal.{equal}
use Rattle.laws.specs.Values.{in_order, solves_test}

unfoldable pub equality_after : Checked → Bool → Result Bool Refusal
equality_after (Err refusal) test = Err refusal
equality_after (Ok _) test = Ok test

-- the two ground terms of a row, left first
unfoldable pub equal_answer : Bounds → (arities row : List ℕ) → Result Bool Refusal
equal_answer b arities row = equality_after (check_row b arities 2 row) (equal (top (read b arities row)) (top (drop 1 (read b arities row))))

unfoldable pub solving_after : Checked → Checked → Bool → Result Bool Refusal
solving_after (Err refusal) of_row test = Err refusal
solving_after (Ok _) (Err refusal) test = Err refusal
solving_after (Ok _) (Ok _) test = Ok test

-- a question, which is tested first, and a row of one ground value for each unknown in order
unfoldable pub solves_answer : Bounds → (unknowns : ℕ) (arities : List ℕ) (equations : ℕ) (words row : List ℕ) → Result Bool Refusal
solves_answer b unknowns arities equations words row =
    solving_after (check_question b unknowns arities equations words) (check_row b arities unknowns row)
    (solves_test (in_order (read b arities row)) (question_of b unknowns arities words).equations)
