-- A question's text read into lent buffers: what the entry answers, and what the buffers hold then.
use Rattle.std.specs.Prelude.{ℕ, ◌≡◌, List, ◌++◌, ltb, length, drop, Result, Ok, Err}
use Rattle.terms.specs.Bounds.{Bounds}
use Rattle.terms.specs.declared.refusal.Cause.TheVariants.{Buffer}
use Rattle.terms.specs.declared.refusal.Refusal.{Refusal}
use Rattle.text.specs.Text.{choose}
use Rattle.numerals.specs.TextReading.{Reading, read, refused, fault, and_then}
use Rattle.results.specs.declared.read.Counts.{Counts}
use Rattle.question_reader.specs.Questions.{Asked, question}

-- refusal 7 comes last: the arities' buffer first, then the words'
unfoldable pub fitted : ℕ → ℕ → ℕ → Asked → Reading Asked
fitted m n p q =
    choose (ltb m (length q.head.arities)) (λ _. fault Buffer (length q.head.arities)) (λ _.
    choose (ltb n (length q.words)) (λ _. fault Buffer (length q.words)) (λ _. read p q))

-- the question of a text, into buffers of m arities and n words
unfoldable pub question_into : Bounds → ℕ → ℕ → List ℕ → Reading Asked
question_into b m n s = and_then (question b s) (fitted m n)

-- the entry's answer
unfoldable pub answer : Reading Asked → Result Counts Refusal
answer (read p q) = Ok (record { unknowns = q.head.unknowns; functors = length q.head.arities; equations = q.head.equations; words = length q.words })
answer (refused r) = Err r

-- a buffer that held l: it begins with what was read, and is as it was after that; a refusal leaves it alone
unfoldable pub laid : (Asked → List ℕ) → Reading Asked → List ℕ → List ℕ
laid part (read p q) l = part q ++ drop (length (part q)) l
laid part (refused r) l = l

abbrev pub arities_of : Asked → List ℕ
arities_of q = q.head.arities

abbrev pub words_of : Asked → List ℕ
words_of q = q.words

-- what a call gives back where this is read, and what the two buffers hold before and after it
pub record ReadGives (x : Reading Asked) (back : Result Counts Refusal) (arities arities_after words words_after : List ℕ) : Type 0 where
  pub told_back : back ≡ answer x
  pub arities_laid : arities_after ≡ laid arities_of x arities
  pub words_laid : words_after ≡ laid words_of x words
