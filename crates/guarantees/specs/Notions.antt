-- The notions that proofs/Promised adds to the terms of the contracts: when a run is granted, what it is to read an answer in one way only, to write and to read a
-- question, to compare ground terms and to try values.
use Rattle.std.specs.Prelude.{ℕ, ◌+◌, ◌*◌, ◌≤◌, max, ◌≡◌, List, [], ◌∷◌, ◌++◌, length, take, drop, Ok}
use Rattle.room.specs.Layout.{HEADER, SPARE_ROWS}
use Rattle.terms.specs.Bounds.{edition_one, NESTING}
use Rattle.terms.specs.Lists.{All, Any}
use Rattle.terms.specs.Term.{Term, nesting}
use Rattle.terms.specs.Formed.{Question, sides}
use Rattle.checks.specs.Lent.{Table, Row, Asked}
use Rattle.laws.specs.Values.{Values, in_order}
use Rattle.search.specs.Run.{Outcome, ran}
use Rattle.search.specs.RunLimits.{most_steps, most_depth, most_size}
use Rattle.answers.specs.Fits.{States}
use Rattle.text.specs.Text.{question_text}
use Rattle.reader.specs.LentBuffers.{answer}
use Rattle.guarantees.specs.Calls.{Posed, asked, Lending, loan_of, question_told, question_after, text_told, arities_after, words_after}

-- ---- of runs

-- limits in range, words that ask a good question, a room that is large enough; and the outcome of the published search
pub record Granted (q : Posed) (l : Lending) (o : Outcome) : Type 0 where
  pub steps : l.steps ≤ most_steps
  pub depth : l.depth ≤ most_depth
  pub size : l.size ≤ most_size
  pub good : Asked edition_one q.equations q.words (asked q)
  pub room : (l.depth + SPARE_ROWS) * (l.size + HEADER) ≤ length l.room
  pub outcome : o ≡ ran edition_one (asked q) (loan_of l)

-- an answer's words state bindings, and no others
pub record ReadOnce (q : Posed) (answer : List ℕ) : Type 0 where
  pub states : States edition_one (asked q) answer
  pub alone : (other : States edition_one (asked q) answer) → other.bindings ≡ states.bindings

-- ---- of texts

-- the deepest of so many terms inside a bracket
unfoldable pub largest : List ℕ → ℕ
largest [] = 0
largest (n ∷ ns) = max n (largest ns)

abbrev pub NestsWithin : ℕ → Question → Type 0
NestsWithin most g = All (λ t. nesting t ≤ most) (sides g.equations)

-- words that ask a good question of nesting at most 200, and a buffer that holds its text of n bytes
pub record Writable (q : Posed) (n : ℕ) (buffer : List ℕ) : Type 0 where
  pub good : Asked edition_one q.equations q.words (asked q)
  pub nests : NestsWithin NESTING (asked q)
  pub long : n ≡ length (question_text (asked q))
  pub fits : n ≤ length buffer

-- write_question writes q as this text, from the buffer's start, and every later byte stays
pub record Writes (q : Posed) (text buffer : List ℕ) : Type 0 where
  pub back : question_told q buffer ≡ Ok (length text)
  pub after : question_after q buffer ≡ text ++ drop (length text) buffer

-- read_question reads q in this text: its counts, and its arities and words from the buffers' starts, and all that comes later stays
pub record Reads (text : List ℕ) (q : Posed) (arities words : List ℕ) : Type 0 where
  pub back : answer (text_told text arities words) ≡ Ok (record { unknowns = q.unknowns; functors = length q.arities; equations = q.equations; words = length q.words })
  pub arities_hold : arities_after text arities words ≡ q.arities ++ drop (length q.arities) arities
  pub words_hold : words_after text arities words ≡ q.words ++ drop (length q.words) words

-- the question in two buffers, by the counts that read_question gives back
abbrev pub question_in : (arities words : List ℕ) (unknowns functors equations count : ℕ) → Posed
question_in arities words unknowns functors equations count = record { unknowns = unknowns; arities = take functors arities; equations = equations; words = take count words }

-- ---- of ground terms

-- a row of two ground terms, left first, that are related by R
pub record Compared (arities ws : List ℕ) (R : Term → Term → Type 0) : Type 0 where
  pub left : Term
  pub right : Term
  pub table : Table edition_one arities
  pub standing : Row edition_one arities 0 2 ws (left ∷ right ∷ [])
  pub related : R left right

-- a good question, and a row of one ground value for each unknown, in order, of which P holds
pub record Tried (q : Posed) (ws : List ℕ) (P : Values → Type 0) : Type 0 where
  pub good : Asked edition_one q.equations q.words (asked q)
  pub values : List Term
  pub standing : Row edition_one q.arities 0 q.unknowns ws values
  pub tried : P (in_order values)

-- ---- of numbers

abbrev pub OneOf : List ℕ → ℕ → Type 0
OneOf ns n = Any (λ m. n ≡ m) ns
