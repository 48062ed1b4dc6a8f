-- What is lent to a call, and what the contracts in crates/mensorique/src/lib.rt say of it, in their very terms: `told`, `words_told`, `question_written`,
-- `held` and so on, for each entry what it gives back and what its buffers hold afterwards. `equal` needs no name: its contract is `equal_answer` alone.
use Rattle.std.specs.Prelude.{ℕ, List, Bool, Result, length}
use Rattle.terms.specs.declared.refusal.Refusal.{Refusal}
use Rattle.room.specs.Room.{put}
use Rattle.terms.specs.Bounds.{edition_one}
use Rattle.terms.specs.Formed.{Question, sides, row}
use Rattle.terms.specs.declared.refusal.Refusal.{Refusal}
use Rattle.terms.specs.Answers.{listed}
use Rattle.terms.specs.Listing.{answers_of}
use Rattle.terms.specs.Reading.{question_of}
use Rattle.search.specs.Ends.{end_of}
use Rattle.search.specs.Run.{Loan, Outcome}
use Rattle.text.specs.Text.{question_text}
use Rattle.numerals.specs.TextReading.{Reading}
use Rattle.reader.specs.LentBuffers.{question_into, laid, arities_of, words_of}
use Rattle.question_reader.specs.Questions as reader
use Rattle.writer.specs.Written.{held, question_written, list_written, text_of_list}
use Rattle.equality.specs.Answering.{solves_answer}
use Rattle.results.specs.Result.{Told, told, words_told}

-- ---- what is lent

-- a question in words
pub record Posed : Type 0 where
  pub unknowns : ℕ
  pub arities : List ℕ
  pub equations : ℕ
  pub words : List ℕ

-- the question that the words ask, and the words of a question
abbrev pub asked : Posed → Question
asked q = question_of edition_one q.unknowns q.arities q.words

abbrev pub in_words : Question → Posed
in_words g = record { unknowns = g.unknowns; arities = g.arities; equations = length g.equations; words = row edition_one (sides g.equations) }

-- what a run is lent beside its question: limits, the answers' buffer and the room to work in, with what they hold
pub record Lending : Type 0 where
  pub steps : ℕ
  pub depth : ℕ
  pub size : ℕ
  pub answers : List ℕ
  pub room : List ℕ

abbrev pub loan_of : Lending → Loan
loan_of l = record { steps = l.steps; depth = l.depth; size = l.size; space = length l.answers }

-- the same with another room
abbrev pub in_room : List ℕ → Lending → Lending
in_room room l = record { steps = l.steps; depth = l.depth; size = l.size; answers = l.answers; room = room }

-- ---- what the contracts say, in their terms

-- run: what is told, of which `result` is given back, and the answers' buffer afterwards
abbrev pub run_told : Posed → Lending → Told
run_told q l = told q.unknowns q.arities q.equations q.words l.steps l.depth l.size (length l.answers) (length l.room)

abbrev pub answers_after : Posed → Lending → List ℕ
answers_after q l = put l.answers 0 (words_told (run_told q l))

-- the words that a run's list takes, as it gives them back
abbrev pub used : Outcome → ℕ
used o = length (listed o.answers)

-- write_question, into a buffer: what it gives back, and the buffer afterwards
abbrev pub question_told : Posed → List ℕ → Result ℕ Refusal
question_told q buffer = question_written edition_one q.unknowns q.arities q.equations q.words (length buffer)

abbrev pub question_after : Posed → List ℕ → List ℕ
question_after q buffer = held (question_told q buffer) (question_text (asked q)) buffer

-- write_answers, likewise
abbrev pub list_told : (arities : List ℕ) (end visited answers : ℕ) (words buffer : List ℕ) → Result ℕ Refusal
list_told arities end visited answers words buffer = list_written edition_one arities end visited answers words (length buffer)

abbrev pub list_after : (arities : List ℕ) (end visited answers : ℕ) (words buffer : List ℕ) → List ℕ
list_after arities end visited answers words buffer =
    held (list_told arities end visited answers words buffer) (text_of_list (end_of end) visited (answers_of edition_one arities answers words)) buffer

-- solves, of the values in a row
abbrev pub solves_told : Posed → List ℕ → Result Bool Refusal
solves_told q row = solves_answer edition_one q.unknowns q.arities q.equations q.words row

-- read_question, into two buffers: what is read, of which `answer` is given back, and the buffers afterwards
abbrev pub text_told : (text arities words : List ℕ) → Reading reader.Asked
text_told text arities words = question_into edition_one (length arities) (length words) text

abbrev pub arities_after : (text arities words : List ℕ) → List ℕ
arities_after text arities words = laid arities_of (text_told text arities words) arities

abbrev pub words_after : (text arities words : List ℕ) → List ℕ
words_after text arities words = laid words_of (text_told text arities words) words
