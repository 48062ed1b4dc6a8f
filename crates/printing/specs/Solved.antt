-- What the program `solve` prints, by what it reads. SPECIFICATION 10.1: it reads a question and runs it with steps 100,000, depth 96, size 256 and 4,096
-- answer words; it prints the list's text, and on refusal `refused=` and `place=` only.
use Rattle.std.specs.Prelude.{ℕ, ◌+◌, ◌*◌, ◌≤◌, ◌≡◌, List, [], ◌∷◌, ◌++◌, length, drop, Err, Ok, Result}
use Rattle.std.proofs.Common.{arith, length-append}
use Rattle.room.specs.Layout.{HEADER, SPARE_ROWS}
use Rattle.terms.specs.Answers.{listed}
use Rattle.terms.specs.Bounds.{edition_one, FUNCTORS, SYMBOLS}
use Rattle.terms.specs.Listing.{answers_of}
use Rattle.terms.specs.Refusal.{number}
use Rattle.terms.specs.declared.refusal.Refusal.{Refusal}
use Rattle.search.specs.Ends.{end_number, end_of}
use Rattle.text.specs.ListSizes.{LIST_WORDS, LIST_BYTES}
use Rattle.text.specs.Text.{decimal, line}
use Rattle.numerals.specs.TextReading.{Reading}
use Rattle.numerals.specs.TextReading as reading
use Rattle.question_reader.specs.Questions.{Asked}
use Rattle.reader.specs.LentBuffers.{question_into}
use Rattle.writer.specs.Written.{list_written, text_of_list}
use Rattle.results.specs.Loans.{ending}
use Rattle.results.specs.declared.ran.Ending.{Ending}
use Rattle.results.specs.Result.{Told, refuses, gives, told}

-- ---- what the program lends

abbrev pub STEPS : ℕ
STEPS = 100000

abbrev pub DEPTH : ℕ
DEPTH = 96

abbrev pub SIZE : ℕ
SIZE = 256

-- the answers' words
abbrev pub ANSWERS : ℕ
ANSWERS = LIST_WORDS

-- the room's words
abbrev pub ROOM : ℕ
ROOM = (DEPTH + SPARE_ROWS) * (SIZE + HEADER)

-- the bytes of the output
abbrev pub OUTPUT : ℕ
OUTPUT = LIST_BYTES

-- ---- what is found

-- a list's text, or a refusal
pub data Found : Type 0 where
  lists : (text : List ℕ) → Found
  refused : Refusal → Found

-- ---- a question is read, run, and its list written

-- the writer takes the list, or refuses it
unfoldable pub of_written : Result ℕ Refusal → (text : List ℕ) → Found
of_written (Ok n) text = lists text
of_written (Err r) text = refused r

-- the list of a run that ended so, in the bytes of the output
unfoldable pub of_list : (arities : List ℕ) → Ending → (words : List ℕ) → Found
of_list arities e words =
    of_written (list_written edition_one arities (end_number e.end) e.counts.visited e.counts.answers words OUTPUT)
    (text_of_list (end_of (end_number e.end)) e.counts.visited (answers_of edition_one arities e.counts.answers words))

unfoldable pub of_run : (arities : List ℕ) → Told → Found
of_run arities (refuses r) = refused r
of_run arities (gives o) = of_list arities (ending o) (listed o.answers)

-- a question in words, run with what the program lends
unfoldable pub of_words : (unknowns : ℕ) (arities : List ℕ) (equations : ℕ) (words : List ℕ) → Found
of_words unknowns arities equations words = of_run arities (told unknowns arities equations words STEPS DEPTH SIZE ANSWERS ROOM)

unfoldable pub of_reading : Reading Asked → Found
of_reading (reading.refused r) = refused r
of_reading (reading.read p q) = of_words q.head.unknowns q.head.arities q.head.equations q.words

unfoldable pub found : List ℕ → Found
found text = of_reading (question_into edition_one FUNCTORS SYMBOLS text)

-- ---- what is printed

-- refused=
abbrev pub refused_key : List ℕ
refused_key = 114 ∷ 101 ∷ 102 ∷ 117 ∷ 115 ∷ 101 ∷ 100 ∷ 61 ∷ []

-- place=
abbrev pub place_key : List ℕ
place_key = 112 ∷ 108 ∷ 97 ∷ 99 ∷ 101 ∷ 61 ∷ []

unfoldable pub printed : Found → List ℕ
printed (lists text) = text
printed (refused r) = line refused_key (decimal (number r.cause)) ++ line place_key (decimal r.place)

unfoldable pub solved : List ℕ → List ℕ
solved text = printed (found text)

-- these bytes from the output's start, every later byte as it was, and their count
pub record Prints (bytes : List ℕ) (count : ℕ) (output output_after : List ℕ) : Type 0 where
  pub counts : count ≡ length bytes
  pub begins : output_after ≡ bytes ++ drop (length bytes) output

-- so many may be taken of it
pub prints_within : {bytes output output_after : List ℕ} {count : ℕ} → Prints bytes count output output_after → count ≤ length output_after
prints_within {bytes} {output} p = rw (p.counts, p.begins) (omega (arith, length-append bytes (drop (length bytes) output)))
