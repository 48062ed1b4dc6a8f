-- Which words an answer adds to the lent ones, and what the running record becomes by it.
use Rattle.std.specs.Prelude.{ℕ, ◌+◌, ◌-◌, ◌≤◌, ◌<◌, ◌^◌, ◌≡◌, Bool, cond, List, [], ◌∷◌, eqb, leb, length, get_or, Option, Some, None}
use Rattle.room.specs.Room.{seg, put}
use Rattle.room.specs.Layout.{HEADER}
use Rattle.terms.specs.Answers.{listed}
use Rattle.results.specs.declared.ran.Record.{Record}

-- the answer's words: the number of bindings, from the row's header, and its body of n words
unfoldable pub listed_by : List ℕ → ℕ → List ℕ
listed_by row n = get_or row 3 0 ∷ seg row HEADER n

-- the answer that a row's words are, if they are one: nothing is pending, and there is no pile
unfoldable pub answer_in : List ℕ → List (List ℕ)
answer_in row = cond (eqb (get_or row 0 0) 0) (cond (eqb (get_or row 1 0) 0) (listed_by row (get_or row 2 0) ∷ []) []) []

-- answers more
unfoldable pub with_answers : Record → List (List ℕ) → Record
with_answers r ws = record { visited = r.visited; answers = r.answers + length ws; words = r.words + length (listed ws) }

-- they are held where their words fit what remains of the lent ones
unfoldable pub fits : List (List ℕ) → (space : ℕ) → Record → Bool
fits ws space r = leb (length (listed ws)) (space - r.words)

unfoldable pub note_by : List (List ℕ) → (space : ℕ) → Record → Option Record
note_by ws space r = cond (fits ws space r) (Some (with_answers r ws)) None

unfoldable pub held_by : List (List ℕ) → List ℕ → Record → List ℕ
held_by ws a r = cond (fits ws (length a) r) (put a r.words (listed ws)) a

-- a row's words that may be an answer, and a record that may grow by it
pub record Notable (row a : List ℕ) (r : Record) : Type 0 where
  pub header : HEADER ≤ length row
  pub body : get_or row 0 0 ≡ 0 → get_or row 1 0 ≡ 0 → HEADER + get_or row 2 0 ≤ length row
  pub used : r.words ≤ length a
  pub few : r.answers + 1 < 2 ^ 64
