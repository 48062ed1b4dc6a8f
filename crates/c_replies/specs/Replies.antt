-- What a C caller is told: a status, and the later value of each out number. Where a call is granted its numbers are written in the order of the
-- parameters and the place is left alone; a refusal writes the place and leaves the others alone.
use Rattle.std.specs.Prelude.{ℕ, ◌≡◌, List, [], ◌∷◌, Result, Ok, Err, Bool, true, false}
use Rattle.terms.specs.Refusal.{number}
use Rattle.terms.specs.declared.refusal.Refusal.{Refusal}
use Rattle.search.specs.Ends.{end_number}
use Rattle.results.specs.declared.read.Counts.{Counts}
use Rattle.results.specs.declared.ran.Ending.{Ending}

pub data Reply : Type 0 where
  granted : (numbers : List ℕ) → Reply
  refused : Refusal → Reply

-- 0, or the refusal's number
abbrev pub status : Reply → ℕ
status (granted numbers) = 0
status (refused refusal) = number refusal.cause

-- the out numbers, which were these
abbrev pub outs : Reply → List ℕ → List ℕ
outs (granted numbers) before = numbers
outs (refused refusal) before = before

-- the place, which was n
abbrev pub place_out : Reply → (n : ℕ) → ℕ
place_out (granted numbers) n = n
place_out (refused refusal) n = refusal.place

-- what a call gives back where this is replied, and its out numbers and its place before and after it
pub record Replied (reply : Reply) (back : ℕ) (numbers numbers_after : List ℕ) (place place_after : ℕ) : Type 0 where
  pub told_back : back ≡ status reply
  pub numbers_told : numbers_after ≡ outs reply numbers
  pub place_told : place_after ≡ place_out reply place

-- ---- the entries' answers

-- unknowns, functors, equations, words
abbrev pub of_question : Result Counts Refusal → Reply
of_question (Ok c) = granted (c.unknowns ∷ c.functors ∷ c.equations ∷ c.words ∷ [])
of_question (Err refusal) = refused refusal

-- the text's length
abbrev pub of_written : Result ℕ Refusal → Reply
of_written (Ok length) = granted (length ∷ [])
of_written (Err refusal) = refused refusal

-- 1 where two terms are equal, or values solve a question, and 0 where they differ or don't
abbrev pub of_verdict : Result Bool Refusal → Reply
of_verdict (Ok true) = granted (1 ∷ [])
of_verdict (Ok false) = granted (0 ∷ [])
of_verdict (Err refusal) = refused refusal

-- the end's number, nodes visited, answers, words
abbrev pub of_ran : Result Ending Refusal → Reply
of_ran (Ok ending) = granted (end_number ending.end ∷ ending.counts.visited ∷ ending.counts.answers ∷ ending.counts.words ∷ [])
of_ran (Err refusal) = refused refusal
