-- What a run gives, and what a call of it gives: limits are tested, then the question, then the room; then the run is that of `search`.
use Rattle.std.specs.Prelude.{ℕ, ◌≡◌, cond, List, [], ltb, Option, Some, None, Result, Ok, Err}
use Rattle.room.specs.Room.{put}
use Rattle.terms.specs.Bounds.{edition_one}
use Rattle.terms.specs.Answers.{listed}
use Rattle.checks.specs.Check.{check_question, after_check}
use Rattle.terms.specs.Reading.{question_of}
use Rattle.terms.specs.declared.refusal.Cause.TheVariants.{Limit, Buffer}
use Rattle.terms.specs.declared.refusal.Refusal.{Refusal}
use Rattle.search.specs.declared.limits.Limits.{Limits}
use Rattle.search.specs.RunLimits.{lent}
use Rattle.search.specs.Run.{Outcome, ran}
use Rattle.results.specs.Loans.{loan, needed, ending}
use Rattle.results.specs.declared.ran.Ending.{Ending}

-- what is told: a refusal, or an outcome
pub data Told : Type 0 where
  refuses : Refusal → Told
  gives : Outcome → Told

unfoldable pub told_within : (unknowns : ℕ) (arities : List ℕ) (equations : ℕ) (words : List ℕ) (space room : ℕ) → Option Limits → Told
told_within n arities e ws space room None = refuses (record { cause = Limit; place = 0 })
told_within n arities e ws space room (Some limits) =
    after_check (check_question edition_one n arities e ws) refuses
    (cond (ltb room (needed limits)) (refuses (record { cause = Buffer; place = needed limits })) (gives (ran edition_one (question_of edition_one n arities ws) (loan limits space))))

unfoldable pub told : (unknowns : ℕ) (arities : List ℕ) (equations : ℕ) (words : List ℕ) (steps depth size space room : ℕ) → Told
told n arities e ws steps depth size space room = told_within n arities e ws space room (lent steps depth size)

unfoldable pub result : Told → Result Ending Refusal
result (refuses r) = Err r
result (gives o) = Ok (ending o)

-- the words that the lent answer words then begin with
unfoldable pub words_told : Told → List ℕ
words_told (refuses r) = []
words_told (gives o) = listed o.answers

-- what a call gives back where t is told, and what the answers' buffer and the room hold before and after it. Of the room nothing more is said: its later
-- contents are open (SPECIFICATION 8.6)
pub record RunGives (t : Told) (back : Result Ending Refusal) (answers answers_after room room_after : List ℕ) : Type 0 where
  pub told_back : back ≡ result t
  pub begins : answers_after ≡ put answers 0 (words_told t)
  pub left_alone : (why : Refusal) → t ≡ refuses why → room_after ≡ room
