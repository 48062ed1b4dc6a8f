-- Where a run starts: what is asked of the question and of what is lent, and what the run gives.
use Rattle.std.specs.Prelude.{ℕ, ◌≤◌, ◌≡◌, List, length}
use Rattle.room.specs.Room.{put}
use Rattle.terms.specs.Bounds.{edition_one}
use Rattle.terms.specs.Formed.{sides, row, Good}
use Rattle.terms.specs.Reading.{question_of}
use Rattle.terms.specs.Answers.{listed}
use Rattle.search.specs.declared.limits.Limits.{Limits}
use Rattle.search.specs.Run.{Outcome, ran}
use Rattle.search.specs.RunLimits.{most_steps, most_depth, most_size}
use Rattle.results.specs.Loans.{loan, ending}
use Rattle.search_turn.specs.Running.{Suits, Given}

pub record Asking (unknowns : ℕ) (arities ws : List ℕ) (limits : Limits) (l : List ℕ) : Type 0 where
  pub suits : Suits arities limits l
  pub good : Good edition_one (question_of edition_one unknowns arities ws)
  pub worded : row edition_one (sides (question_of edition_one unknowns arities ws).equations) ≡ ws

abbrev pub outcome : (unknowns : ℕ) (arities ws : List ℕ) (limits : Limits) (space : ℕ) → Outcome
outcome unknowns arities ws limits space = ran edition_one (question_of edition_one unknowns arities ws) (loan limits space)

-- what the run gives: its end and numbers, and the answer words with the list at their start
unfoldable pub whole_run : (unknowns : ℕ) (arities ws : List ℕ) (limits : Limits) (a : List ℕ) → Given
whole_run unknowns arities ws limits a = record {
  ending = ending (outcome unknowns arities ws limits (length a));
  answers = put a 0 (listed (outcome unknowns arities ws limits (length a)).answers);
}

-- the limits are within their bounds
pub record Bounded (limits : Limits) : Type 0 where
  pub steps : limits.steps ≤ most_steps
  pub depth : limits.depth ≤ most_depth
  pub size : limits.size ≤ most_size
