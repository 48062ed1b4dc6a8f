-- A search that goes on: the rows of the room hold a path, a split of one of them may stand open in scratch, and what the whole run gives is what is
-- counted and listed so far, and the run over the visits still to come. After a turn it goes on, with less before it, or has ended.
use Rattle.std.specs.Prelude.{ℕ, ◌+◌, ◌*◌, ◌≤◌, ◌<◌, ◌^◌, ◌≡◌, List, [], ◌∷◌, length, Option}
use Rattle.std.proofs.Common.{Continue, Break}
use Rattle.room.specs.Room.{put}
use Rattle.room.specs.Layout.{stride}
use Rattle.terms.specs.Bounds.{edition_one}
use Rattle.terms.specs.Answers.{listed}
use Rattle.checks.specs.Lent.{Table}
use Rattle.search.specs.declared.limits.Limits.{Limits}
use Rattle.search.specs.Run.{Visit, Outcome, scan}
use Rattle.search.specs.RunLimits.{most_steps, most_depth, most_size}
use Rattle.search_laws.specs.Going.{Open, resumed, left, to_come}
use Rattle.results.specs.declared.ran.Record.{Record}
use Rattle.results.specs.declared.ran.Ending.{Ending}
use Rattle.visits.specs.declared.node.Place.{Place}
use Rattle.visits.specs.DueNode.{Turn}
use Rattle.search_turn.specs.Desk.{Desk}
use Rattle.search_turn.specs.Path.{Rows}
use Rattle.results.specs.Loans.{loan, needed}

-- what a run gives: its end and numbers, and what the lent answer words hold then
pub record Given : Type 0 where
  pub ending : Ending
  pub answers : List ℕ

-- with so much counted and these answer words, and the rest of the run
unfoldable pub given : Record → List ℕ → Outcome → Given
given r a o = record {
  ending =
      record {
        end = o.end;
        counts = record { visited = o.visited; answers = r.answers + length o.answers; words = r.words + length (listed o.answers) };
      };
  answers = put a r.words (listed o.answers);
}

unfoldable pub remains : Limits → Record → (space : ℕ) → List Visit → Outcome
remains limits r space vs = resumed r.visited [] (scan edition_one (left (loan limits space) r.visited r.words) vs)

-- what is lent: limits within their bounds, a table of arities, and a room that is large enough
pub record Suits (arities : List ℕ) (limits : Limits) (l : List ℕ) : Type 0 where
  pub steps : limits.steps ≤ most_steps
  pub depth : limits.depth ≤ most_depth
  pub size : limits.size ≤ most_size
  pub table : Table edition_one arities
  pub room : needed limits ≤ length l
  pub short : length l < 2 ^ 32

-- where scratch begins, after the rows of the path
abbrev pub scratch_of : Limits → ℕ
scratch_of limits = (limits.depth + 1) * stride limits.size

pub record Running (arities : List ℕ) (limits : Limits) (l a : List ℕ) (level : ℕ) (shown : Option ℕ) (r : Record) (to : Given) : Type 0 where
  pub suits : Suits arities limits l
  -- the deepest open state, and the others
  pub top : Open
  pub above : List Open
  pub rows : Rows arities limits.size r.visited l (top ∷ above)
  pub levels : length above ≡ level
  pub desk : Desk l limits.size (scratch_of limits) (top ∷ above) shown
  pub deep : level ≤ limits.depth
  pub steps : r.visited ≤ limits.steps
  pub answers : r.answers ≤ r.visited
  pub words : r.words ≤ length a
  pub gives : to ≡ given r a (remains limits r (length a) (to_come limits.depth (top ∷ above)))

-- after a turn: the search goes on, with less before it, or the run has ended
pub data Turned (arities : List ℕ) (limits : Limits) (l a : List ℕ) (level : ℕ) (r : Record) (to : Given) : Turn → (shown : Option ℕ) → Type 0 where
  goes : {p : Place} {shown : Option ℕ} → Running arities limits l a p.level shown p.counts to → p.level + (r.visited + r.visited) < level + (p.counts.visited + p.counts.visited)
      → Turned arities limits l a level r to (Continue p) shown
  ends : {e : Ending} {shown : Option ℕ} → to ≡ record { ending = e; answers = a } → Turned arities limits l a level r to (Break e) shown

-- the run has ended so
pub record Ends (to : Given) (e : Ending) (a : List ℕ) : Type 0 where
  pub ending : to.ending ≡ e
  pub answers : to.answers ≡ a
