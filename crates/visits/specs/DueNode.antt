-- What becomes of a node that is due, in numbers and words: how many dead ends may be passed before it, where the search goes on, what is counted and noted.
use Rattle.std.specs.Prelude.{ℕ, ◌+◌, ◌*◌, ◌-◌, ◌≤◌, cond, List, eqb, leb, length, Option, Some, None}
use Rattle.std.proofs.Common.{ControlFlow, Continue, Break}
use Rattle.room.specs.Room.{seg, put}
use Rattle.room.specs.Layout.{stride}
use Rattle.search.specs.declared.ends.End.TheVariants.{Done, Steps, Depth, Names, Size, Space}
use Rattle.search.specs.declared.limits.Limits.{Limits}
use Rattle.search.specs.RunLimits.{most_depth, most_size, most_steps}
use Rattle.rows.specs.declared.parts.Reached.{Reached}
use Rattle.rows.specs.declared.parts.Reached.TheVariants.{Names as ManyNames, Large, Live}
use Rattle.results.specs.declared.ran.Record.{Record}
use Rattle.counters.specs.Counted.{counted}
use Rattle.answer_record.specs.Noting.{answer_in, note_by, held_by, Notable}
use Rattle.results.specs.declared.ran.Ending.{Ending}
use Rattle.visits.specs.declared.node.Place.{Place}
use Rattle.visits.specs.ChildNumber.{number_words}

-- after a turn: the search goes on, or the run has ended
abbrev pub Turn : Type 0
Turn = ControlFlow Ending Place

-- how many dead ends may be passed: none below the lent depth
unfoldable pub most_of : Limits → ℕ → Record → ℕ
most_of limits level r = cond (leb limits.depth level) 0 (limits.steps - r.visited)

unfoldable pub back_to : ℕ → Record → Turn
back_to level r = cond (eqb level 0) (Break (record { end = Done; counts = r })) (Continue (record { level = level - 1; counts = r }))

unfoldable pub due_ending : Limits → Record → Ending
due_ending limits r = cond (leb limits.steps r.visited) (record { end = Steps; counts = r }) (record { end = Depth; counts = r })

unfoldable pub noted_turn : ℕ → Record → Option Record → Turn
noted_turn level r (Some more) = Continue (record { level = level + 1; counts = more })
noted_turn level r None = Break (record { end = Space; counts = r })

abbrev pub child_place : Limits → ℕ → ℕ
child_place limits level = level * stride limits.size + stride limits.size

-- the words of the child's row
abbrev pub child_row : Limits → ℕ → List ℕ → List ℕ
child_row limits level l = seg l (child_place limits level) (stride limits.size)

-- what becomes of a node: the turn, the room with the number of the child after it, and the answer words
unfoldable pub node_turn : Limits → ℕ → List ℕ → (space : ℕ) → Record → Reached → Turn
node_turn limits level l space r ManyNames = Break (record { end = Names; counts = r })
node_turn limits level l space r Large = Break (record { end = Size; counts = r })
node_turn limits level l space r Live = noted_turn level (counted r 1) (note_by (answer_in (child_row limits level l)) space (counted r 1))

unfoldable pub node_room : Limits → ℕ → List ℕ → ℕ → Reached → List ℕ
node_room limits level l number ManyNames = l
node_room limits level l number Large = l
node_room limits level l number Live = put l (level * stride limits.size + 5) (number_words (number + 1))

unfoldable pub node_answers : Limits → ℕ → List ℕ → List ℕ → Record → Reached → List ℕ
node_answers limits level l a r ManyNames = a
node_answers limits level l a r Large = a
node_answers limits level l a r Live = held_by (answer_in (child_row limits level l)) a (counted r 1)

-- where a child is opened
pub record OpenParts (limits : Limits) (level : ℕ) (l a : List ℕ) (r : Record) (number : ℕ) : Type 0 where
  pub level_small : level ≤ most_depth
  pub size_small : limits.size ≤ most_size
  pub visited : r.visited ≤ most_steps
  pub number_small : number ≤ most_steps
  pub within : child_place limits level + stride limits.size ≤ length l
  pub notable : Notable (child_row limits level l) a (counted r 1)
