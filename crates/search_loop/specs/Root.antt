-- The root's row, and what is asked of it where it is the first node of a run.
use Rattle.std.specs.Prelude.{ℕ, ◌≤◌, ◌<◌, ◌≡◌, List, [], ◌∷◌, length}
use Rattle.room.specs.Room.{put}
use Rattle.room.specs.Layout.{HEADER}
use Rattle.terms.specs.Bounds.{edition_one}
use Rattle.search.specs.declared.limits.Limits.{Limits}
use Rattle.search.specs.State.{State, state_size}
use Rattle.search.specs.Run.{visit}
use Rattle.invariants.proofs.Orderly.{Orderly}
use Rattle.search_laws.specs.Going.{to_come}
use Rattle.rows.specs.Row.{Fresh}
use Rattle.rows.specs.declared.header.Header.{Header}
use Rattle.rows.specs.Header.{header_of}
use Rattle.results.specs.declared.ran.Record.{Record}
use Rattle.search_turn.specs.Running.{Suits, Given, given, remains}

-- the header of the root's row
abbrev pub root_header : List ℕ → ℕ → Header
root_header ws unknowns = record { pending = length ws; pile = 0; body = length ws; bindings = 0; next = unknowns }

-- the room with the root's row: the question's words are pending
unfoldable pub rooted : List ℕ → List ℕ → ℕ → List ℕ
rooted l ws unknowns = put (put l HEADER ws) 0 (header_of (root_header ws unknowns))

-- nothing is counted yet
abbrev pub nothing : Record
nothing = record { visited = 0; answers = 0; words = 0 }

-- the root's row is written, and it is the first node that the run visits
pub record Rooted (arities : List ℕ) (limits : Limits) (l a : List ℕ) (to : Given) : Type 0 where
  pub suits : Suits arities limits l
  pub root : State
  pub fresh : Fresh edition_one l 0 root
  pub small : state_size root ≤ limits.size
  pub few : root.next ≤ edition_one.path_unknowns
  pub orderly : Orderly arities root
  pub some : 0 < limits.steps
  pub gives : to ≡ given nothing a (remains limits nothing (length a) (visit 0 root ∷ to_come limits.depth (record { state = root; child = 0 } ∷ [])))
