-- The body of a row is its state's words, section by section: the pending equations, the pile, the bindings (`Section`, `in_order` and `section_words` of
-- the search's `StateWords`). What the header counts of each section, where each stands in the rest of a row, and that they fit where their state does.
use Rattle.std.specs.Prelude.{ℕ, ◌+◌, ◌≤◌, List, length}
use Rattle.room.specs.Room.{seg}
use Rattle.search.specs.State.{State, size_equations, size_entries, size_bindings, state_size}
use Rattle.search.specs.StateWords.{Section, Pending, Pile, Bindings}
use Rattle.rows.specs.declared.parts.Rest.{Rest}

-- the words of the pending equations and of the pile; the bindings have what is left of the body, and are counted themselves
abbrev pub section_count : State → Section → ℕ
section_count st Pending = size_equations st.pending
section_count st Pile = size_entries st.pile
section_count st Bindings = length st.bindings

-- the words of a section that stands in the rest of a row
abbrev pub section_in : List ℕ → Rest → Section → List ℕ
section_in l rest Pending = seg l rest.at rest.pending
section_in l rest Pile = seg l (rest.at + rest.pending) rest.pile
section_in l rest Bindings = seg l (rest.at + rest.pending + rest.pile) rest.bound

pub sections_fit : (st : State) {n : ℕ} → state_size st ≤ n → size_equations st.pending + size_entries st.pile + size_bindings st.bindings ≤ n
unfolding state_size
sections_fit st h = h
