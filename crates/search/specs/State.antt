-- A state of the search, a node of its tree, and a state's size: SPECIFICATION 5.1. A state holds pending equations in order, a pile of postponed
-- equations, and bindings in the order made.
use Rattle.std.specs.Prelude.{ℕ, ◌+◌, suc, List, [], ◌∷◌, ◌++◌}
use Rattle.terms.specs.Term.{Term, size}
use Rattle.terms.specs.Formed.{Equation, Question}
use Rattle.terms.specs.Answers.{Binding}

-- an entry of the pile: the postponed equation of an unknown, by its number, and a term
pub record Entry : Type 0 where
  pub name : ℕ
  pub term : Term

pub record State : Type 0 where
  pub pending : List Equation
  pub pile : List Entry
  pub bindings : List Binding
  -- the number of the next new unknown
  pub next : ℕ

-- a dead end, or a state
pub data Node : Type 0 where
  dead : Node
  live : State → Node

-- ---- how states are made; nothing else names all of a state's parts

-- the state that the search of a question starts from
abbrev pub start : Question → State
start q = record { pending = q.equations; pile = []; bindings = []; next = q.unknowns }

-- the state with these equations pending, this pile and this next unknown; its bindings stay
abbrev pub remade : List Equation → List Entry → ℕ → State → State
remade es ns next s = record { pending = es; pile = ns; bindings = s.bindings; next = next }

-- the state with X = t after its bindings
abbrev pub noted : ℕ → Term → State → State
noted x t s = record { pending = s.pending; pile = s.pile; bindings = s.bindings ++ (record { name = x; value = t } ∷ []); next = s.next }

-- the state with these equations pending
unfoldable pub pend : List Equation → State → State
pend es s = remade es s.pile s.next s

-- the state with X = t at the end of the pile
unfoldable pub piled : ℕ → Term → State → State
piled x t s = remade s.pending (s.pile ++ (record { name = x; term = t } ∷ [])) s.next s

-- the state with one unknown more in use
unfoldable pub renewed : State → State
renewed s = remade s.pending s.pile (suc s.next) s

-- ---- the number of symbols on both sides, the unknown of an entry or a binding counted as one
unfoldable pub size_equations : List Equation → ℕ
size_equations [] = 0
size_equations (e ∷ es) = size e.left + size e.right + size_equations es

unfoldable pub size_entries : List Entry → ℕ
size_entries [] = 0
size_entries (n ∷ ns) = suc (size n.term) + size_entries ns

unfoldable pub size_bindings : List Binding → ℕ
size_bindings [] = 0
size_bindings (n ∷ ns) = suc (size n.value) + size_bindings ns

unfoldable pub state_size : State → ℕ
state_size s = size_equations s.pending + size_entries s.pile + size_bindings s.bindings
