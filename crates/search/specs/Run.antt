-- The visits of a search in their order, and the run over them within what is lent: SPECIFICATION 5.8 and 6.2. Every limit lives in `scan`
-- and nowhere else.
use Rattle.std.specs.Prelude.{ℕ, ◌+◌, ◌-◌, suc, zero, Bool, true, false, eqb, ltb, leb, length}
use mathlib.Core.List.{List, [], ◌∷◌, ◌++◌, flat_map}
use Rattle.terms.specs.Bounds.{Bounds}
use Rattle.terms.specs.Formed.{Equation, Question}
use Rattle.terms.specs.Answers.{Binding, answer_words, listed}
use Rattle.search.specs.declared.ends.End.{End}
use Rattle.search.specs.declared.ends.End.TheVariants.{Done, Steps, Depth, Names, Size, Space}
use Rattle.search.specs.State.{State, Node, dead, live, Entry, start, state_size}
use Rattle.search.specs.Children.{children}

-- ---- the nodes, depth first, children in order

-- the answer that a node is, if it is one
pub data Answer : Type 0 where
  silent : Answer
  states : List Binding → Answer

pub record Visit : Type 0 where
  pub depth : ℕ
  pub size : ℕ
  pub next : ℕ
  pub answer : Answer

-- with nothing pending and no pile, the state is an answer and states its bindings
unfoldable pub answer_by : List Equation → List Entry → List Binding → Answer
answer_by [] [] bs = states bs
answer_by [] (n ∷ ns) bs = silent
answer_by (e ∷ es) ns bs = silent

unfoldable pub visit : ℕ → State → Visit
visit d st = record { depth = d; size = state_size st; next = st.next; answer = answer_by st.pending st.pile st.bindings }

-- a dead end is visited, with size 0 and no new unknown
unfoldable pub dead_visit : ℕ → Visit
dead_visit d = record { depth = d; size = 0; next = 0; answer = silent }

-- the nodes of the first n levels below a node of depth d, and the node itself
unfoldable pub visits : ℕ → ℕ → Node → List Visit
visits zero d node = []
visits (suc n) d dead = dead_visit d ∷ []
visits (suc n) d (live st) = visit d st ∷ flat_map (visits n (suc d)) (children st)

unfoldable pub root : Question → Node
root q = live (start q)

-- ---- the run

pub record Loan : Type 0 where
  pub steps : ℕ
  pub depth : ℕ
  pub size : ℕ
  -- answer words
  pub space : ℕ

pub record Outcome : Type 0 where
  pub end : End
  pub visited : ℕ
  -- each answer's words
  pub answers : List (List ℕ)

-- the words of the answer that a node is, if it is one
unfoldable pub found : Bounds → Answer → List (List ℕ)
found b silent = []
found b (states bs) = answer_words b bs ∷ []

unfoldable pub found_size : Bounds → Visit → ℕ
found_size b v = length (listed (found b v.answer))

-- what the table of ends says of a due node
pub data Verdict : Type 0 where
  -- it is not counted, and the run ends
  stops : End → Verdict
  -- it is counted, its answer doesn't fit, and the run ends
  overflows : Verdict
  goes_on : Verdict

-- the table of ends, in its order: steps are spent, it is too deep, it needs an unknown too many, it is too large, its answer fits
unfoldable pub ends : Bool → Bool → Bool → Bool → Bool → Verdict
ends true deep names large fits = stops Steps
ends false true names large fits = stops Depth
ends false false true large fits = stops Names
ends false false false true fits = stops Size
ends false false false false false = overflows
ends false false false false true = goes_on

unfoldable pub verdict : Bounds → Loan → Visit → Verdict
verdict b l v =
    ends (eqb l.steps 0) (ltb l.depth v.depth) (ltb b.path_unknowns v.next) (ltb l.size v.size)
    (leb (found_size b v) l.space)

-- what is left of the loan after a node
unfoldable pub spend : Bounds → Loan → Visit → Loan
spend b l v = record { steps = l.steps - 1; depth = l.depth; size = l.size; space = l.space - found_size b v }

unfoldable pub after : Verdict → List (List ℕ) → Outcome → Outcome
after (stops e) ws o = record { end = e; visited = 0; answers = [] }
after overflows ws o = record { end = Space; visited = 1; answers = [] }
after goes_on ws o = record { end = o.end; visited = suc o.visited; answers = ws ++ o.answers }

unfoldable pub scan : Bounds → Loan → List Visit → Outcome
scan b l [] = record { end = Done; visited = 0; answers = [] }
scan b l (v ∷ vs) = after (verdict b l v) (found b v.answer) (scan b (spend b l v) vs)

-- a node deeper than lent ends the run before it is opened, so the levels down to one below the lent depth are enough
unfoldable pub ran : Bounds → Question → Loan → Outcome
ran b q l = scan b l (visits (l.depth + 2) 0 (root q))
