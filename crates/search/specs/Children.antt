-- The children of a state, in order: one for a step that leaves no choice, one for each choice of picks of a split, and one for a joined pile.
-- SPECIFICATION 5.3 to 5.6.
use Rattle.std.specs.Prelude.{ℕ, Bool, true, false, cond, eqb}
use mathlib.Core.List.{List, [], ◌∷◌, ◌++◌, map, flat_map}
use Rattle.terms.specs.Lists.{product}
use Rattle.terms.specs.Term.{Term, unknown, occurs, subst, members, kernel, over}
use Rattle.terms.specs.Shape.{is_unknown, number, arguments}
use Rattle.terms.specs.Formed.{Equation}
use Rattle.search.specs.declared.steps.Tails.{Tails}
use Rattle.search.specs.declared.steps.Tails.TheVariants.{Neither, Left, Right, Different, Same}
use Rattle.search.specs.declared.steps.Step.{Step}
use Rattle.search.specs.declared.steps.Step.TheVariants.{Drop, Bind, Postpone, Decompose, Split, Dead}
use Rattle.search.specs.State.{State, Node, dead, live, Entry, remade, noted, pend, piled, renewed}
use Rattle.search.specs.Classify.{classify}

-- ---- a binding of x to t: it replaces x in all pending equations

unfoldable pub replace_in : ℕ → Term → Equation → Equation
replace_in x t e = record { left = subst x t e.left; right = subst x t e.right }

-- the pile's entries of x, and the others
unfoldable pub entries : ℕ → List Entry → List Entry
entries x [] = []
entries x (n ∷ ns) = cond (eqb n.name x) (n ∷ entries x ns) (entries x ns)

unfoldable pub others : ℕ → List Entry → List Entry
others x [] = []
others x (n ∷ ns) = cond (eqb n.name x) (others x ns) (n ∷ others x ns)

-- entries of x leave the pile, as t = {..|t}; the others stay, with x replaced
unfoldable pub released : ℕ → Term → Entry → Equation
released x t n = record { left = t; right = subst x t n.term }

unfoldable pub kept : ℕ → Term → Entry → Entry
kept x t n = record { name = n.name; term = subst x t n.term }

-- released entries go to the end of the pending list, in pile order; earlier bindings stay as written
unfoldable pub bound_state : ℕ → Term → State → State
bound_state x t s =
    noted x t
    (remade
    (map (replace_in x t) s.pending ++ map (released x t) (entries x s.pile))
    (map (kept x t) (others x s.pile))
    s.next s)

-- an unknown bound to a term in which it occurs is a dead end
unfoldable pub bound : ℕ → Term → State → Node
bound x t s = cond (occurs x t) dead (live (bound_state x t s))

unfoldable pub then_bound : ℕ → Term → Node → Node
then_bound x t dead = dead
then_bound x t (live s) = bound x t s

-- ---- the picks of {t1..tn|s} = {u1..um|r}

-- a member picks one of the other side's members, which gives an equation, or the other side's tail
pub data Pick : Type 0 where
  meets : Equation → Pick
  joins : Term → Pick

unfoldable pub tail_pick : Bool → Term → List Pick
tail_pick true t = joins t ∷ []
tail_pick false t = []

-- t picks some u, or the tail r if r is an unknown; u picks some t, or the tail s if s is an unknown; the t is on the left
unfoldable pub picks_of_t : Term → List Term → Term → List Pick
picks_of_t r us t = map (λ u. meets (record { left = t; right = u })) us ++ tail_pick (is_unknown r) t

unfoldable pub picks_of_u : Term → List Term → Term → List Pick
picks_of_u s ts u = map (λ t. meets (record { left = t; right = u })) ts ++ tail_pick (is_unknown s) u

unfoldable pub new_equations : List Pick → List Equation
new_equations [] = []
new_equations (meets e ∷ ps) = e ∷ new_equations ps
new_equations (joins t ∷ ps) = new_equations ps

-- T, the t's that picked r, or U, the u's that picked s, in written order, repeats kept
unfoldable pub joining : List Pick → List Term
joining [] = []
joining (meets e ∷ ps) = joining ps
joining (joins t ∷ ps) = t ∷ joining ps

-- X = {ms|X} on the pile, if there is a member
unfoldable pub pile_up : Term → List Term → State → State
pile_up x [] s = s
pile_up x (m ∷ ms) s = piled (number x) (over (m ∷ ms) x) s

-- what becomes of the tails s and r, with T and U; the new equations are pending already
unfoldable pub settle : Tails → Term → Term → List Term → List Term → List Equation → State → Node
settle Neither s r T U es st = live (pend (es ++ (record { left = s; right = r } ∷ st.pending)) st)
settle Left s r T U es st = bound (number s) (over U r) (pend (es ++ st.pending) st)
settle Right s r T U es st = bound (number r) (over T s) (pend (es ++ st.pending) st)
settle Different s r T U es st =
    then_bound (number r) (subst (number s) (over U (unknown st.next)) (over T (unknown st.next)))
    (bound (number s) (over U (unknown st.next)) (renewed (pend (es ++ st.pending) st)))
settle Same s r T U es st = live (pile_up s (T ++ U) (pend (es ++ st.pending) st))

-- t1 slowest, um fastest
unfoldable pub split : Tails → Term → Term → State → List Node
split k t u st =
    flat_map
    (λ ps. map (λ qs. settle k (kernel t) (kernel u) (joining ps) (joining qs) (new_equations ps ++ new_equations qs) st)
    (product (map (picks_of_u (kernel t) (members t)) (members u))))
    (product (map (picks_of_t (kernel u) (members u)) (members t)))

-- ---- one step: the unknown and the term of X = t, where one side is an unknown; the left one where both are

unfoldable pub subject : Term → Term → ℕ
subject t u = cond (is_unknown t) (number t) (number u)

unfoldable pub object : Term → Term → Term
object t u = cond (is_unknown t) u t

unfoldable pub pairwise : List Term → List Term → List Equation
pairwise [] us = []
pairwise (t ∷ ts) [] = []
pairwise (t ∷ ts) (u ∷ us) = record { left = t; right = u } ∷ pairwise ts us

-- the step for t = u, taken from the front of st's pending equations
unfoldable pub take : Step → Term → Term → State → List Node
take Drop t u st = live st ∷ []
take (Bind k) t u st = bound (subject t u) (object t u) st ∷ []
take (Postpone k) t u st = live (piled (subject t u) (object t u) st) ∷ []
take Decompose t u st = live (pend (pairwise (arguments t) (arguments u) ++ st.pending) st) ∷ []
take (Split k) t u st = split k t u st
take Dead t u st = dead ∷ []

-- ---- nothing is pending: the members of all the pile's entries of x, in pile order

unfoldable pub joined : ℕ → List Entry → List Term
joined x ns = flat_map (λ n. members n.term) (entries x ns)

-- what a join of x leaves of a state with these entries
abbrev pub without : ℕ → List Entry → State → State
without x ns st = remade [] (others x ns) st.next st

-- the left unknown X of the first entry is bound to {members|N}, N new; with no pile the state is an answer and has no child
unfoldable pub join : List Entry → State → List Node
join [] st = []
join (n ∷ ns) st =
    bound n.name (over (joined n.name (n ∷ ns)) (unknown st.next))
    (renewed (without n.name (n ∷ ns) st)) ∷ []

unfoldable pub children_by : List Equation → State → List Node
children_by [] st = join st.pile st
children_by (e ∷ es) st = take (classify e.left e.right) e.left e.right (pend es st)

unfoldable pub children : State → List Node
children st = children_by st.pending st
