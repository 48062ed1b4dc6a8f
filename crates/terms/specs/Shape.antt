-- What a term is at its outside: whether it is an unknown and which, and its arguments.
use Rattle.std.specs.Prelude.{ℕ, ◌≡◌, refl, List, [], Bool, true, false}
use Rattle.terms.specs.Term.{Term, unknown, empty, with, functor, list}

unfoldable pub is_unknown : Term → Bool
is_unknown (unknown i) = true
is_unknown empty = false
is_unknown (with m r) = false
is_unknown (functor k ts) = false

-- an unknown's number; asked of unknowns alone
unfoldable pub number : Term → ℕ
number (unknown i) = i
number empty = 0
number (with m r) = 0
number (functor k ts) = 0

pub unknown_number : (t : Term) → is_unknown t ≡ true → t ≡ unknown (number t)
unfolding is_unknown number
unknown_number (unknown i) e = refl
unknown_number empty e = cc
unknown_number (with m r) e = cc
unknown_number (functor k ts) e = cc

-- the arguments of a functor term
unfoldable pub arguments : Term → List Term
arguments (unknown i) = []
arguments empty = []
arguments (with m r) = []
arguments (functor k ts) = list ts
