-- Which step an equation calls for, and the tails of its two sides. SPECIFICATION 5.2.
use Rattle.std.specs.Prelude.{ℕ, Bool, true, false, ◌&&◌, not, cond, eqb}
use Rattle.terms.specs.Lists.{any}
use Rattle.terms.specs.Term.{Term, unknown, empty, with, functor, occurs, members, kernel}
use Rattle.terms.specs.Shape.{is_unknown, number}
use Rattle.search.specs.declared.steps.Tails.{Tails}
use Rattle.search.specs.declared.steps.Tails.TheVariants.{Neither, Left, Right, Different, Same}
use Rattle.search.specs.declared.steps.Step.{Step}
use Rattle.search.specs.declared.steps.Step.TheVariants.{Drop, Bind, Postpone, Decompose, Split, Dead}

-- is the left tail an unknown, is the right one, and are they the same?
unfoldable pub tails_by : Bool → Bool → Bool → Tails
tails_by false false same = Neither
tails_by true false same = Left
tails_by false true same = Right
tails_by true true false = Different
tails_by true true true = Same

-- the tails of the two sides; an unknown is its own tail
unfoldable pub tails : Term → Term → Tails
tails t u = tails_by (is_unknown (kernel t)) (is_unknown (kernel u)) (eqb (number (kernel t)) (number (kernel u)))

-- X is the tail variable of t, and occurs in no member
unfoldable pub only_tail : ℕ → Term → Bool
only_tail x t = is_unknown (kernel t) && eqb (number (kernel t)) x && not (any (occurs x) (members t))

-- X = t, where t is not X: X is absent, only the tail variable, or elsewhere
unfoldable pub meet_by : Bool → Bool → Tails → Step
meet_by false tail k = Bind k
meet_by true true k = Postpone k
meet_by true false k = Dead

unfoldable pub meet : ℕ → Term → Tails → Step
meet x t k = meet_by (occurs x t) (only_tail x t) k

unfoldable pub classify : Term → Term → Step
classify (unknown x) (unknown y) = cond (eqb x y) Drop (meet x (unknown y) Different)
classify (unknown x) empty = meet x empty (tails (unknown x) empty)
classify (unknown x) (with m r) = meet x (with m r) (tails (unknown x) (with m r))
classify (unknown x) (functor k ts) = meet x (functor k ts) (tails (unknown x) (functor k ts))
-- a non-unknown on the left and an unknown on the right: as if turned round
classify empty (unknown y) = meet y empty (tails empty (unknown y))
classify (with m r) (unknown y) = meet y (with m r) (tails (with m r) (unknown y))
classify (functor k ts) (unknown y) = meet y (functor k ts) (tails (functor k ts) (unknown y))
classify empty empty = Drop
classify (functor k ts) (functor j us) = cond (eqb k j) Decompose Dead
classify (with m r) (with n s) = Split (tails (with m r) (with n s))
-- a functor with an empty set, or either with a set that has a member
classify empty (functor j us) = Dead
classify empty (with n s) = Dead
classify (functor k ts) empty = Dead
classify (functor k ts) (with n s) = Dead
classify (with m r) empty = Dead
classify (with m r) (functor j us) = Dead
