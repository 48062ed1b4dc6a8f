-- Why a dead end loses nothing: no values make an unknown equal to a term that has it inside a member or an argument, at any depth, nor two
-- sides equal of which one is a functor term, one the empty set, one a set that has a member.
use Rattle.std.specs.Prelude.{ℕ, ◌≡◌, true, false}
use Rattle.std.proofs.Common.{sym}
use Rattle.std.proofs.lemmas.Bool.{false≢true}
use Rattle.terms.specs.Lists.{Any, here, there, or_left, or_right}
use Rattle.terms.specs.Term.{Term, unknown, empty, with, functor, occurs, members, kernel}
use Rattle.terms.specs.Shape.{is_unknown}
use Rattle.laws.specs.Laws.{◌≈◌, ≈sym}
use Rattle.laws.specs.Values.{Values, value}
use Rattle.laws.proofs.Apart.{functor_empty, with_empty, with_functor}
use Rattle.laws.proofs.Rank.{occurs_inside, not_inside_itself}
use Rattle.search.specs.StepView.{Buried, in_member, in_kernel, Clash, empty_functor, functor_empty as clash_functor_empty, empty_set, set_empty, functor_set, set_functor}

inside_member : (x : ℕ) (t : Term) → Any (λ m. occurs x m ≡ true) (members t) → occurs_inside x t ≡ true
unfolding members occurs_inside
inside_member x (unknown _) h = elim h [ ]
inside_member x empty h = elim h [ ]
inside_member x (functor _ _) h = elim h [ ]
inside_member x (with m r) (here h) = or_left (occurs_inside x r) h
inside_member x (with m r) (there h) = or_right (occurs x m) (inside_member x r h)

inside_kernel : (x : ℕ) (t : Term) → is_unknown (kernel t) ≡ false → occurs x (kernel t) ≡ true → occurs_inside x t ≡ true
unfolding kernel is_unknown occurs occurs_inside
inside_kernel x (unknown i) u o = absurd (false≢true (sym u))
inside_kernel x empty u o = o
inside_kernel x (with m r) u o = or_right (occurs x m) (inside_kernel x r u o)
inside_kernel x (functor k ts) u o = o

pub buried_never : (σ : Values) (x : ℕ) (t : Term) → Buried x t → σ x ≈ value σ t → ⊥
buried_never σ x t (in_member a) h = not_inside_itself σ x t (inside_member x t a) h
buried_never σ x t (in_kernel u o) h = not_inside_itself σ x t (inside_kernel x t u o) h

pub clash_never : (σ : Values) {l r : Term} → Clash l r → value σ l ≈ value σ r → ⊥
unfolding value
clash_never σ empty_functor h = functor_empty (≈sym h)
clash_never σ clash_functor_empty h = functor_empty h
clash_never σ empty_set h = with_empty (≈sym h)
clash_never σ set_empty h = with_empty h
clash_never σ functor_set h = with_functor (≈sym h)
clash_never σ set_functor h = with_functor h
