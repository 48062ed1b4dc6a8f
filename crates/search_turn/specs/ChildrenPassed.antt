-- Children passed at once: so many dead ends, and what they make of the visits still to come and of the run over them. What the table of ends says of
-- the node after them.
use Prim.Native.Nat.{ℕ, zero, suc, ◌+◌, ◌≤◌, ◌<◌}
use Rattle.std.specs.Prelude.{◌≡◌, refl, length, drop}
use Rattle.std.proofs.Math.Path.{ap}
use Rattle.std.proofs.Common.{◌∙◌}
use mathlib.Core.List.{List, [], ◌∷◌, ◌++◌}
use native.Mathlib.Omega.{arith}
use Rattle.std.proofs.Math.Nat.{add-zero}
use borrow.Author.Tests.{eq-eqb, ne_eqb, lt-ltb, le-ltb, lt-leb}
use Rattle.terms.specs.Bounds.{Bounds}
use Rattle.terms.specs.Answers.{listed}
use Rattle.search.specs.declared.ends.End.TheVariants.{Steps, Depth, Names, Size}
use Rattle.search.specs.State.{State, Node}
use Rattle.search.specs.Children.{children}
use Rattle.search.specs.Run.{Visit, dead_visit, Loan, found, found_size, stops, overflows, ends, verdict, scan}
use Rattle.search.specs.Verdicts.{Allows, allowed}
use Rattle.search_laws.specs.Going.{resumed, left, Open, to_come, to_come_dead, run_goes_on}
use Rattle.search_laws.specs.ChoiceNumbers.{drop-next}
use Rattle.only_child.specs.Next.{dead_ends}

unfoldable pub dead_visits : ℕ → ℕ → List Visit
dead_visits d zero = []
dead_visits d (suc k) = dead_visit d ∷ dead_visits d k

-- ---- the visits still to come

module _ (deepest : ℕ) (st : State) (path : List Open) (h : length path ≤ deepest) where
  pub to_come_deads : (c k : ℕ) {rest : List Node} → drop c (children st) ≡ dead_ends k ++ rest
      → (drop (c + k) (children st) ≡ rest) × (to_come deepest (record { state = st; child = c } ∷ path)
      ≡ dead_visits (suc (length path)) k ++ to_come deepest (record { state = st; child = c + k } ∷ path))
  unfolding dead_ends dead_visits
  to_come_deads c zero e = rw add-zero (e, refl)
  to_come_deads c (suc k) {rest} e =
      let n = drop-next c (children st) _ _ e in
      let s = to_come_deads (suc c) k n in
      let z : suc c + k ≡ c + suc k = omega arith in
      rw (← z) (s.0, to_come_dead deepest st path c (dead_ends k ++ rest) e n h ∙ ap (λ vs. dead_visit (suc (length path)) ∷ vs) s.1)

-- ---- the run over them

module _ (b : Bounds) (l : Loan) (used : ℕ) {d : ℕ} (h : d ≤ l.depth) where
  dead_allowed : (j : ℕ) → j < l.steps → Allows b (left l j used) (dead_visit d)
  unfolding left dead_visit found_size found listed
  dead_allowed j k = record { steps = omega arith; depth = h; names = omega arith; size = omega arith; space = omega arith }

  -- a dead end lists nothing
  nothing-found : (j : ℕ) (vs : List Visit)
      → resumed j ([] ++ found b (dead_visit d).answer) (scan b (left l j (used + found_size b (dead_visit d))) vs) ≡ resumed j [] (scan b (left l j used) vs)
  unfolding dead_visit found found_size listed
  nothing-found j vs = rw add-zero

  pub deads_pass : (j k : ℕ) → j + k ≤ l.steps → (vs : List Visit)
      → resumed j [] (scan b (left l j used) (dead_visits d k ++ vs)) ≡ resumed (j + k) [] (scan b (left l (j + k) used) vs)
  unfolding dead_visits
  deads_pass j zero f vs = rw add-zero
  deads_pass j (suc k) f vs =
      let one = run_goes_on b l j [] used (dead_visit d) (dead_visits d k ++ vs) (allowed b (left l j used) (dead_visit d) (dead_allowed j (omega arith))) in
      let z : j + 1 + k ≡ j + suc k = omega arith in
      one ∙ nothing-found (j + 1) (dead_visits d k ++ vs) ∙ deads_pass (j + 1) k (omega arith) vs ∙ rw z

-- ---- the node after them

module _ (b : Bounds) (l : Loan) (v : Visit) where
  pub spent_stops : l.steps ≡ 0 → verdict b l v ≡ stops Steps
  unfolding verdict ends
  spent_stops e = rw (eq-eqb l.steps 0 e)

  pub deep_stops : 0 < l.steps → l.depth < v.depth → verdict b l v ≡ stops Depth
  unfolding verdict ends
  deep_stops s d = rw (ne_eqb l.steps 0 (λ e. omega arith), lt-ltb l.depth v.depth d)

  module _ (s : 0 < l.steps) (d : v.depth ≤ l.depth) where
    pub names_stop : b.path_unknowns < v.next → verdict b l v ≡ stops Names
    unfolding verdict ends
    names_stop n = rw (ne_eqb l.steps 0 (λ e. omega arith), le-ltb l.depth v.depth d, lt-ltb b.path_unknowns v.next n)

    module _ (n : v.next ≤ b.path_unknowns) where
      pub large_stops : l.size < v.size → verdict b l v ≡ stops Size
      unfolding verdict ends
      large_stops z =
          rw (ne_eqb l.steps 0 (λ e. omega arith), le-ltb l.depth v.depth d, le-ltb b.path_unknowns v.next n, lt-ltb l.size v.size z)

      pub long_overflows : v.size ≤ l.size → l.space < found_size b v → verdict b l v ≡ overflows
      unfolding verdict ends
      long_overflows z f =
          rw (
            ne_eqb l.steps 0 (λ e. omega arith),
            le-ltb l.depth v.depth d,
            le-ltb b.path_unknowns v.next n,
            le-ltb l.size v.size z,
            lt-leb (found_size b v) l.space f,
          )
