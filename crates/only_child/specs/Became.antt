-- What became of a due node says what the node is: it has a name too many, is larger than lent, or is neither.
use Rattle.std.specs.Prelude.{ℕ, ◌≤◌, ◌<◌, ltb, leb}
use Rattle.std.proofs.Math.Path.{◌≡◌}
use Rattle.std.proofs.Common.{arith}
use borrow.Author.Tests.{ltb-true, ltb-false, leb-true, leb-false}
use Rattle.terms.specs.Bounds.{Bounds}
use Rattle.terms.specs.Lists.{cases}
use Rattle.search.specs.State.{State, live, state_size}
use Rattle.rows.specs.declared.parts.Made.{Made}
use Rattle.rows.specs.declared.parts.Made.TheVariants.{Dead, Names, Large, Live}
use Rattle.rows.specs.Finished.{made}
use Rattle.rows.specs.Row.{becomes}

module _ (b : Bounds) (lent : ℕ) (st : State) where
  pub many_names : Names ≡ becomes b lent (live st) → b.path_unknowns < st.next
  unfolding becomes made
  many_names e =
      cases (ltb b.path_unknowns st.next) (λ t. ltb-true _ _ t)
      (λ f. cases (leb (state_size st) lent)
      (λ g. let h : Names ≡ Live = rw (f, g) at e in let z : ◌≡◌ {A = ℕ} 0 1 = cc in absurd (omega arith))
      (λ g. let h : Names ≡ Large = rw (f, g) at e in let z : ◌≡◌ {A = ℕ} 0 1 = cc in absurd (omega arith)))

  pub few_names : {m : Made} → m ≡ becomes b lent (live st) → (m ≡ Names → ⊥) → st.next ≤ b.path_unknowns
  unfolding becomes
  few_names {m} e n = cases (ltb b.path_unknowns st.next) (λ t. absurd (n (rw t at e))) (λ f. ltb-false _ _ f)

  pub too_large : Large ≡ becomes b lent (live st) → lent < state_size st
  unfolding becomes made
  too_large e =
      cases (ltb b.path_unknowns st.next)
      (λ t. let h : Large ≡ Names = rw t at e in let z : ◌≡◌ {A = ℕ} 0 1 = cc in absurd (omega arith))
      (λ f. cases (leb (state_size st) lent)
      (λ g. let h : Large ≡ Live = rw (f, g) at e in let z : ◌≡◌ {A = ℕ} 0 1 = cc in absurd (omega arith))
      (λ g. leb-false _ _ g))

  pub small_enough : Live ≡ becomes b lent (live st) → state_size st ≤ lent
  unfolding becomes made
  small_enough e =
      cases (ltb b.path_unknowns st.next)
      (λ t. let h : Live ≡ Names = rw t at e in let z : ◌≡◌ {A = ℕ} 0 1 = cc in absurd (omega arith))
      (λ f. cases (leb (state_size st) lent)
      (λ g. leb-true _ _ g)
      (λ g. let h : Live ≡ Large = rw (f, g) at e in let z : ◌≡◌ {A = ℕ} 0 1 = cc in absurd (omega arith)))

  pub never_dead : Dead ≡ becomes b lent (live st) → ⊥
  unfolding becomes made
  never_dead e =
      cases (ltb b.path_unknowns st.next)
      (λ t. let h : Dead ≡ Names = rw t at e in let z : ◌≡◌ {A = ℕ} 0 1 = cc in omega arith)
      (λ f. cases (leb (state_size st) lent)
      (λ g. let h : Dead ≡ Live = rw (f, g) at e in let z : ◌≡◌ {A = ℕ} 0 1 = cc in omega arith)
      (λ g. let h : Dead ≡ Large = rw (f, g) at e in let z : ◌≡◌ {A = ℕ} 0 1 = cc in omega arith))
