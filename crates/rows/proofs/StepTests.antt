-- What the tests of the code tell of an equation's step.
use Prim.Native.Nat.{ℕ}
use mathlib.Core.Path.{◌≡◌, sym, ◌∙◌}
use mathlib.Core.List.{List}
use mathlib.Core.Bool.{Bool, true, false}
use lib.Dec.{eqb}
use lib.ListN.{get_or}
use borrow.Author.Tests.{eq-eqb, ne_eqb}
use Rattle.terms.specs.Bounds.{edition_one, FIRST_UNKNOWN, UNKNOWN_WORDS, EMPTY, MEMBER}
use Rattle.terms.specs.Kind.{within}
use Rattle.walks.specs.declared.occurrence.Occurrence.TheVariants.{Absent, Tail, Inside}
use Rattle.walks.specs.Occurrence.{in_rest}
use Rattle.search.specs.declared.steps.Tails.{Tails}
use Rattle.search.specs.declared.steps.Tails.TheVariants.{Different}
use Rattle.search.specs.declared.steps.Step.TheVariants.{Drop, Bind, Postpone, Decompose, Split, Dead}
use Rattle.search.specs.Classify.{tails_by}
use Rattle.rows.specs.Terms.HeldWords.{holds, absent_in_rest}
use Rattle.rows.specs.Stepping.{unknown_word, tails_of, kernel_word, meet_where, meet_words, compare_words, step_by, step_of}

pub tails-told : (l r : ℕ) {a c d : Bool} → within FIRST_UNKNOWN UNKNOWN_WORDS l ≡ a → within FIRST_UNKNOWN UNKNOWN_WORDS r ≡ c → eqb l r ≡ d → tails_by a c d ≡ tails_of edition_one l r
unfolding tails_of unknown_word edition_one
tails-told l r p q s = rw (p, q, s)

module _ (arities : List ℕ) (x : ℕ) (ws : List ℕ) (k : Tails) where
  pub met_nowhere : in_rest edition_one arities x ws 0 ≡ Absent → Bind k ≡ meet_words edition_one arities x ws k
  unfolding meet_words meet_where
  met_nowhere e = rw e

  pub met_absent : (found : Bool) → found ≡ holds x ws → found ≡ false → Bind k ≡ meet_words edition_one arities x ws k
  met_absent found e h = met_nowhere (absent_in_rest edition_one arities x ws 0 (sym e ∙ h))

  pub met_as_tail : in_rest edition_one arities x ws 0 ≡ Tail → Postpone k ≡ meet_words edition_one arities x ws k
  unfolding meet_words meet_where
  met_as_tail e = rw e

  pub met_inside : in_rest edition_one arities x ws 0 ≡ Inside → Dead ≡ meet_words edition_one arities x ws k
  unfolding meet_words meet_where
  met_inside e = rw e

module _ (arities left right : List ℕ) where
  pub compared_apart : (get_or left 0 0 ≡ get_or right 0 0 → ⊥) → Dead ≡ compare_words edition_one arities left right
  unfolding compare_words
  compared_apart d = rw (ne_eqb (get_or left 0 0) (get_or right 0 0) d)

  module _ (e : get_or left 0 0 ≡ get_or right 0 0) where
    pub compared_empty : get_or left 0 0 ≡ EMPTY → Drop ≡ compare_words edition_one arities left right
    unfolding compare_words
    compared_empty z = rw (eq-eqb (get_or left 0 0) (get_or right 0 0) e, eq-eqb (get_or left 0 0) EMPTY z)

    pub compared-sets : (get_or left 0 0 ≡ EMPTY → ⊥) → get_or left 0 0 ≡ MEMBER
        → Split (tails_of edition_one (kernel_word edition_one arities left) (kernel_word edition_one arities right)) ≡ compare_words edition_one arities left right
    unfolding compare_words
    compared-sets z o = rw (eq-eqb (get_or left 0 0) (get_or right 0 0) e, ne_eqb (get_or left 0 0) EMPTY z, eq-eqb (get_or left 0 0) MEMBER o)

    pub compared_functors : (get_or left 0 0 ≡ EMPTY → ⊥) → (get_or left 0 0 ≡ MEMBER → ⊥) → Decompose ≡ compare_words edition_one arities left right
    unfolding compare_words
    compared_functors z o = rw (eq-eqb (get_or left 0 0) (get_or right 0 0) e, ne_eqb (get_or left 0 0) EMPTY z, ne_eqb (get_or left 0 0) MEMBER o)

  -- the two first words, and whether they are unknowns'
  module _ {l r : ℕ} (el : l ≡ get_or left 0 0) (er : r ≡ get_or right 0 0) where
    step_told : {a c : Bool} → within FIRST_UNKNOWN UNKNOWN_WORDS l ≡ a → within FIRST_UNKNOWN UNKNOWN_WORDS r ≡ c → step_by a c edition_one arities left right ≡ step_of edition_one arities left right
    unfolding step_of unknown_word edition_one
    step_told p q = rw (← el, ← er, p, q)

    module _ (p : within FIRST_UNKNOWN UNKNOWN_WORDS l ≡ true) where
      pub two_same : within FIRST_UNKNOWN UNKNOWN_WORDS r ≡ true → l ≡ r → Drop ≡ step_of edition_one arities left right
      unfolding step_by
      two_same q e = rw (eq-eqb (get_or left 0 0) (get_or right 0 0) (sym el ∙ e ∙ er)) at (step_told p q)

      pub two_different : within FIRST_UNKNOWN UNKNOWN_WORDS r ≡ true → (l ≡ r → ⊥) → Bind Different ≡ step_of edition_one arities left right
      unfolding step_by
      two_different q d = rw (ne_eqb (get_or left 0 0) (get_or right 0 0) (λ e. d (el ∙ e ∙ sym er))) at (step_told p q)

      pub left-met : within FIRST_UNKNOWN UNKNOWN_WORDS r ≡ false → meet_words edition_one arities l right (tails_of edition_one l (kernel_word edition_one arities right)) ≡ step_of edition_one arities left right
      unfolding step_by
      left-met q = rw el (step_told p q)

    module _ (p : within FIRST_UNKNOWN UNKNOWN_WORDS l ≡ false) where
      pub right-met : within FIRST_UNKNOWN UNKNOWN_WORDS r ≡ true → meet_words edition_one arities r left (tails_of edition_one (kernel_word edition_one arities left) r) ≡ step_of edition_one arities left right
      unfolding step_by
      right-met q = rw er (step_told p q)

      pub none_met : within FIRST_UNKNOWN UNKNOWN_WORDS r ≡ false → compare_words edition_one arities left right ≡ step_of edition_one arities left right
      unfolding step_by
      none_met q = step_told p q
