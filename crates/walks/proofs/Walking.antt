-- The walks in the code's terms: a place, and what is left of the words from there on. One law for each way a turn of a loop goes on or ends.
use mathlib.Core.Path.{◌≡◌, ◌∙◌}
use mathlib.Core.List.{List, ◌∷◌}
use Prim.Native.Nat.{ℕ, zero, suc, ◌+◌, ◌-◌, ◌≤◌, ◌<◌}
use native.Mathlib.Omega.{arith}
use native.Mathlib.Numerals.{add-one, sub-one}
use lib.ListN.{length, drop, get_or, drop_of_length-le, length-drop}
use lib.Seq.{drop-cons}
use borrow.Author.Tests.{ne_eqb, eq-eqb}
use Rattle.terms.specs.Bounds.{Bounds, MEMBER}
use Rattle.terms.specs.Kind.{takes}
use Rattle.terms.specs.Laws.Walk.{span, span_short}
use Rattle.walks.specs.Occurrence.{in_terms, in_rest}
use Rattle.walks.specs.declared.occurrence.Occurrence.TheVariants.{Absent, Tail, Inside}

module _ (b : Bounds) (arities ws : List ℕ) (p : ℕ) where
  -- ---- no words are left, or fewer than terms are due

  pub span-out : (d : ℕ) → p ≤ length ws → length ws - p < d → p + span b arities (drop p ws) d ≡ length ws
  span-out d l h = omega (arith, length-drop p ws, span_short b arities (drop p ws) d (rw (length-drop p ws) h))

  pub terms_out : (x d : ℕ) → length ws ≤ p → in_terms b arities x (drop p ws) d ≡ Absent
  unfolding in_terms
  terms_out x d h = rw (drop_of_length-le ws h)

  pub rest_out : (x d : ℕ) → length ws ≤ p → in_rest b arities x (drop p ws) d ≡ Absent
  unfolding in_rest
  rest_out x d h = rw (drop_of_length-le ws h)

  -- ---- the word at the place

  module _ (h : p < length ws) where
    next : drop p ws ≡ get_or ws p 0 ∷ drop (p + 1) ws
    next = drop-cons ws p 0 h ∙ rw add-one

    -- a word of a term that is due, after which m terms follow
    module _ {m : ℕ} (e : m ≡ takes b arities (get_or ws p 0)) where
      pub span_step : (d : ℕ) → 0 < d → p + span b arities (drop p ws) d ≡ p + 1 + span b arities (drop (p + 1) ws) (d - 1 + m)
      unfolding span
      span_step zero z = absurd (omega arith)
      span_step (suc d) z = rw (next, sub-one, e) (omega arith)

      pub terms_step : (x d : ℕ) → 0 < d → (get_or ws p 0 ≡ x → ⊥) → in_terms b arities x (drop p ws) d ≡ in_terms b arities x (drop (p + 1) ws) (d - 1 + m)
      unfolding in_terms
      terms_step x zero z g = absurd (omega arith)
      terms_step x (suc d) z g = rw (next, sub-one, e, ne_eqb (get_or ws p 0) x g)

      pub rest_step : (x d : ℕ) → 0 < d → (get_or ws p 0 ≡ x → ⊥) → in_rest b arities x (drop p ws) d ≡ in_rest b arities x (drop (p + 1) ws) (d - 1 + m)
      unfolding in_rest
      rest_step x zero z g = absurd (omega arith)
      rest_step x (suc d) z g = rw (next, sub-one, e, ne_eqb (get_or ws p 0) x g)

      pub rest-arguments : (x d : ℕ) → d ≡ 0 → (get_or ws p 0 ≡ x → ⊥) → (get_or ws p 0 ≡ MEMBER → ⊥) → in_rest b arities x (drop p ws) d ≡ in_terms b arities x (drop (p + 1) ws) m
      unfolding in_rest
      rest-arguments x d z g i = rw (next, z, ne_eqb (get_or ws p 0) x g, ne_eqb (get_or ws p 0) MEMBER i, e)

    -- the word that is looked for
    pub terms_here : (x d : ℕ) → 0 < d → get_or ws p 0 ≡ x → in_terms b arities x (drop p ws) d ≡ Inside
    unfolding in_terms
    terms_here x zero z g = absurd (omega arith)
    terms_here x (suc d) z g = rw (next, eq-eqb (get_or ws p 0) x g)

    pub rest-here : (x d : ℕ) → 0 < d → get_or ws p 0 ≡ x → in_rest b arities x (drop p ws) d ≡ Inside
    unfolding in_rest
    rest-here x zero z g = absurd (omega arith)
    rest-here x (suc d) z g = rw (next, eq-eqb (get_or ws p 0) x g)

    pub rest_tail : (x d : ℕ) → d ≡ 0 → get_or ws p 0 ≡ x → in_rest b arities x (drop p ws) d ≡ Tail
    unfolding in_rest
    rest_tail x d z g = rw (next, z, eq-eqb (get_or ws p 0) x g)

    -- another word where a rest is due
    pub rest_member : (x d : ℕ) → d ≡ 0 → (get_or ws p 0 ≡ x → ⊥) → get_or ws p 0 ≡ MEMBER → in_rest b arities x (drop p ws) d ≡ in_rest b arities x (drop (p + 1) ws) 1
    unfolding in_rest
    rest_member x d z g i = rw (next, z, ne_eqb (get_or ws p 0) x g, eq-eqb (get_or ws p 0) 1 i)
