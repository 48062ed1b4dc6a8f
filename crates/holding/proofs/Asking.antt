-- A question's words and then its values', as one row of terms: the values stand where they are noted, and the equations hold with them exactly if the
-- values solve the question.
use Prim.Native.Nat.{ℕ, zero, suc, ◌<◌, ◌≤◌}
use mathlib.Core.Path.{◌≡◌, refl, ap, ap₂, sym, ◌∙◌}
use mathlib.Core.List.{List, [], ◌∷◌, ◌++◌, append_assoc}
use mathlib.Core.Bool.{◌&&◌}
use native.Mathlib.Omega.{arith}
use lib.ListN.{length, get_or, drop, length-append}
use lib.Seq.{drop_at}
use Rattle.terms.specs.Bounds.{Bounds}
use Rattle.terms.specs.Formed.{Formed, Formed*, formed_unknown, formed_empty, formed_with, formed_functor, formed_none, formed_more, row, Equation, sides}
use Rattle.terms.specs.Lists.{All, none, both, all, All-append, All-map}
use Rattle.checks.specs.Pushed.{formed_top, formed_drop}
use Rattle.terms.specs.Reading.{read, row_read, top}
use Rattle.terms.specs.Laws.Substitution.{formed_wider}
use Rattle.terms.specs.Term.{Term, Terms, empty, with, functor, more, words}
use Rattle.laws.specs.Equal.{equal}
use Rattle.laws.specs.Values.{Values, value, value*, in_order, holds_test, solves_test}
use Rattle.term_places.specs.Places.{terms_from, Held, values, Placed}
use Rattle.term_places.specs.Places as places
use Rattle.holding.specs.Holding.{holding, starts_from, Equations, Standings, WithValues}
use Rattle.holding.proofs.Started.{length_starts, started, started_inside}

-- ---- values that agree on a term's unknowns

mutual
  unfolding value

  value_agree : {σ τ : Values} {arities : List ℕ} {n : ℕ} {t : Term} → ((i : ℕ) → i < n → σ i ≡ τ i) → Formed arities n t → value σ t ≡ value τ t
  value_agree e (formed_unknown {i = i} l) = e i l
  value_agree e formed_empty = refl
  value_agree e (formed_with f g) = ap₂ with (value_agree e f) (value_agree e g)
  value_agree e (formed_functor {k = k} l c f) = ap (functor k) (value-agree* e f)

  value-agree* : {σ τ : Values} {arities : List ℕ} {n : ℕ} {ts : Terms} → ((i : ℕ) → i < n → σ i ≡ τ i) → Formed* arities n ts → value* σ ts ≡ value* τ ts
  value-agree* e formed_none = refl
  value-agree* e (formed_more f g) = ap₂ more (value_agree e f) (value-agree* e g)

pub holding_agree : {σ τ : Values} {arities : List ℕ} {n : ℕ} {ts : List Term} (m : ℕ) → ((i : ℕ) → i < n → σ i ≡ τ i) → All (Formed arities n) ts → holding σ m ts ≡ holding τ m ts
unfolding holding
holding_agree zero e fs = refl
holding_agree (suc m) e fs =
    ap₂ (λ a c. a && c) (ap₂ equal (value_agree e (formed_top fs)) (value_agree e (formed_top (formed_drop 1 fs)))) (holding_agree m e (formed_drop 2 fs))

-- ---- one row

row-append : (b : Bounds) (ts us : List Term) → row b (ts ++ us) ≡ row b ts ++ row b us
unfolding row
row-append b [] us = refl
row-append b (t ∷ ts) us = ap (λ l. words b t ++ l) (row-append b ts us) ∙ sym (append_assoc (words b t) (row b ts) (row b us))

module _ {b : Bounds} {arities ws : List ℕ} {n from m : ℕ} (q : WithValues b arities ws n from m) where
  wider_values : All (Formed arities n) q.values
  wider_values = All-map (λ t f. formed_wider (omega arith) f) q.formed_values

  pub all_formed : All (Formed arities n) (q.sides ++ q.values)
  all_formed = All-append q.formed_sides wider_values

  row_worded : row b (q.sides ++ q.values) ≡ ws
  row_worded = row-append b q.sides q.values ∙ q.worded

  pub asked_terms : places.Terms b arities n ws
  asked_terms = record { limits = q.limits; terms = q.sides ++ q.values; formed = all_formed; worded = row_worded }

  pub from_first : terms_from b arities ws 0 ≡ q.sides ++ q.values
  unfolding terms_from
  from_first = ap (read b arities) (sym row_worded) ∙ row_read q.limits all_formed

  pub from-values : terms_from b arities ws from ≡ q.values
  unfolding terms_from
  from-values =
      ap (λ l. read b arities (drop from l)) (sym q.worded) ∙ ap (read b arities) (drop_at (row b q.sides) (row b q.values) from q.length_sides)
      ∙ row_read q.limits wider_values

  value-count : length (terms_from b arities ws from) ≡ n
  value-count = ap length from-values ∙ q.unknowns

  pub asked-within : from ≤ length ws
  asked-within = omega (arith, ap length q.worded, length-append (row b q.sides) (row b q.values), q.length_sides)

  pub asked_standings : Standings b arities ws from n
  asked_standings = record { unknowns = n; terms = asked_terms; enough = omega (arith, value-count); few = q.few }

  here : Held
  here = record { bounds = b; arities = arities; words = ws; starts = starts_from b arities ws from n }

  values-here : (i : ℕ) → i < n → values here i ≡ in_order (terms_from b arities ws from) i
  unfolding values in_order here
  values-here i l = started asked_terms from n i l (omega (arith, value-count))

  formed_at : {vs : List Term} → All (Formed arities 0) vs → (i : ℕ) → Formed arities 0 (get_or vs i empty)
  formed_at none i = formed_empty
  formed_at (both f fs) zero = f
  formed_at (both f fs) (suc i) = formed_at fs i

  asked_placed : Placed here
  unfolding in_order here
  asked_placed =
      let e = length_starts asked_terms from n in
      record {
        terms = rw e asked_terms;
        inside = λ i l. started_inside asked_terms from n i (omega arith) (omega (arith, value-count));
        grounded = λ i l. rw (values-here i (omega arith), from-values) (formed_at q.formed_values i);
      }

  module _ {starts : List ℕ} (noted : starts ≡ starts_from b arities ws from n) where
    pub asked-equations : {labels : List ℕ} → length labels ≡ length ws → Equations (record { bounds = b; arities = arities; words = ws; starts = starts }) labels m
    unfolding here
    asked-equations l =
        rw noted
        (record {
          placed = asked_placed;
          enough = omega (arith, ap length from_first ∙ length-append q.sides q.values, q.equations);
          long = l;
          few = q.few;
        })

    pub asked-holding : holding (values (record { bounds = b; arities = arities; words = ws; starts = starts })) m (terms_from b arities ws 0)
        ≡ holding (in_order (terms_from b arities ws from)) m (terms_from b arities ws 0)
    unfolding here
    asked-holding = rw noted (holding_agree {arities = arities} m values-here (rw from_first all_formed))

-- ---- what the equations tell of the question

pub holding_solves : (σ : Values) (es : List Equation) (us : List Term) → holding σ (length es) (sides es ++ us) ≡ solves_test σ es
unfolding holding sides solves_test all holds_test top
holding_solves σ [] us = refl
holding_solves σ (e ∷ es) us = ap (λ c. equal (value σ e.left) (value σ e.right) && c) (holding_solves σ es us)
