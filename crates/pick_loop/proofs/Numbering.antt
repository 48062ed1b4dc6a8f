-- The number of a split's child, by the digits that stand in scratch: how many children there are, and which of them the digits choose.
use Prim.Native.Nat.{ℕ, suc}
use mathlib.Core.Path.{◌≡◌, refl, sym, ap}
use mathlib.Core.Bool.{Bool}
use mathlib.Core.List.{List, [], ◌∷◌, ◌++◌}
use native.Mathlib.Omega.{arith}
use lib.ListN.{length, drop, drop_of_length-le}
use Rattle.terms.specs.Term.{Term, members, kernel}
use Rattle.terms.specs.Shape.{is_unknown}
use Rattle.terms.specs.Formed.{Equation}
use Rattle.search.specs.Classify.{tails}
use Rattle.search.specs.declared.steps.Tails.{Tails}
use Rattle.rows.specs.declared.parts.Rest.{Rest}
use Rattle.search_laws.specs.ChoiceNumbers.{choices, number, Digits, no_digit, digit, choices-append, number_append}
use Rattle.search_laws.specs.Picking.{radix, radices_of, t_radices, u_radices, child_number, length-split}
use Rattle.search_laws.proofs.PickedChildren.{drop-split}
use Rattle.choices.specs.declared.sides.Sides.{Sides}
use Rattle.choices.specs.Digits.{copies}
use Rattle.choices.specs.OpenParent.{Parent}
use Rattle.tails.specs.Due.{child}
use Rattle.pick_loop.specs.PicksInScratch.{all_children, place, Picks}

radices-copies : (pair : Term → Term → Equation) (tail : Bool) (others owns : List Term) → radices_of pair tail others owns ≡ copies (length owns) (radix tail (length others))
unfolding radices_of copies
radices-copies pair tail others [] = refl
radices-copies pair tail others (own ∷ owns) = ap (λ (l : List ℕ). radix tail (length others) ∷ l) (radices-copies pair tail others owns)

-- digits of some radices and then of others
pub record Parts (rs qs all : List ℕ) : Type 0 where
  pub ds : List ℕ
  pub es : List ℕ
  pub whole : all ≡ ds ++ es
  pub first : Digits rs ds
  pub second : Digits qs es

pub digits-parts : (rs qs : List ℕ) {all : List ℕ} → Digits (rs ++ qs) all → Parts rs qs all
digits-parts [] qs d = record { ds = []; es = _; whole = refl; first = no_digit; second = d }
digits-parts (r ∷ rs) qs (digit {d = c} h hs) =
    let P = digits-parts rs qs hs in
    record { ds = c ∷ P.ds; es = P.es; whole = ap (λ (l : List ℕ). c ∷ l) P.whole; first = digit h P.first; second = P.second }

module _ {arities l : List ℕ} {at : ℕ} {rest : Rest} {sides : Sides} {kind : Tails} {first second lent next scratch most : ℕ} {p : Parent}
    (P : Picks arities l at rest sides kind first second lent next scratch most p) where
  abbrev kinds : Tails
  kinds = tails p.t p.u

  -- the radices as the code has them
  abbrev pub radices : List ℕ
  radices = copies sides.n first ++ copies sides.m second

  t_radices_are : t_radices kinds p.t p.u p.st ≡ copies sides.n first
  t_radices_are = rw (P.opened.n_is, P.first_is) (radices-copies _ (is_unknown (kernel p.u)) (members p.u) (members p.t))

  u_radices_are : u_radices kinds p.t p.u p.st ≡ copies sides.m second
  u_radices_are = rw (P.opened.m_is, P.second_is) (radices-copies _ (is_unknown (kernel p.t)) (members p.t) (members p.u))

  pub place_is : place p ≡ number radices (p.ds ++ p.es)
  unfolding place child_number
  place_is = rw (t_radices_are, u_radices_are) (sym (number_append (copies sides.m second) p.es P.proper_t))

  pub how_many : length (all_children p) ≡ choices radices
  unfolding all_children
  how_many = rw (choices-append, ← t_radices_are, ← u_radices_are) (length-split kinds p.t p.u p.st)

  pub child-here : drop (place p) (all_children p) ≡ child p ∷ drop (suc (place p)) (all_children p)
  unfolding place all_children child
  child-here =
      drop-split kinds p.t p.u p.st (rw t_radices_are P.proper_t) (rw u_radices_are P.proper_u)

  -- after the last one there is none
  pub none_after : suc (number radices (p.ds ++ p.es)) ≡ choices radices → drop (suc (place p)) (all_children p) ≡ []
  none_after e = drop_of_length-le (all_children p) {i = suc (place p)} (omega (arith, how_many, place_is))
