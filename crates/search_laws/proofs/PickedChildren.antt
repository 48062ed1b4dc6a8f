-- Where a child of a split stands among the children, by its digits: `Picking` has what they give.
use Prim.Native.Nat.{ℕ, suc, ◌+◌, ◌*◌, ◌<◌}
use Rattle.std.specs.Prelude.{◌≡◌}
use Rattle.std.proofs.Math.Path.{ap}
use Rattle.std.proofs.Common.{sym, ◌∙◌, arith}
use mathlib.Core.List.{List, [], ◌∷◌, ◌++◌, map, flat_map}
use Rattle.std.proofs.Math.ListN.{length, drop, get_or}
use Rattle.terms.specs.Lists.{product}
use Rattle.terms.specs.Term.{Term, members, kernel}
use Rattle.terms.specs.Formed.{Equation}
use Rattle.terms.specs.Shape.{is_unknown}
use Rattle.search.specs.declared.steps.Tails.{Tails}
use Rattle.search.specs.State.{State, Node}
use Rattle.search.specs.Children.{Pick, new_equations, joining, settle, split}
use Rattle.search_laws.specs.ChoiceNumbers.{drop-next, get_or-first, drop-map, drop-flat_map, choices, number, Digits, number-below, chosen, radices, length-product, drop-product}
use Rattle.search_laws.specs.Picking.{unread, picks, radices-picks, equations-chosen, joining-chosen, t_radices, u_radices, child_of, child_number, split_is, widths}

module _ (k : Tails) (t u : Term) (st : State) where
  -- the two sides, as in `Picking`
  abbrev left_pair : Term → Term → Equation
  left_pair own other = record { left = own; right = other }

  abbrev right_pair : Term → Term → Equation
  right_pair own other = record { left = other; right = own }

  abbrev ts : List Term
  ts = members t

  abbrev us : List Term
  us = members u

  abbrev P : List (List Pick)
  P = map (picks left_pair (is_unknown (kernel u)) us) ts

  abbrev Q : List (List Pick)
  Q = map (picks right_pair (is_unknown (kernel t)) ts) us

  abbrev below : List Pick → List Node
  below ps = map (λ qs. settle k (kernel t) (kernel u) (joining ps) (joining qs) (new_equations ps ++ new_equations qs) st) (product Q)

  t-digits : {ds : List ℕ} → Digits (t_radices k t u st) ds → Digits (radices unread P) ds
  t-digits {ds} h = rw (radices-picks left_pair (is_unknown (kernel u)) us ts) h

  u-digits : {es : List ℕ} → Digits (u_radices k t u st) es → Digits (radices unread Q) es
  u-digits {es} g = rw (radices-picks right_pair (is_unknown (kernel t)) ts us) g

  place_of_t : {ds : List ℕ} → Digits (t_radices k t u st) ds
      → drop (number (t_radices k t u st) ds) (product P) ≡ chosen unread P ds ∷ drop (suc (number (t_radices k t u st) ds)) (product P)
  place_of_t {ds} h = rw (radices-picks left_pair (is_unknown (kernel u)) us ts) at (drop-product unread P (t-digits h))

  place_of_u : {es : List ℕ} → Digits (u_radices k t u st) es
      → drop (number (u_radices k t u st) es) (product Q) ≡ chosen unread Q es ∷ drop (suc (number (u_radices k t u st) es)) (product Q)
  place_of_u {es} g = rw (radices-picks right_pair (is_unknown (kernel t)) ts us) at (drop-product unread Q (u-digits g))

  number_of-t : {ds : List ℕ} → Digits (t_radices k t u st) ds → number (t_radices k t u st) ds < length (product P)
  number_of-t h = rw (length-product unread P, radices-picks left_pair (is_unknown (kernel u)) us ts) (number-below h)

  settled : {ds es : List ℕ} → Digits (t_radices k t u st) ds → Digits (u_radices k t u st) es
      → settle k (kernel t) (kernel u) (joining (chosen unread P ds)) (joining (chosen unread Q es)) (new_equations (chosen unread P ds) ++ new_equations (chosen unread Q es)) st ≡ child_of k t u st ds es
  unfolding child_of
  settled h g =
      rw (
        joining-chosen left_pair (is_unknown (kernel u)) us ts h,
        joining-chosen right_pair (is_unknown (kernel t)) ts us g,
        equations-chosen left_pair (is_unknown (kernel u)) us ts h,
        equations-chosen right_pair (is_unknown (kernel t)) ts us g,
      )

  first_of : {ds es : List ℕ} → Digits (t_radices k t u st) ds → Digits (u_radices k t u st) es → (l : List Node) × (drop (child_number k t u st ds es) (split k t u st) ≡ child_of k t u st ds es ∷ l)
  unfolding child_number
  first_of {ds} {es} h g =
      let D : ℕ = number (t_radices k t u st) ds in
      let E : ℕ = number (u_radices k t u st) es in
      let F : List Pick → List Pick → Node = λ ps qs. settle k (kernel t) (kernel u) (joining ps) (joining qs) (new_equations ps ++ new_equations qs) st in
      let part : drop (D * choices (u_radices k t u st) + E) (flat_map below (product P)) ≡ drop E (below (get_or (product P) D [])) ++ flat_map below (drop (suc D) (product P)) =
      drop-flat_map below (choices (u_radices k t u st)) [] (widths k t u st (product P)) D E (number_of-t h) (omega (arith, number-below g)) in
      let ps : get_or (product P) D [] ≡ chosen unread P ds = get_or-first D (product P) [] _ _ (place_of_t h) in
      let inner : drop E (below (chosen unread P ds)) ≡ F (chosen unread P ds) (chosen unread Q es) ∷ map (F (chosen unread P ds)) (drop (suc E) (product Q)) =
      drop-map (F (chosen unread P ds)) E (product Q) ∙ ap (map (F (chosen unread P ds))) (place_of_u g) in (
        map (F (chosen unread P ds)) (drop (suc E) (product Q)) ++ flat_map below (drop (suc D) (product P)),
        rw (split_is k t u st, ← settled h g) (part ∙ ap (λ qs. drop E (below qs) ++ flat_map below (drop (suc D) (product P))) ps ∙ ap (λ l. l ++ flat_map below (drop (suc D) (product P))) inner),
      )

  -- a child's digits tell its place among the children
  pub drop-split : {ds es : List ℕ} → Digits (t_radices k t u st) ds → Digits (u_radices k t u st) es
      → drop (child_number k t u st ds es) (split k t u st) ≡ child_of k t u st ds es ∷ drop (suc (child_number k t u st ds es)) (split k t u st)
  drop-split {ds} {es} h g =
      let p = first_of h g in
      p.1 ∙ ap (λ l. child_of k t u st ds es ∷ l) (sym (drop-next (child_number k t u st ds es) (split k t u st) (child_of k t u st ds es) p.0 p.1))
