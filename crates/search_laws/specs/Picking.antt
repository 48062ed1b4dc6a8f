-- The children of a split by number: the digits of a child's number are the picks of t1..tn and then of u1..um, each below its side's radix.
-- A digit below the number of the other side's members picks that member, the one after it the other side's tail.
use Prim.Native.Nat.{ℕ, zero, suc, ◌+◌, ◌*◌, ◌≤◌, ◌<◌}
use Rattle.std.specs.Prelude.{◌≡◌, Bool, cond, ltb}
use Rattle.std.proofs.Math.Path.{refl, ap}
use Rattle.std.proofs.Common.{◌∙◌, ltb-true, ltb-false, arith}
use Rattle.std.proofs.Math.Bool.{true, false}
use mathlib.Core.List.{List, [], ◌∷◌, ◌++◌, map, flat_map}
use Rattle.std.proofs.Math.ListN.{length, get_or, length-append, length-map, get_or-append}
use Rattle.std.proofs.Math.Seq.{get_or_at}
use Rattle.terms.specs.Lists.{All, none, both, product, cases}
use Rattle.terms.specs.Term.{Term, empty, members, kernel}
use Rattle.terms.specs.Formed.{Equation}
use Rattle.terms.specs.Shape.{is_unknown}
use Rattle.search.specs.declared.steps.Tails.{Tails}
use Rattle.search.specs.State.{State, Node}
use Rattle.search.specs.Children.{Pick, meets, joins, tail_pick, picks_of_t, picks_of_u, new_equations, joining, settle, split}
use Rattle.search_laws.specs.ChoiceNumbers.{length-flat_map, choices, number, Digits, no_digit, digit, chosen, radices, length-product}

-- ---- one member's picks

-- one more than the other side's members, where its tail is an unknown
unfoldable pub radix : Bool → ℕ → ℕ
radix true n = suc n
radix false n = n

-- what stands beyond a list of picks; it is never read
abbrev pub unread : Pick
unread = joins empty

module _ (pair : Term → Term → Equation) (tail : Bool) (others : List Term) where
  -- what a member may pick; `pair` puts the t on the left
  unfoldable pub picks : Term → List Pick
  picks own = map (λ o. meets (pair own o)) others ++ tail_pick tail own

  -- the equations that digits give, and the members that join the other tail
  unfoldable pub equations_by : List Term → List ℕ → List Equation
  equations_by [] ds = []
  equations_by (own ∷ owns) [] = []
  equations_by (own ∷ owns) (d ∷ ds) = cond (ltb d (length others)) (pair own (get_or others d empty) ∷ equations_by owns ds) (equations_by owns ds)

  unfoldable pub joining_by : List Term → List ℕ → List Term
  joining_by [] ds = []
  joining_by (own ∷ owns) [] = []
  joining_by (own ∷ owns) (d ∷ ds) = cond (ltb d (length others)) (joining_by owns ds) (own ∷ joining_by owns ds)

  length-picks : (own : Term) → length (picks own) ≡ radix tail (length others)
  unfolding picks radix tail_pick
  length-picks own = go tail
    where
      go : (c : Bool) → length (map (λ o. meets (pair own o)) others ++ tail_pick c own) ≡ radix c (length others)
      go true = omega (arith, length-append (map (λ o. meets (pair own o)) others) (joins own ∷ []), length-map others (λ o. meets (pair own o)))
      go false = omega (arith, length-append (map (λ o. meets (pair own o)) others) [], length-map others (λ o. meets (pair own o)))

  get_or-map : (f : Term → Pick) (l : List Term) (i : ℕ) → i < length l → get_or (map f l) i unread ≡ f (get_or l i empty)
  get_or-map f [] i h = absurd (omega arith)
  get_or-map f (x ∷ l) zero h = refl
  get_or-map f (x ∷ l) (suc i) h = get_or-map f l i (omega arith)

  meets_at : (own : Term) (d : ℕ) → d < length others → get_or (picks own) d unread ≡ meets (pair own (get_or others d empty))
  unfolding picks
  meets_at own d h =
      get_or-append (map (λ o. meets (pair own o)) others) (tail_pick tail own) unread d (omega (arith, length-map others (λ o. meets (pair own o))))
      ∙ get_or-map (λ o. meets (pair own o)) others d h

  joins_at : (own : Term) (d : ℕ) → length others ≤ d → d < radix tail (length others) → get_or (picks own) d unread ≡ joins own
  unfolding picks radix tail_pick
  joins_at own d h k = go tail k
    where
      go : (c : Bool) → d < radix c (length others) → get_or (map (λ o. meets (pair own o)) others ++ tail_pick c own) d unread ≡ joins own
      go true q = get_or_at (map (λ o. meets (pair own o)) others) (joins own) [] unread d (omega (arith, length-map others (λ o. meets (pair own o))))
      go false q = absurd (omega arith)

  -- ---- all members' picks

  -- so many digits, each below the side's radix
  unfoldable pub radices_of : List Term → List ℕ
  radices_of [] = []
  radices_of (own ∷ owns) = radix tail (length others) ∷ radices_of owns

  pub radices-picks : (owns : List Term) → radices unread (map picks owns) ≡ radices_of owns
  unfolding radices radices_of
  radices-picks [] = refl
  radices-picks (own ∷ owns) = rw (length-picks own, radices-picks owns)

  pub equations-chosen : (owns : List Term) {ds : List ℕ} → Digits (radices_of owns) ds
      → new_equations (chosen unread (map picks owns) ds) ≡ equations_by owns ds
  unfolding chosen new_equations equations_by radices_of
  equations-chosen [] no_digit = refl
  equations-chosen (own ∷ owns) (digit {d = d} h hs) =
      cases (ltb d (length others))
      (λ e. rw (e, meets_at own d (ltb-true d (length others) e), equations-chosen owns hs))
      (λ e. rw (e, joins_at own d (ltb-false d (length others) e) h, equations-chosen owns hs))

  pub joining-chosen : (owns : List Term) {ds : List ℕ} → Digits (radices_of owns) ds
      → joining (chosen unread (map picks owns) ds) ≡ joining_by owns ds
  unfolding chosen joining joining_by radices_of
  joining-chosen [] no_digit = refl
  joining-chosen (own ∷ owns) (digit {d = d} h hs) =
      cases (ltb d (length others))
      (λ e. rw (e, meets_at own d (ltb-true d (length others) e), joining-chosen owns hs))
      (λ e. rw (e, joins_at own d (ltb-false d (length others) e) h, joining-chosen owns hs))

-- ---- the children of a split

module _ (k : Tails) (t u : Term) (st : State) where
  -- the two sides: the t's pick among the u's and r, the u's among the t's and s
  abbrev left_pair : Term → Term → Equation
  left_pair own other = record { left = own; right = other }

  abbrev right_pair : Term → Term → Equation
  right_pair own other = record { left = other; right = own }

  abbrev ts : List Term
  ts = members t

  abbrev us : List Term
  us = members u

  abbrev pub t_radices : List ℕ
  t_radices = radices_of left_pair (is_unknown (kernel u)) us ts

  abbrev pub u_radices : List ℕ
  u_radices = radices_of right_pair (is_unknown (kernel t)) ts us

  -- the child of the digits ds of the t's and es of the u's
  unfoldable pub child_of : List ℕ → List ℕ → Node
  child_of ds es =
      settle k (kernel t) (kernel u) (joining_by left_pair (is_unknown (kernel u)) us ts ds) (joining_by right_pair (is_unknown (kernel t)) ts us es)
      (equations_by left_pair (is_unknown (kernel u)) us ts ds ++ equations_by right_pair (is_unknown (kernel t)) ts us es) st

  unfoldable pub child_number : List ℕ → List ℕ → ℕ
  child_number ds es = number t_radices ds * choices u_radices + number u_radices es

  abbrev P : List (List Pick)
  P = map (picks left_pair (is_unknown (kernel u)) us) ts

  abbrev Q : List (List Pick)
  Q = map (picks right_pair (is_unknown (kernel t)) ts) us

  abbrev below : List Pick → List Node
  below ps = map (λ qs. settle k (kernel t) (kernel u) (joining ps) (joining qs) (new_equations ps ++ new_equations qs) st) (product Q)

  pub split_is : split k t u st ≡ flat_map below (product P)
  unfolding split picks picks_of_t picks_of_u
  split_is = refl

  pub widths : (l : List (List Pick)) → All (λ ps. length (below ps) ≡ choices u_radices) l
  widths [] = none
  widths (ps ∷ l) =
      both (length-map (product Q) _ ∙ length-product unread Q ∙ ap choices (radices-picks right_pair (is_unknown (kernel t)) ts us)) (widths l)

  pub length-split : length (split k t u st) ≡ choices t_radices * choices u_radices
  length-split =
      rw split_is
      (length-flat_map below (choices u_radices) (widths (product P))
      ∙ ap (λ n. n * choices u_radices) (length-product unread P ∙ ap choices (radices-picks left_pair (is_unknown (kernel u)) us ts)))
