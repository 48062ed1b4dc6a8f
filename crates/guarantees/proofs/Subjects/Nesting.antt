-- The writer's bracket depths and the nesting of SPECIFICATION 1.4 agree: no bracket of a term stands deeper than a limit exactly if the term nests within it. So refusal 6
-- is told exactly of what nests too deep. And `nesting` is the sentence of SPECIFICATION 1.4.
use Rattle.std.specs.Prelude.{ℕ, suc, ◌+◌, ◌≤◌, max, ◌≡◌, ◌↔◌, ltb}
use Rattle.std.proofs.Math.Path.{refl}
use Rattle.std.proofs.Common.{ap, arith, ltb-false, le-ltb}
use mathlib.Core.List.{List, [], ◌∷◌, ◌++◌, map}
use Rattle.terms.specs.Bounds.{edition_one, NESTING}
use Rattle.terms.specs.Lists.{All, none, both, cases, All-append, All-front, All-back, All-first, All-rest}
use Rattle.terms.specs.Term.{Term, Terms, unknown, empty, with, functor, more, members, kernel, list, nesting, inside, bracketed, deepest}
use Rattle.terms.specs.Term as term
use Rattle.terms.specs.Formed.{Question}
use Rattle.terms.specs.Answers.{Binding}
use Rattle.word_writer.specs.Depths.{depths, rest_depths, argument_depths, further_depths, row_depths, all_within, first_at, found, first_above}
use Rattle.lines.specs.ListLines.{binding_depths, list_depths}
use Rattle.writer.specs.Written.{too_deep_in, too_deep_in_list}
use Rattle.guarantees.specs.Notions.{largest, NestsWithin}
use Rattle.guarantees.proofs.Subjects.{impossible}

module _ (most : ℕ) where
  abbrev Low : List ℕ → Type 0
  Low ds = All (λ d. d ≤ most) ds

  -- ---- a term: n brackets are open before it

  mutual
    unfolding depths nesting

    low_nests : (n : ℕ) (t : Term) → n ≤ most → Low (depths n t) → n + nesting t ≤ most
    low_nests n (unknown i) h low = omega arith
    low_nests n empty h low = omega arith
    low_nests n (with m r) h low =
        let opened = All-first low in
        let member = low_nests (suc n) m opened (All-front (depths (suc n) m) _ (All-rest low)) in
        let rest = low_inside (suc n) r opened (All-back (depths (suc n) m) _ (All-rest low)) in
        omega arith
    low_nests n (functor k ts) h low = low_bracketed n ts h low

    low_inside : (n : ℕ) (t : Term) → n ≤ most → Low (rest_depths n t) → n + inside t ≤ most
    low_inside n (unknown i) h low = omega arith
    low_inside n empty h low = omega arith
    low_inside n (with m r) h low =
        let member = low_nests n m h (All-front (depths n m) _ (All-rest low)) in
        let rest = low_inside n r h (All-back (depths n m) _ (All-rest low)) in
        omega arith
    low_inside n (functor k ts) h low = low_bracketed n ts h low

    low_bracketed : (n : ℕ) (ts : Terms) → n ≤ most → Low (argument_depths n ts) → n + bracketed ts ≤ most
    low_bracketed n term.none h low = omega arith
    low_bracketed n (more t ts) h low =
        let opened = All-first low in
        let argument = low_nests (suc n) t opened (All-front (depths (suc n) t) _ (All-rest low)) in
        let others = low_deepest (suc n) ts opened (All-back (depths (suc n) t) _ (All-rest low)) in
        omega arith

    low_deepest : (n : ℕ) (ts : Terms) → n ≤ most → Low (further_depths n ts) → n + deepest ts ≤ most
    low_deepest n term.none h low = omega arith
    low_deepest n (more t ts) h low =
        let argument = low_nests n t h (All-front (depths n t) _ low) in
        let others = low_deepest n ts h (All-back (depths n t) _ low) in
        omega arith

  mutual
    unfolding depths nesting

    nests_low : (n : ℕ) (t : Term) → n + nesting t ≤ most → Low (depths n t)
    nests_low n (unknown i) h = both {x = 0} (omega arith) none
    nests_low n empty h = both {x = 0} (omega arith) none
    nests_low n (with m r) h = both {x = suc n} (omega arith) (All-append (nests_low (suc n) m (omega arith)) (inside_low (suc n) r (omega arith)))
    nests_low n (functor k ts) h = bracketed_low n ts h

    inside_low : (n : ℕ) (t : Term) → n + inside t ≤ most → Low (rest_depths n t)
    inside_low n (unknown i) h = both {x = 0} (omega arith) none
    inside_low n empty h = both {x = 0} (omega arith) none
    inside_low n (with m r) h = both {x = 0} (omega arith) (All-append (nests_low n m (omega arith)) (inside_low n r (omega arith)))
    inside_low n (functor k ts) h = bracketed_low n ts h

    bracketed_low : (n : ℕ) (ts : Terms) → n + bracketed ts ≤ most → Low (argument_depths n ts)
    bracketed_low n term.none h = both {x = 0} (omega arith) none
    bracketed_low n (more t ts) h = both {x = suc n} (omega arith) (All-append (nests_low (suc n) t (omega arith)) (deepest_low (suc n) ts (omega arith)))

    deepest_low : (n : ℕ) (ts : Terms) → n + deepest ts ≤ most → Low (further_depths n ts)
    deepest_low n term.none h = none
    deepest_low n (more t ts) h = All-append (nests_low n t (omega arith)) (deepest_low n ts (omega arith))

  -- ---- terms in a row, and the values of a list of answers

  term_nests : (t : Term) → Low (depths 0 t) → nesting t ≤ most
  term_nests t low = omega (arith, low_nests 0 t (omega arith) low)

  term_low : (t : Term) → nesting t ≤ most → Low (depths 0 t)
  term_low t h = nests_low 0 t (omega arith)

  row_nests : (ts : List Term) → Low (row_depths ts) → All (λ t. nesting t ≤ most) ts
  unfolding row_depths
  row_nests [] low = none
  row_nests (t ∷ ts) low = both (term_nests t (All-front (depths 0 t) _ low)) (row_nests ts (All-back (depths 0 t) _ low))

  row_low : {ts : List Term} → All (λ t. nesting t ≤ most) ts → Low (row_depths ts)
  unfolding row_depths
  row_low none = none
  row_low (both {x = t} h hs) = All-append (term_low t h) (row_low hs)

  abbrev ValuesNest : List Binding → Type 0
  ValuesNest bs = All (λ b. nesting b.value ≤ most) bs

  bindings_nest : (bs : List Binding) → Low (binding_depths bs) → ValuesNest bs
  unfolding binding_depths
  bindings_nest [] low = none
  bindings_nest (b ∷ bs) low =
      let rest = All-rest low in
      both (term_nests b.value (All-front (depths 0 b.value) _ rest)) (bindings_nest bs (All-back (depths 0 b.value) _ rest))

  bindings_low : {bs : List Binding} → ValuesNest bs → Low (binding_depths bs)
  unfolding binding_depths
  bindings_low none = none
  bindings_low (both {x = b} h hs) = both {x = 0} (omega arith) (All-append (term_low b.value h) (bindings_low hs))

  list_nests : (l : List (List Binding)) → Low (list_depths l) → All ValuesNest l
  unfolding list_depths
  list_nests [] low = none
  list_nests (bs ∷ l) low = let rest = All-rest low in both (bindings_nest bs (All-front (binding_depths bs) _ rest)) (list_nests l (All-back (binding_depths bs) _ rest))

  list_low : {l : List (List Binding)} → All ValuesNest l → Low (list_depths l)
  unfolding list_depths
  list_low none = none
  list_low (both h hs) = both {x = 0} (omega arith) (All-append (bindings_low h) (list_low hs))

  -- ---- the first that stands too deep

  low_within : (p : ℕ) {ds : List ℕ} → Low ds → first_above most p ds ≡ all_within
  unfolding first_above found
  low_within p none = refl
  low_within p (both {x = d} h hs) = rw (le-ltb most d h) (low_within (p + 1) hs)

  within_low : (p : ℕ) (ds : List ℕ) → first_above most p ds ≡ all_within → Low ds
  unfolding first_above found
  within_low p [] e = none
  within_low p (d ∷ ds) e =
      cases (ltb most d)
      (λ t. let place : first_at p ≡ all_within = rw t at e in impossible (cc))
      (λ f. both (ltb-false most d f) (within_low (p + 1) ds (rw f at e)))

pub question_nests : (g : Question) → (too_deep_in edition_one g ≡ all_within) ↔ NestsWithin NESTING g
unfolding too_deep_in edition_one
question_nests g = (λ e. row_nests NESTING _ (within_low NESTING 0 _ e), λ h. low_within NESTING 0 (row_low NESTING h))

pub answers_nest : (l : List (List Binding)) → (too_deep_in_list edition_one l ≡ all_within) ↔ All (All (λ b. nesting b.value ≤ NESTING)) l
unfolding too_deep_in_list edition_one
answers_nest l = (λ e. list_nests NESTING l (within_low NESTING 0 _ e), λ h. low_within NESTING 0 (list_low NESTING h))

-- ---- the sentence of SPECIFICATION 1.4

inside_is : (t : Term) → inside t ≡ largest (map nesting (members t ++ (kernel t ∷ [])))
unfolding nesting members kernel largest
inside_is (unknown i) = omega arith
inside_is empty = omega arith
inside_is (with m r) = ap (max (nesting m)) (inside_is r)
inside_is (functor k ts) = omega arith

deepest_is : (ts : Terms) → deepest ts ≡ largest (map nesting (list ts))
unfolding nesting list largest
deepest_is term.none = refl
deepest_is (more t ts) = ap (max (nesting t)) (deepest_is ts)

pub set_nests : (m r : Term) → nesting (with m r) ≡ suc (largest (map nesting (members (with m r) ++ (kernel (with m r) ∷ []))))
unfolding nesting members kernel largest
set_nests m r = ap (λ n. suc (max (nesting m) n)) (inside_is r)

pub functor_nests : (k : ℕ) (t : Term) (ts : Terms) → nesting (functor k (more t ts)) ≡ suc (largest (map nesting (list (more t ts))))
unfolding nesting list largest
functor_nests k t ts = ap (λ n. suc (max (nesting t) n)) (deepest_is ts)
