-- Equations one after the other: what holds on the way along them (`Holds`), how each turn goes on, and what is told at the end.
use Prim.Native.Nat.{ℕ, zero, suc, ◌-◌, ◌*◌, ◌<◌, ◌≤◌}
use mathlib.Core.Path.{◌≡◌, refl, ap, ap₂, sym, ◌∙◌}
use mathlib.Core.List.{List}
use mathlib.Core.Bool.{Bool, true, false, ◌&&◌}
use native.Mathlib.Omega.{arith}
use native.Mathlib.Numerals.{sub-one}
use lib.Dec.{ltb}
use lib.ListN.{length, drop, drop_of_length-le}
use lib.Seq.{drop-drop}
use borrow.Author.Tests.{ltb-true, ltb-false}
use Rattle.terms.specs.Bounds.{Bounds}
use Rattle.terms.specs.Reading.{read, top}
use Rattle.terms.specs.Term.{Term}
use Rattle.laws.specs.Equal.{equal}
use Rattle.laws.specs.Values.{Values, value}
use Rattle.term_places.specs.Places.{terms_from, tree, end, Terms, Held, values, valued, Placed, resolved}
use Rattle.term_places.specs.Classes.{Classes, Settled, EachItsOwn, Comparing, Same}
use Rattle.term_places.specs.Opened.{resolving}
use Rattle.term_places.specs.Relabelled.{each_its_own}
use Rattle.term_places.specs.Standing.{standing}
use Rattle.term_places.specs.Since.{settled-told}
use Rattle.holding.specs.Holding.{holding, Equations}
use Rattle.settling.specs.Settling.{AllSettled}

-- ---- terms one after the other

pub has_place : (b : Bounds) (arities ws : List ℕ) (x : ℕ) → 0 < length (terms_from b arities ws x) → x < length ws
unfolding terms_from read
has_place b arities ws x l = go (ltb x (length ws)) refl
  where
    none_there : length ws ≤ x → length (read b arities (drop x ws)) ≡ 0
    none_there h = rw (drop_of_length-le ws h)

    go : (c : Bool) → ltb x (length ws) ≡ c → x < length ws
    go true e = ltb-true x (length ws) e
    go false e = absurd (omega (arith, none_there (ltb-false x (length ws) e)))

module _ {b : Bounds} {arities : List ℕ} {n : ℕ} {ws : List ℕ} (t : Terms b arities n ws) where
  pub next_terms : (x : ℕ) → x < length ws → drop 1 (terms_from b arities ws x) ≡ terms_from b arities ws (end b arities ws x)
  next_terms x l = ap (drop 1) (standing t x l).on

  pub next-length : (x : ℕ) → x < length ws → length (terms_from b arities ws x) ≡ suc (length (terms_from b arities ws (end b arities ws x)))
  next-length x l = ap length (standing t x l).on

-- ---- the equations

next-holding : (σ : Values) (m : ℕ) (ts : List Term) → 0 < m
    → holding σ m ts ≡ (equal (value σ (top ts)) (value σ (top (drop 1 ts))) && holding σ (m - 1) (drop 2 ts))
unfolding holding
next-holding σ zero ts l = absurd (omega arith)
next-holding σ (suc m) ts l = rw sub-one

pub record Holds (h : Held) (settled labels : List ℕ) (m x due : ℕ) : Type 0 where
  pub placed : Placed h
  pub classes : Classes h labels
  pub apart : Settled h settled labels
  pub so_far : holding (values h) m (terms_from h.bounds h.arities h.words 0) ≡ holding (values h) due (terms_from h.bounds h.arities h.words x)
  pub enough : 2 * due ≤ length (terms_from h.bounds h.arities h.words x)

pub holds-start : {h : Held} {settled labels : List ℕ} {m due : ℕ} → Equations h labels m → AllSettled h settled labels → due ≡ m → Holds h settled labels m 0 due
holds-start e a n = rw n (record { placed = e.placed; classes = a.classes; apart = a.apart; so_far = refl; enough = e.enough })

pub relabelled-equations : {h : Held} {before labels : List ℕ} {m : ℕ} → Equations h before m → length labels ≡ length before → Equations h labels m
relabelled-equations e l = record { placed = e.placed; enough = e.enough; long = l ∙ e.long; few = e.few }

-- an empty table settles no place
pub none_settled : {h : Held} {before labels settled : List ℕ} {m : ℕ} → Equations h before m → EachItsOwn labels → length labels ≡ length before → length settled ≡ 0 → AllSettled h settled labels
none_settled e own l z = record { classes = each_its_own (l ∙ e.long) own; apart = record { joined = λ p q i j a b s. let d = a.inside in absurd (omega arith) } }

module _ {h : Held} {settled labels : List ℕ} {m x due : ℕ} (w : Holds h settled labels m x due) where
  pub holds-end : due ≡ 0 → holding (values h) m (terms_from h.bounds h.arities h.words 0) ≡ true
  unfolding holding
  holds-end z = w.so_far ∙ rw z

  module _ (z : 0 < due) where
    pub left_in : x < length h.words
    left_in = has_place h.bounds h.arities h.words x (let e = w.enough in omega arith)

    pub right_in : end h.bounds h.arities h.words x < length h.words
    right_in = has_place h.bounds h.arities h.words _ (let e = w.enough in omega (arith, next-length w.placed.terms x left_in))

    pub holds-asks : Comparing h labels (resolved h.bounds h.words h.starts x) (resolved h.bounds h.words h.starts (end h.bounds h.arities h.words x))
    holds-asks =
        record {
          placed = w.placed;
          classes = w.classes;
          left = (resolving w.placed x left_in).known;
          right = (resolving w.placed _ right_in).known;
        }

    module _ {after : List ℕ} {r : Bool}
        (s : Same h labels after (resolved h.bounds h.words h.starts x) (resolved h.bounds h.words h.starts (end h.bounds h.arities h.words x)) r) where
      one_holds : r ≡ equal (valued h x) (valued h (end h.bounds h.arities h.words x))
      one_holds = s.told.told ∙ ap₂ equal (resolving w.placed x left_in).same (resolving w.placed _ right_in).same

      rest_terms : drop 2 (terms_from h.bounds h.arities h.words x)
          ≡ terms_from h.bounds h.arities h.words (end h.bounds h.arities h.words (end h.bounds h.arities h.words x))
      rest_terms =
          sym (drop-drop 1 1 (terms_from h.bounds h.arities h.words x)) ∙ ap (drop 1) (next_terms w.placed.terms x left_in)
          ∙ next_terms w.placed.terms _ right_in

      by_first : holding (values h) m (terms_from h.bounds h.arities h.words 0)
          ≡ (r && holding (values h) (due - 1) (terms_from h.bounds h.arities h.words (end h.bounds h.arities h.words (end h.bounds h.arities h.words x))))
      unfolding valued tree
      by_first =
          w.so_far ∙ next-holding (values h) due (terms_from h.bounds h.arities h.words x) z
          ∙ rw (next_terms w.placed.terms x left_in, rest_terms)
          (ap (λ c. c && holding (values h) (due - 1) (terms_from h.bounds h.arities h.words (end h.bounds h.arities h.words (end h.bounds h.arities h.words x)))) (sym one_holds))

      pub holds_no : r ≡ false → holding (values h) m (terms_from h.bounds h.arities h.words 0) ≡ false
      holds_no f = by_first ∙ rw f

      pub holds_on : {k : ℕ} → r ≡ true → k ≡ due - 1 → Holds h settled after m (end h.bounds h.arities h.words (end h.bounds h.arities h.words x)) k
      holds_on f n =
          rw n
          (record {
            placed = w.placed;
            classes = s.told.classes;
            apart = settled-told w.classes s.told w.apart;
            so_far = by_first ∙ rw f;
            enough = let e = w.enough in omega (arith, next-length w.placed.terms x left_in, next-length w.placed.terms _ right_in);
          })
