-- The places of values: how they are noted one after the other (`Placing`), and that terms stand there.
use Prim.Native.Nat.{ℕ, zero, suc, ◌+◌, ◌-◌, ◌<◌, ◌≤◌}
use mathlib.Core.Path.{◌≡◌, refl, ap, sym, ◌∙◌}
use mathlib.Core.List.{List, [], ◌∷◌, ◌++◌, append_assoc, append-nil}
use native.Mathlib.Omega.{arith}
use native.Mathlib.Numerals.{add-one}
use lib.ListN.{length, get_or, take, set, length-set}
use lib.Seq.{take-suc-set, take_all}
use Rattle.terms.specs.Bounds.{Bounds}
use Rattle.terms.specs.Reading.{top}
use Rattle.terms.specs.Term.{empty}
use Rattle.term_places.specs.Places.{terms_from, tree, end, Terms}
use Rattle.term_places.specs.Standing.{standing, Within}
use Rattle.holding.specs.Holding.{starts_from, Standings}
use Rattle.holding.proofs.Holds.{has_place, next-length}

-- ---- noted one after the other

pub record Placing (b : Bounds) (arities ws : List ℕ) (from : ℕ) (before starts : List ℕ) (p i : ℕ) : Type 0 where
  pub standings : Standings b arities ws from (length before)
  pub long : length starts ≡ length before
  pub so_far : starts_from b arities ws from (length before) ≡ take i starts ++ starts_from b arities ws p (length before - i)
  pub enough : length before - i ≤ length (terms_from b arities ws p)

module _ {b : Bounds} {arities ws : List ℕ} {from : ℕ} {before : List ℕ} where
  pub placing_start : Standings b arities ws from (length before) → Placing b arities ws from before before from 0
  placing_start s = let e : length before - 0 ≡ length before = omega arith in record { standings = s; long = refl; so_far = rw e; enough = rw e s.enough }

  module _ {starts : List ℕ} {p i : ℕ} (w : Placing b arities ws from before starts p i) where
    pub placing_end : length starts ≤ i → starts ≡ starts_from b arities ws from (length before)
    unfolding starts_from
    placing_end l =
        let z : length before - i ≡ 0 = let e = w.long in omega arith in
        sym (w.so_far ∙ rw (z, take_all i starts l) (append-nil starts))

    module _ (l : i < length starts) where
      pub placing_inside : Within b arities ws p
      placing_inside =
          record {
            unknowns = w.standings.unknowns;
            terms = w.standings.terms;
            inside = has_place b arities ws p (let e = w.enough in let f = w.long in omega arith);
          }

      pub placing_on : Placing b arities ws from before (set starts i p) (end b arities ws p) (i + 1)
      unfolding starts_from
      placing_on =
          let z : length before - i ≡ suc (length before - (i + 1)) = let e = w.long in omega arith in
          let t : take (i + 1) (set starts i p) ≡ take i starts ++ (p ∷ []) = rw add-one (take-suc-set starts i p l) in
          record {
            standings = w.standings;
            long = length-set starts i p ∙ w.long;
            so_far = w.so_far ∙ rw (z, t) (sym (append_assoc (take i starts) (p ∷ []) (starts_from b arities ws (end b arities ws p) (length before - (i + 1)))));
            enough = let e = w.enough in omega (arith, next-length w.standings.terms p placing_inside.inside);
          }

-- ---- what stands there

module _ {b : Bounds} {arities : List ℕ} {n : ℕ} {ws : List ℕ} (t : Terms b arities n ws) where
  pub length_starts : (p m : ℕ) → length (starts_from b arities ws p m) ≡ m
  unfolding starts_from
  length_starts p zero = refl
  length_starts p (suc m) = ap suc (length_starts (end b arities ws p) m)

  pub started_inside : (p m i : ℕ) → i < m → m ≤ length (terms_from b arities ws p) → get_or (starts_from b arities ws p m) i 0 < length ws
  unfolding starts_from
  started_inside p zero i l k = absurd (omega arith)
  started_inside p (suc m) zero l k = has_place b arities ws p (omega arith)
  started_inside p (suc m) (suc i) l k = started_inside (end b arities ws p) m i (omega arith) (omega (arith, next-length t p (has_place b arities ws p (omega arith))))

  pub started : (p m i : ℕ) → i < m → m ≤ length (terms_from b arities ws p)
      → tree b arities ws (get_or (starts_from b arities ws p m) i 0) ≡ get_or (terms_from b arities ws p) i empty
  unfolding starts_from tree top
  started p zero i l k = absurd (omega arith)
  started p (suc m) zero l k = ap top (standing t p (has_place b arities ws p (omega arith))).on ∙ sym (ap (λ ts. get_or ts 0 empty) (standing t p (has_place b arities ws p (omega arith))).on)
  started p (suc m) (suc i) l k =
      let q = has_place b arities ws p (omega arith) in
      started (end b arities ws p) m i (omega arith) (omega (arith, next-length t p q)) ∙ sym (ap (λ ts. get_or ts (suc i) empty) (standing t p q).on)
