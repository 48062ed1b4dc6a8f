-- The choices of a product of lists by number: digits in a mixed radix, the first slowest. A choice's number tells how many stand before it, so
-- a loop that counts a number up, or advances its digits, goes through the product in order.
use Prim.Native.Nat.{ℕ, zero, suc, ◌+◌, ◌*◌, ◌≤◌, ◌<◌}
use Rattle.std.specs.Prelude.{◌≡◌}
use Rattle.std.proofs.Math.Path.{refl, sym, ap}
use Rattle.std.proofs.Common.{◌∙◌, drop-drop, get_or-drop, arith, one-mul, add-mul, mul_assoc, mul-le-mul_right}
use mathlib.Core.List.{List, [], ◌∷◌, ◌++◌, map, flat_map}
use Rattle.std.proofs.Math.ListN.{length, drop, get_or, length-append}
use Rattle.std.proofs.lemmas.List.{length-map, drop-append-le}
use Rattle.std.proofs.Math.Seq.{drop-append-add}
use Rattle.std.proofs.Math.Nat.{zero-mul, suc-mul}
use Rattle.terms.specs.Lists.{All, none, both, product}

-- ---- a list from a place on

module _ {A : Type 0} where
  -- what stands at the place, and the rest from the next place on
  pub drop-next : (c : ℕ) (l : List A) (y : A) (t : List A) → drop c l ≡ y ∷ t → drop (suc c) l ≡ t
  drop-next c l y t e =
      let one : suc c ≡ c + 1 = omega arith in
      ap (λ n. drop n l) one ∙ sym (drop-drop 1 c l) ∙ ap (drop 1) e

  pub get_or-first : (c : ℕ) (l : List A) (d y : A) (t : List A) → drop c l ≡ y ∷ t → get_or l c d ≡ y
  get_or-first c l d y t e =
      let z : c + 0 ≡ c = omega arith in
      ap (λ n. get_or l n d) (sym z) ∙ sym (get_or-drop c l 0 d) ∙ ap (λ r. get_or r 0 d) e

module _ {A B : Type 0} where
  pub drop-map : (f : A → B) (c : ℕ) (l : List A) → drop c (map f l) ≡ map f (drop c l)
  drop-map f zero l = refl
  drop-map f (suc c) [] = refl
  drop-map f (suc c) (x ∷ l) = drop-map f c l

  -- parts of one length n: place i * n + k is place k of part i
  pub drop-flat_map : (f : A → List B) (n : ℕ) (d : A) {l : List A} → All (λ x. length (f x) ≡ n) l → (i k : ℕ) → i < length l → k ≤ n
      → drop (i * n + k) (flat_map f l) ≡ drop k (f (get_or l i d)) ++ flat_map f (drop (suc i) l)
  unfolding flat_map
  drop-flat_map f n d none i k h m = absurd (omega arith)
  drop-flat_map f n d (both {x = x} {xs = l} e es) zero k h m =
      let z : zero * n + k ≡ k = omega (arith, zero-mul n) in
      rw z (drop-append-le k (f x) (flat_map f l) (omega arith))
  drop-flat_map f n d (both {x = x} {xs = l} e es) (suc i) k h m =
      let z : suc i * n + k ≡ length (f x) + (i * n + k) = omega (arith, suc-mul i n) in
      rw (z, drop-append-add) (drop-flat_map f n d es i k (omega arith) m)

  pub length-flat_map : (f : A → List B) (n : ℕ) {l : List A} → All (λ x. length (f x) ≡ n) l → length (flat_map f l) ≡ length l * n
  unfolding flat_map
  length-flat_map f n none = sym (zero-mul n)
  length-flat_map f n (both {x = x} {xs = l} e es) = omega (arith, length-append (f x) (flat_map f l), length-flat_map f n es, suc-mul (length l) n)

-- ---- digits

-- how many choices there are
unfoldable pub choices : List ℕ → ℕ
choices [] = 1
choices (r ∷ rs) = r * choices rs

-- the number of these digits in these radices
unfoldable pub number : List ℕ → List ℕ → ℕ
number [] ds = 0
number (r ∷ rs) [] = 0
number (r ∷ rs) (d ∷ ds) = d * choices rs + number rs ds

-- as many digits as radices, each below its own
pub data Digits : List ℕ → List ℕ → Type 0 where
  no_digit : Digits [] []
  digit : {r d : ℕ} {rs ds : List ℕ} → d < r → Digits rs ds → Digits (r ∷ rs) (d ∷ ds)

pub number-below : {rs ds : List ℕ} → Digits rs ds → number rs ds < choices rs
unfolding number choices
number-below no_digit = omega arith
number-below (digit {r = r} {d = d} {rs = rs} h ds) = omega (arith, number-below ds, suc-mul d (choices rs), mul-le-mul_right (choices rs) h)

-- ---- the product of lists

module _ {A : Type 0} (d : A) where
  -- one of each list, by its digit
  unfoldable pub chosen : List (List A) → List ℕ → List A
  chosen [] is = []
  chosen (xs ∷ xss) [] = []
  chosen (xs ∷ xss) (i ∷ is) = get_or xs i d ∷ chosen xss is

  unfoldable pub radices : List (List A) → List ℕ
  radices [] = []
  radices (xs ∷ xss) = length xs ∷ radices xss

  fronts : (xss : List (List A)) (n : ℕ) → length (product xss) ≡ n → (xs : List A) → All (λ x. length (map (λ l. x ∷ l) (product xss)) ≡ n) xs
  fronts xss n e [] = none
  fronts xss n e (x ∷ xs) = both (length-map (product xss) (λ l. x ∷ l) ∙ e) (fronts xss n e xs)

  pub length-product : (xss : List (List A)) → length (product xss) ≡ choices (radices xss)
  unfolding product choices radices
  length-product [] = refl
  length-product (xs ∷ xss) = length-flat_map (λ x. map (λ l. x ∷ l) (product xss)) _ (fronts xss _ (length-product xss) xs)

  found : (xss : List (List A)) {is : List ℕ} → Digits (radices xss) is
      → (t : List (List A)) × (drop (number (radices xss) is) (product xss) ≡ chosen xss is ∷ t)
  unfolding product number radices chosen
  found [] no_digit = ([], refl)
  found (xs ∷ xss) (digit {d = i} {ds = is} h hs) =
      let p = found xss hs in
      let k : ℕ = number (radices xss) is in
      let x : A = get_or xs i d in
      let f : A → List (List A) = λ y. map (λ l. y ∷ l) (product xss) in
      let part : drop (i * choices (radices xss) + k) (flat_map f xs) ≡ drop k (f x) ++ flat_map f (drop (suc i) xs) =
      drop-flat_map f (choices (radices xss)) d (fronts xss _ (length-product xss) xs) i k h (omega (arith, number-below hs)) in
      let inner : drop k (f x) ≡ map (λ l. x ∷ l) (chosen xss is ∷ p.0) =
      drop-map (λ l. x ∷ l) k (product xss) ∙ ap (map (λ l. x ∷ l)) p.1 in
      (map (λ l. x ∷ l) p.0 ++ flat_map f (drop (suc i) xs), part ∙ ap (λ l. l ++ flat_map f (drop (suc i) xs)) inner)

  -- the choice of a number's digits stands at that place
  pub drop-product : (xss : List (List A)) {is : List ℕ} → Digits (radices xss) is
      → drop (number (radices xss) is) (product xss) ≡ chosen xss is ∷ drop (suc (number (radices xss) is)) (product xss)
  drop-product xss {is} h = let p = found xss h in p.1 ∙ ap (λ t. chosen xss is ∷ t) (sym (drop-next (number (radices xss) is) (product xss) (chosen xss is) p.0 p.1))

-- ---- digits one after the other, and the next choice

pub choices-append : (rs qs : List ℕ) → choices (rs ++ qs) ≡ choices rs * choices qs
unfolding choices
choices-append [] qs = sym (one-mul (choices qs))
choices-append (r ∷ rs) qs = rw (choices-append rs qs) (sym (mul_assoc r (choices rs) (choices qs)))

pub number_append : {rs ds : List ℕ} (qs es : List ℕ) → Digits rs ds → number (rs ++ qs) (ds ++ es) ≡ number rs ds * choices qs + number qs es
unfolding number
number_append qs es no_digit = omega (arith, zero-mul (choices qs))
number_append qs es (digit {d = d} {rs = rs} {ds = ds} h hs) =
    let e : d * choices (rs ++ qs) ≡ d * choices rs * choices qs = rw (choices-append rs qs) (sym (mul_assoc d (choices rs) (choices qs))) in
    omega (arith, number_append qs es hs, e, add-mul (d * choices rs) (number rs ds) (choices qs))

pub digits_append : {rs ds qs es : List ℕ} → Digits rs ds → Digits qs es → Digits (rs ++ qs) (ds ++ es)
digits_append no_digit k = k
digits_append (digit h hs) k = digit h (digits_append hs k)
