-- The loops over a number's digits, from the last to the first: they are written, or advanced.
use Prim.Native.Nat.{ℕ, zero, suc, ◌+◌, ◌-◌, ◌*◌, ◌/◌, ◌%◌, ◌<◌, ◌≤◌}
use mathlib.Core.Path.{◌≡◌, refl, sym, ap, ◌∙◌}
use mathlib.Core.List.{List, [], ◌∷◌, ◌++◌, append_assoc, append-nil}
use mathlib.Core.Bool.{true, false, true≢false, false≢true}
use native.Mathlib.Omega.{arith}
use native.Mathlib.Nat.{zero-mul, suc-mul, mul-one, add-mul, mul_assoc, div-add-mod', mod-lt}
use lib.ListN.{length, get_or, set}
use lib.Seq.{get_or_at, take_at}
use Rattle.room.specs.Room.{seg, put, length-put, put-nil, put-put, put-seg, set-put-before, take-seg, get_or-seg}
use Rattle.room.specs.Parts.{earlier, get_or-put}
use Rattle.search_laws.specs.ChoiceNumbers.{choices, number, Digits, no_digit, digit, number_append, digits_append}
use Rattle.choices.specs.Digits.{copies, Decoded, Advanced, DigitParts, PickParts, copies-append, length-copies, length_digits}

-- the digits from place i on are written
pub record Decoding (r₀ : List ℕ) (whole n radix to : ℕ) (r : List ℕ) (left i : ℕ) : Type 0 where
  pub parts : DigitParts r₀ n radix to
  pub before : i ≤ n
  pub done : Decoded r₀ (to + i) (copies (n - i) radix) whole left r

pub record Numbers (r₀ : List ℕ) (n radix to : ℕ) (r : List ℕ) (i : ℕ) : Type 0 where
  pub within : to + n ≤ length r₀
  pub positive : 0 < radix
  pub small : radix < 65536
  pub before : i ≤ n
  pub long : length r ≡ length r₀

pub none_decoded : {r₀ : List ℕ} (whole : ℕ) {n radix to : ℕ} → DigitParts r₀ n radix to → Decoding r₀ whole n radix to r₀ whole n
unfolding copies choices number
none_decoded {r₀} whole {n} {radix} {to} P =
    let z : n - n ≡ 0 = omega arith in
    record {
      parts = P;
      before = omega arith;
      done = rw z (record {
        digits = [];
        room = sym (put-nil r₀ (to + n));
        proper = no_digit;
        value = omega (arith, mul-one whole);
      });
    }

module _ {r₀ : List ℕ} {whole n radix to : ℕ} {r : List ℕ} {left i : ℕ} (S : Decoding r₀ whole n radix to r left i) where
  pub numbers : Numbers r₀ n radix to r i
  numbers = record {
    within = S.parts.within;
    positive = S.parts.positive;
    small = S.parts.small;
    before = S.before;
    long = ap length S.done.room ∙ length-put r₀ (to + i) S.done.digits;
  }

  pub digit_decoded : 0 < i → Decoding r₀ whole n radix to (set r (to + (i - 1)) (left % radix)) (left / radix) (i - 1)
  unfolding copies choices number put
  digit_decoded z =
      let D = S.done in
      let rs : List ℕ = copies (n - i) radix in
      let k : n - (i - 1) ≡ suc (n - i) = omega (arith, S.before) in
      let next : to + i ≡ suc (to + (i - 1)) = omega arith in
      let d : ℕ = left % radix in
      let q : ℕ = left / radix in
      let e : q * radix + d ≡ left = div-add-mod' left radix in
      let a = add-mul (q * radix) d (choices rs) in
      let b = ap (λ (v : ℕ). v * choices rs) e in
      let c = mul_assoc q radix (choices rs) in
      record {
        parts = S.parts;
        before = omega (arith, S.before);
        done = rw k (record {
          digits = d ∷ D.digits;
          room = rw D.room (set-put-before D.digits r₀ (to + i) (to + (i - 1)) d (omega arith) ∙ ap (λ (j : ℕ). put (set r₀ (to + (i - 1)) d) j D.digits) next);
          proper = digit (mod-lt left S.parts.positive) D.proper;
          value = omega (arith, D.value);
        });
      }

  pub all_decoded : i ≤ 0 → Decoded r₀ to (copies n radix) whole left r
  all_decoded h =
      let e : to + i ≡ to = omega arith in
      let f : n - i ≡ n = omega arith in
      rw (e, f) at S.done

-- ---- advancing

pub first-digits : (k radix : ℕ) {ds : List ℕ} → Digits (copies k radix) ds → Digits (copies k radix) (copies k 0)
unfolding copies
first-digits zero radix h = no_digit
first-digits (suc k) radix (digit h hs) = digit {r = radix} {d = 0} (omega arith) (first-digits k radix hs)

pub first-number : (k radix : ℕ) → number (copies k radix) (copies k 0) ≡ 0
unfolding copies number
first-number zero radix = refl
first-number (suc k) radix = omega (arith, zero-mul (choices (copies k radix)), first-number k radix)

no_digits : (radix : ℕ) {ds : List ℕ} → Digits (copies 0 radix) ds → ds ≡ []
unfolding copies
no_digits radix no_digit = refl

-- the last of some digits
pub record Last (j radix : ℕ) (ds : List ℕ) : Type 0 where
  pub front : List ℕ
  pub end : ℕ
  pub cut : ds ≡ front ++ (end ∷ [])
  pub proper : Digits (copies j radix) front
  pub below : end < radix

pub last-digit : (j : ℕ) {radix : ℕ} {ds : List ℕ} → Digits (copies (suc j) radix) ds → Last j radix ds
unfolding copies
last-digit zero (digit {d = d} h no_digit) = record { front = []; end = d; cut = refl; proper = no_digit; below = h }
last-digit (suc j) (digit {d = d} h hs) =
    let L = last-digit j hs in
    record { front = d ∷ L.front; end = L.end; cut = ap (λ (l : List ℕ). d ∷ l) L.cut; proper = digit h L.proper; below = L.below }

-- the k digits from place i on were the largest, and are 0 again
pub record Advancing (r₀ : List ℕ) (n radix at : ℕ) (r : List ℕ) (i : ℕ) : Type 0 where
  pub parts : PickParts r₀ n radix at
  pub k : ℕ
  pub total : n ≡ i + k
  pub ahead : List ℕ
  pub behind : List ℕ
  pub cut : seg r₀ at n ≡ ahead ++ behind
  pub ahead_proper : Digits (copies i radix) ahead
  pub behind_proper : Digits (copies k radix) behind
  pub largest : suc (number (copies k radix) behind) ≡ choices (copies k radix)
  pub room : r ≡ put r₀ (at + i) (copies k 0)

pub none_advanced : {r₀ : List ℕ} {n radix at : ℕ} → PickParts r₀ n radix at → Advancing r₀ n radix at r₀ n
unfolding copies choices number
none_advanced {r₀} {n} {radix} {at} P = record {
  parts = P;
  k = 0;
  total = omega arith;
  ahead = seg r₀ at n;
  behind = [];
  cut = sym (append-nil (seg r₀ at n));
  ahead_proper = P.proper;
  behind_proper = no_digit;
  largest = refl;
  room = sym (put-nil r₀ (at + n));
}

pub record Counts (r₀ : List ℕ) (n radix at : ℕ) (r : List ℕ) (i : ℕ) : Type 0 where
  pub within : at + n ≤ length r₀
  pub small : radix < 65536
  pub before : i ≤ n
  pub long : length r ≡ length r₀

module _ {r₀ : List ℕ} {n radix at : ℕ} {r : List ℕ} {i : ℕ} (S : Advancing r₀ n radix at r i) where
  pub counts : Counts r₀ n radix at r i
  counts = record {
    within = S.parts.within;
    small = S.parts.small;
    before = omega (arith, S.total);
    long = ap length S.room ∙ length-put r₀ (at + i) (copies S.k 0);
  }

  pub all_advanced : i ≤ 0 → Advanced r₀ at (copies n radix) (seg r₀ at n) false r
  all_advanced h =
      let z : i ≡ 0 = omega arith in
      let e : at + 0 ≡ at = omega arith in
      let m : n ≡ S.k = omega (arith, S.total) in
      let none : S.ahead ≡ [] = no_digits radix (rw z at S.ahead_proper) in
      let c : seg r₀ at n ≡ S.behind = S.cut ∙ ap (λ (l : List ℕ). l ++ S.behind) none in
      rw (c, m) (record {
        digits = copies S.k 0;
        room = S.room ∙ ap (λ (j : ℕ). put r₀ j (copies S.k 0)) (omega arith);
        proper = first-digits S.k radix S.behind_proper;
        next = λ t. absurd (false≢true t);
        spent = λ f. (first-number S.k radix, S.largest);
      })

  module _ (z : 0 < i) where
    last : Last (i - 1) radix S.ahead
    last = let e : i ≡ suc (i - 1) = omega arith in last-digit (i - 1) (rw e at S.ahead_proper)

    abbrev front : List ℕ
    front = last.front

    abbrev end : ℕ
    end = last.end

    length_front : length front ≡ i - 1
    length_front = length_digits last.proper ∙ length-copies (i - 1) radix

    cut_here : seg r₀ at n ≡ front ++ (end ∷ S.behind)
    cut_here = S.cut ∙ ap (λ (l : List ℕ). l ++ S.behind) last.cut ∙ append_assoc front (end ∷ []) S.behind

    digit-here : get_or r (at + (i - 1)) 0 ≡ end
    digit-here =
        rw S.room (get_or-put (copies S.k 0) r₀ (earlier (omega arith)))
        ∙ sym (get_or-seg r₀ at n (i - 1) (omega (arith, S.total)))
        ∙ rw cut_here (get_or_at front end S.behind 0 (i - 1) length_front)

    stored : (v : ℕ) → set r (at + (i - 1)) v ≡ put r₀ (at + (i - 1)) (v ∷ copies S.k 0)
    unfolding put
    stored v =
        let next : at + i ≡ suc (at + (i - 1)) = omega arith in
        ap (λ (l : List ℕ). set l (at + (i - 1)) v) S.room
        ∙ set-put-before (copies S.k 0) r₀ (at + i) (at + (i - 1)) v (omega arith)
        ∙ ap (λ (m : ℕ). put (set r₀ (at + (i - 1)) v) m (copies S.k 0)) next

    front_there : put r₀ at front ≡ r₀
    front_there =
        let t : seg r₀ at (i - 1) ≡ front = sym (take-seg r₀ at n (i - 1) (omega (arith, S.total))) ∙ rw cut_here (take_at front (end ∷ S.behind) (i - 1) length_front) in
        rw (← t) (put-seg r₀ at (i - 1) (omega (arith, S.total, S.parts.within)))

    whole_stored : (v : ℕ) → set r (at + (i - 1)) v ≡ put r₀ at (front ++ (v ∷ copies S.k 0))
    whole_stored v =
        stored v
        ∙ ap (λ (l : List ℕ). put l (at + (i - 1)) (v ∷ copies S.k 0)) (sym front_there)
        ∙ ap (λ (m : ℕ). put (put r₀ at front) (at + m) (v ∷ copies S.k 0)) (sym length_front)
        ∙ put-put front r₀ (v ∷ copies S.k 0) at

    -- the digit p there is below its radix
    pub digit-below : (p : ℕ) → p ≡ get_or r (at + (i - 1)) 0 → p < radix
    digit-below p e = omega (arith, digit-here, last.below)

    pub digit_advanced : (p : ℕ) → p ≡ get_or r (at + (i - 1)) 0 → p + 1 < radix → Advanced r₀ at (copies n radix) (seg r₀ at n) true (set r (at + (i - 1)) (p + 1))
    unfolding copies number choices
    digit_advanced p q h =
        let d : p + 1 ≡ suc end = omega (arith, digit-here) in
        let m : n ≡ i - 1 + suc S.k = omega (arith, S.total) in
        let rs : copies n radix ≡ copies (i - 1) radix ++ (radix ∷ copies S.k radix) = ap (λ (j : ℕ). copies j radix) m ∙ copies-append (i - 1) (suc S.k) radix in
        let C : ℕ = choices (copies S.k radix) in
        rw (d, rs, cut_here) (record {
          digits = front ++ (suc end ∷ copies S.k 0);
          room = whole_stored (suc end);
          proper = digits_append last.proper (digit {r = radix} {d = suc end} (omega arith) (first-digits S.k radix S.behind_proper));
          next = λ t.
              omega (arith, number_append (radix ∷ copies S.k radix) (suc end ∷ copies S.k 0) last.proper, number_append (radix ∷ copies S.k radix) (end ∷ S.behind) last.proper, first-number S.k radix, S.largest, suc-mul end C);
          spent = λ f. absurd (true≢false f);
        })

    pub digit-again : (p : ℕ) → p ≡ get_or r (at + (i - 1)) 0 → radix ≤ p + 1 → Advancing r₀ n radix at (set r (at + (i - 1)) 0) (i - 1)
    unfolding copies number choices
    digit-again p q h =
        let e : suc end ≡ radix = omega (arith, digit-here, last.below) in
        let C : ℕ = choices (copies S.k radix) in
        let r = ap (λ (v : ℕ). v * C) e in
        record {
          parts = S.parts;
          k = suc S.k;
          total = omega (arith, S.total);
          ahead = front;
          behind = end ∷ S.behind;
          cut = cut_here;
          ahead_proper = last.proper;
          behind_proper = digit last.below S.behind_proper;
          largest = omega (arith, S.largest, suc-mul end C);
          room = stored 0;
        }
