-- The digits of a child's number in the room: those that are written for a number, and the next ones after those that stand there.
use Rattle.std.specs.Prelude.{ℕ, zero, suc, ◌+◌, ◌*◌, ◌<◌, ◌≡◌, refl, List, [], ◌∷◌, ◌++◌, Bool, true, false, length}
use Rattle.std.proofs.Common.{ap, sym, ◌∙◌, true≢false, arith, zero-add, suc-add, zero-mul, suc-mul, add-mul, mul_assoc}
use Rattle.room.specs.Room.{seg, put, Within, length-put, put-put, put-seg, seg-append}
use Rattle.room.specs.Parts.{Apart, earlier, put_comm, seg-put}
use Rattle.search_laws.specs.ChoiceNumbers.{choices, number, Digits, no_digit, digit, choices-append, number_append, digits_append}

-- n digits of one radix
unfoldable pub copies : ℕ → ℕ → List ℕ
copies zero radix = []
copies (suc n) radix = radix ∷ copies n radix

-- where digits are written
pub record DigitParts (l : List ℕ) (n radix to : ℕ) : Type 0 where
  pub within : Within l to n
  pub positive : 0 < radix
  pub small : radix < 65536

-- and where they stand
pub record PickParts (l : List ℕ) (n radix at : ℕ) : Type 0 where
  pub within : Within l at n
  pub small : radix < 65536
  pub proper : Digits (copies n radix) (seg l at n)

-- r is r₀ with the digits of a number written, of which so much is left
pub record Decoded (r₀ : List ℕ) (to : ℕ) (rs : List ℕ) (whole left : ℕ) (r : List ℕ) : Type 0 where
  pub digits : List ℕ
  pub room : r ≡ put r₀ to digits
  pub proper : Digits rs digits
  pub value : number rs digits + left * choices rs ≡ whole

-- r is r₀ with the next digits after ds, or with the first ones where ds are the last
pub record Advanced (r₀ : List ℕ) (at : ℕ) (rs ds : List ℕ) (more : Bool) (r : List ℕ) : Type 0 where
  pub digits : List ℕ
  pub room : r ≡ put r₀ at digits
  pub proper : Digits rs digits
  pub next : more ≡ true → number rs digits ≡ suc (number rs ds)
  pub spent : more ≡ false → (number rs digits ≡ 0) × (suc (number rs ds) ≡ choices rs)

pub length-copies : (n radix : ℕ) → length (copies n radix) ≡ n
unfolding copies
length-copies zero radix = refl
length-copies (suc n) radix = ap suc (length-copies n radix)

pub length_digits : {rs ds : List ℕ} → Digits rs ds → length ds ≡ length rs
length_digits no_digit = refl
length_digits (digit h hs) = ap suc (length_digits hs)

pub copies-append : (n k radix : ℕ) → copies (n + k) radix ≡ copies n radix ++ copies k radix
unfolding copies
copies-append zero k radix = ap (λ (j : ℕ). copies j radix) (zero-add k)
copies-append (suc n) k radix = rw suc-add (ap (λ (l : List ℕ). radix ∷ l) (copies-append n k radix))

-- ---- digits of two radices, the second ones written first

both-put : (r₀ : List ℕ) (to n : ℕ) {r r' : List ℕ} (ds es : List ℕ) → length ds ≡ n → r ≡ put r₀ (to + n) es → r' ≡ put r to ds → r' ≡ put r₀ to (ds ++ es)
both-put r₀ to n ds es k e f =
    let a : Apart to (length ds) (to + n) (length es) = earlier (omega arith) in
    f ∙ ap (λ (l : List ℕ). put l to ds) e ∙ put_comm ds es r₀ a ∙ rw (← k) (put-put ds r₀ es to)

module _ {r₀ : List ℕ} {to n : ℕ} {rs qs : List ℕ} (l : length rs ≡ n) where
  pub both_decoded : {whole between left : ℕ} {r r' : List ℕ} → Decoded r₀ (to + n) qs whole between r → Decoded r to rs between left r' → Decoded r₀ to (rs ++ qs) whole left r'
  both_decoded {left = left} D E =
      let k = length_digits E.proper in
      record {
        digits = E.digits ++ D.digits;
        room = both-put r₀ to n E.digits D.digits (k ∙ l) D.room E.room;
        proper = digits_append E.proper D.proper;
        value =
            let c : left * choices (rs ++ qs) ≡ left * choices rs * choices qs = rw (choices-append rs qs) (sym (mul_assoc left (choices rs) (choices qs))) in
            let s = add-mul (number rs E.digits) (left * choices rs) (choices qs) in
            let v = ap (λ (k : ℕ). k * choices qs) E.value in
            omega (arith, number_append qs D.digits E.proper, c, s, v, D.value);
      }

  module _ {ds es : List ℕ} (P : Digits rs ds) (Q : Digits qs es) where
    -- the second digits are advanced
    pub second_advanced : {r : List ℕ} → seg r₀ to n ≡ ds → Within r₀ to n → Advanced r₀ (to + n) qs es true r → Advanced r₀ to (rs ++ qs) (ds ++ es) true r
    second_advanced {r} e w A =
        let k : length ds ≡ n = length_digits P ∙ l in
        let here : put r₀ to ds ≡ r₀ = rw (← e) (put-seg r₀ to n w) in
        record {
          digits = ds ++ A.digits;
          room = A.room ∙ ap (λ (l : List ℕ). put l (to + n) A.digits) (sym here) ∙ ap (λ (j : ℕ). put (put r₀ to ds) (to + j) A.digits) (sym k) ∙ put-put ds r₀ A.digits to;
          proper = digits_append P A.proper;
          next = λ t. omega (arith, number_append qs A.digits P, number_append qs es P, A.next refl);
          spent = λ f. absurd (true≢false f);
        }

    -- the second digits start again, the first ones are advanced or start again too
    pub first_advanced : {more : Bool} {r r' : List ℕ} → Advanced r₀ (to + n) qs es false r → Advanced r to rs ds more r' → Advanced r₀ to (rs ++ qs) (ds ++ es) more r'
    first_advanced A B =
        let k = length_digits B.proper in
        let z = A.spent refl in
        record {
          digits = B.digits ++ A.digits;
          room = both-put r₀ to n B.digits A.digits (k ∙ l) A.room B.room;
          proper = digits_append B.proper A.proper;
          next = λ t.
              let u = ap (λ (j : ℕ). j * choices qs) (B.next t) in
              omega (arith, number_append qs A.digits B.proper, number_append qs es P, z.0, z.1, suc-mul (number rs ds) (choices qs));
          spent = λ f.
              let y = B.spent f in
              let u = ap (λ (j : ℕ). j * choices qs) y.0 in
              let v = ap (λ (j : ℕ). j * choices qs) y.1 in (
                omega (arith, number_append qs A.digits B.proper, z.0, zero-mul (choices qs)),
                omega (arith, number_append qs es P, z.1, choices-append rs qs, suc-mul (number rs ds) (choices qs)),
              );
        }

-- ---- as the code calls it

module _ {r₀ : List ℕ} {n m first second at : ℕ} (P : PickParts r₀ n first at) (Q : PickParts r₀ m second (at + n)) where
  pub advanced_second : {r : List ℕ} → Advanced r₀ (at + n) (copies m second) (seg r₀ (at + n) m) true r
      → Advanced r₀ at (copies n first ++ copies m second) (seg r₀ at (n + m)) true r
  advanced_second A = rw seg-append (second_advanced (length-copies n first) P.proper Q.proper refl P.within A)

  module _ {r : List ℕ} (A : Advanced r₀ (at + n) (copies m second) (seg r₀ (at + n) m) false r) where
    same_first : seg r at n ≡ seg r₀ at n
    same_first = rw A.room (seg-put A.digits r₀ (earlier (omega arith)))

    pub first-parts : PickParts r n first at
    first-parts =
        let l : length r ≡ length r₀ = ap length A.room ∙ length-put r₀ (at + n) A.digits in
        record { within = rw l P.within; small = P.small; proper = rw same_first P.proper }

    pub advanced_first : {more : Bool} {r' : List ℕ} → Advanced r at (copies n first) (seg r at n) more r'
        → Advanced r₀ at (copies n first ++ copies m second) (seg r₀ at (n + m)) more r'
    advanced_first B = rw seg-append (first_advanced (length-copies n first) P.proper Q.proper A (rw same_first at B))
