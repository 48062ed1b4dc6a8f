-- What was read is what was written there: the text between two places, for bytes, keys and numbers.
use Rattle.std.specs.Prelude.{ℕ, zero, suc, ◌+◌, ◌*◌, ◌/◌, ◌%◌, ◌≤◌, ◌<◌, ◌≡◌, refl, true, false, List, [], ◌∷◌, ◌++◌, eqb, ltb, length, drop}
use Rattle.std.proofs.Common.{div-add-mod', add-one, arith, sym, ap, ◌∙◌, append_assoc, eqb-true, ltb-true, ltb-false, drop-cons}
use Rattle.std.proofs.lemmas.Bool.{eqb-false}
use Rattle.terms.specs.Lists.{All, none, both, cases}
use Rattle.terms.specs.declared.refusal.Refusal.{Refusal}
use Rattle.terms.specs.Bounds.{BYTES}
use Rattle.text.specs.Text.{decimal}
use Rattle.text.specs.Decimal.{last-digit, decimal_digit, decimal-more}
use Rattle.numerals.specs.TextReading.{Reading, read, refused, and_then}
use Rattle.numerals.specs.Bytes.{byte, byte_in, in_text, met, meets}
use Rattle.numerals.specs.Numbers.{digit, digits, number, between}

-- what a reading holds, if it was not refused
pub data Holds {A : Type 0} (P : ℕ → A → Type 0) : Reading A → Type 0 where
  goes : {q : ℕ} {a : A} → P q a → Holds P (read q a)
  stops : {r : Refusal} → Holds P (refused r)

pub told : {A : Type 0} {P : ℕ → A → Type 0} {q : ℕ} {a : A} → Holds P (read q a) → P q a
told (goes h) = h

pub holds_then : {A B : Type 0} {P : ℕ → A → Type 0} {Q : ℕ → B → Type 0} {X : Reading A} (k : ℕ → A → Reading B) → Holds P X
    → ((q : ℕ) (a : A) → P q a → Holds Q (k q a)) → Holds Q (and_then X k)
unfolding and_then
holds_then k (goes {q} {a} h) f = f q a h
holds_then k stops f = stops

pub holds-map : {A : Type 0} {P Q : ℕ → A → Type 0} {X : Reading A} → Holds P X → ((q : ℕ) (a : A) → P q a → Q q a) → Holds Q X
holds-map (goes {q} {a} h) f = goes (f q a h)
holds-map stops f = stops

pub holds-both : {A : Type 0} {P Q : ℕ → A → Type 0} {X : Reading A} → Holds P X → Holds Q X → Holds (λ q a. P q a × Q q a) X
holds-both (goes h) (goes k) = goes (h, k)
holds-both stops k = stops

-- one byte
pub one_byte : (s : List ℕ) (p x : ℕ) → byte s p ≡ x → x < BYTES → drop p s ≡ x ∷ drop (p + 1) s
one_byte s p x e h =
    let i : p < length s = in_text s p (omega arith) in
    rw (drop-cons s p 0 i, ← byte_in s p i, e, add-one p)

pub one_test : (s : List ℕ) (p x : ℕ) → eqb (byte s p) x ≡ true → x < BYTES → drop p s ≡ x ∷ drop (p + 1) s
one_test s p x e h = one_byte s p x (eqb-true (byte s p) x e) h

pub join : (s w v : List ℕ) (p q r : ℕ) → drop p s ≡ w ++ drop q s → drop q s ≡ v ++ drop r s → drop p s ≡ (w ++ v) ++ drop r s
join s w v p q r e f = e ∙ ap (λ (l : List ℕ). w ++ l) f ∙ sym (append_assoc w v (drop r s))

pub key_holds : {A : Type 0} (s key : List ℕ) (p : ℕ) (a : A) → All (λ b. b < BYTES) key → Holds (λ q x. (drop p s ≡ key ++ drop q s) × (x ≡ a)) (meets s key p a)
unfolding meets met
key_holds s [] p a none = goes (refl, refl)
key_holds s (b ∷ key) p a (both l ls) =
    cases (eqb (byte s p) b)
    (λ t. rw t (holds-map (key_holds s key (p + 1) a ls) (λ q x h. (one_test s p b t l ∙ ap (λ (l : List ℕ). b ∷ l) h.0, h.1))))
    (λ t. rw t stops)

-- ---- numbers

digit-byte : (b : ℕ) → ltb (digit b) 10 ≡ true → b ≡ 48 + digit b
unfolding digit
digit-byte b e =
    cases (ltb b 48)
    (λ t. let z : ltb 10 10 ≡ true = rw t at e in absurd (omega (arith, ltb-true 10 10 z)))
    (λ t.
    cases (ltb b 58)
    (λ u. rw (t, u) (omega (arith, ltb-false b 48 t)))
    (λ u. let z : ltb 10 10 ≡ true = rw (t, u) at e in absurd (omega (arith, ltb-true 10 10 z))))

digit_stands : (s : List ℕ) (p : ℕ) → ltb (digit (byte s p)) 10 ≡ true → drop p s ≡ (48 + digit (byte s p)) ∷ drop (p + 1) s
digit_stands s p t = one_byte s p (48 + digit (byte s p)) (digit-byte (byte s p) t) (omega (arith, ltb-true (digit (byte s p)) 10 t))

decimal-next : (v d : ℕ) → 0 < v → d < 10 → decimal (v * 10 + d) ≡ decimal v ++ ((48 + d) ∷ [])
decimal-next v d h l =
    let x = div-add-mod' (v * 10 + d) 10 in
    let y = last-digit (v * 10 + d) in
    let q : (v * 10 + d) / 10 ≡ v = omega arith in
    let r : (v * 10 + d) % 10 ≡ d = omega arith in
    decimal-more (v * 10 + d) (omega arith) ∙ rw (q, r)

digits_hold : (n : ℕ) (s : List ℕ) (from p v : ℕ) → 0 < v → drop from s ≡ decimal v ++ drop p s → Holds (λ q w. drop from s ≡ decimal w ++ drop q s) (digits n s from p v)
unfolding digits
digits_hold zero s from p v h e = cases (ltb (digit (byte s p)) 10) (λ t. rw t stops) (λ t. rw t (goes e))
digits_hold (suc n) s from p v h e =
    cases (ltb (digit (byte s p)) 10)
    (λ t.
    let d : ℕ = digit (byte s p) in
    rw t (digits_hold n s from (p + 1) (v * 10 + d) (omega arith)
    (rw (decimal-next v d h (ltb-true d 10 t)) (join s (decimal v) ((48 + d) ∷ []) from p (p + 1) e (digit_stands s p t)))))
    (λ t. rw t (goes e))

zero_stands : (s : List ℕ) (p : ℕ) → ltb (digit (byte s p)) 10 ≡ true → digit (byte s p) ≡ 0 → drop p s ≡ decimal 0 ++ drop (p + 1) s
zero_stands s p t y = rw (decimal_digit 0 (omega arith)) (digit_stands s p t ∙ ap (λ (d : ℕ). (48 + d) ∷ drop (p + 1) s) y)

pub number-holds : (s : List ℕ) (p : ℕ) → Holds (λ q v. drop p s ≡ decimal v ++ drop q s) (number s p)
unfolding number
number-holds s p =
    cases (ltb (digit (byte s p)) 10)
    (λ t.
    let d : ℕ = digit (byte s p) in
    let e = digit_stands s p t in
    let one : decimal d ≡ (48 + d) ∷ [] = decimal_digit d (ltb-true d 10 t) in
    cases (eqb d 0)
    (λ z.
    let y : d ≡ 0 = eqb-true d 0 z in
    cases (ltb (digit (byte s (p + 1))) 10)
    (λ u. rw (t, z, u) stops)
    (λ u. rw (t, z, u) (goes {q = p + 1} {a = 0} (zero_stands s p t y))))
    (λ z. rw (t, z) (digits_hold 4 s p (p + 1) d (nonzero d z) (rw one e))))
    (λ t. rw t stops)
  where
    nonzero : (d : ℕ) → eqb d 0 ≡ false → 0 < d
    nonzero d z = cases (ltb 0 d) (λ t. ltb-true 0 d t) (λ t. absurd (eqb-false d 0 z (omega (arith, ltb-false 0 d t))))

pub between-holds : (low high : ℕ) (s : List ℕ) (p : ℕ) → Holds (λ q v. (drop p s ≡ decimal v ++ drop q s) × (low ≤ v) × (v ≤ high)) (between low high s p)
unfolding between
between-holds low high s p =
    holds_then _ (number-holds s p)
    (λ q v e.
    cases (ltb v low)
    (λ t. rw t stops)
    (λ t. cases (ltb high v) (λ u. rw (t, u) stops) (λ u. rw (t, u) (goes (e, ltb-false v low t, ltb-false high v u)))))
