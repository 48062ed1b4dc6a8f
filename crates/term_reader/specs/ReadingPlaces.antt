-- Where readings go on, and where they are refused: each goes on further right, and inside the text or at its end; each refusal has one of
-- the table's first six numbers, and a place that is at most the text's length.
use Prim.Native.Nat.{ℕ, zero, suc, ◌+◌, ◌*◌, ◌≤◌, ◌<◌}
use Rattle.std.proofs.Common.{arith}
use Rattle.std.specs.Prelude.{◌≡◌, true, List, [], ◌∷◌, ◌++◌, eqb, leb, ltb, length, get_or}
use Rattle.std.proofs.Math.Path.{refl}
use borrow.Author.Tests.{eqb-true, ltb-true, ltb-false}
use Rattle.terms.specs.Bounds.{Bounds, BYTES, EMPTY, MEMBER}
use Rattle.terms.specs.Lists.{All, none, both, cases}
use Rattle.terms.specs.Refusal.{number as table_number}
use Rattle.terms.specs.declared.refusal.Cause.{Cause}
use Rattle.terms.specs.declared.refusal.Cause.TheVariants.{Byte, Number, Limit, Undeclared, Arguments, Nesting}
use Rattle.numerals.specs.TextReading.{Reading, read, fault, and_then}
use Rattle.numerals.specs.Bytes.{byte, met, meets, in_text}
use Rattle.numerals.specs.Numbers.{digit, digits, number, between}
use Rattle.items.specs.Items.{Coming, due, done, begins, symbol, name, due_member, due_tail, close_empty, an_unknown, arguments, a_functor, a_set, beginning, after, after_member, after_tail, after_argument}
use Rattle.term_reader.specs.Terms.{follow, term, list, term_step, list_step}
use Rattle.items.specs.declared.item.Item.{Item}
use Rattle.items.specs.declared.item.Item.TheVariants.{Member, Tail, Argument}

-- a reading of the text s that goes on at `low` or later with what P says, or is refused
pub data Placed (s : List ℕ) (low : ℕ) {A : Type 0} (P : A → Type 0) : Reading A → Type 0 where
  goes_on : (q : ℕ) {a : A} → low ≤ q → q ≤ length s → P a → Placed s low P (read q a)
  stops : (cause : Cause) (p : ℕ) → leb (table_number cause) 6 ≡ true → p ≤ length s → Placed s low P (fault cause p)

module _ {s : List ℕ} {A : Type 0} {P : A → Type 0} {low : ℕ} where
  pub where_on : {q : ℕ} {a : A} → Placed s low P (read q a) → (low ≤ q) × (q ≤ length s) × P a
  where_on (goes_on q l h x) = (l, h, x)

  pub sooner : {low' : ℕ} {X : Reading A} → low' ≤ low → Placed s low P X → Placed s low' P X
  sooner k (goes_on q l h x) = goes_on q (omega arith) h x
  sooner k (stops cause p e h) = stops cause p e h

  pub onward : {B : Type 0} {Q : B → Type 0} {high : ℕ} {X : Reading A} (k : ℕ → A → Reading B) → Placed s low P X
      → ((q : ℕ) (a : A) → low ≤ q → q ≤ length s → P a → Placed s high Q (k q a)) → Placed s high Q (and_then X k)
  unfolding and_then
  onward k (goes_on q {a} l h x) f = f q a l h x
  onward k (stops cause p e h) f = stops cause p e h

-- ---- bytes and numbers

abbrev pub Any : {A : Type 0} → A → Type 0
Any a = Unit {0}

pub there : (s : List ℕ) (p b : ℕ) → eqb (byte s p) b ≡ true → b < BYTES → p < length s
there s p b e h = in_text s p (omega (arith, eqb-true (byte s p) b e))

pub key_placed : {A : Type 0} (s key : List ℕ) (p : ℕ) (a : A) {P : A → Type 0} → All (λ b. b < BYTES) key → p ≤ length s → P a → Placed s p P (meets s key p a)
unfolding meets met
key_placed s [] p a none h x = goes_on p (omega arith) h x
key_placed s (b ∷ key) p a (both l ls) h x =
    cases (eqb (byte s p) b)
    (λ t. rw t (sooner (omega arith) (key_placed s key (p + 1) a ls (omega (arith, there s p b t l)) x)))
    (λ t. rw t (stops Byte p refl h))

pub digit_there : (s : List ℕ) (p : ℕ) → ltb (digit (byte s p)) 10 ≡ true → p < length s
unfolding digit
digit_there s p e =
    cases (ltb (byte s p) 58)
    (λ t. in_text s p (omega (arith, ltb-true (byte s p) 58 t)))
    (λ t.
    cases (ltb (byte s p) 48)
    (λ u. absurd (omega (arith, ltb-true (byte s p) 48 u, ltb-false (byte s p) 58 t)))
    (λ u. let z : ltb 10 10 ≡ true = rw (u, t) at e in absurd (omega (arith, ltb-true 10 10 z))))

pub digits_placed : (n : ℕ) (s : List ℕ) (from p v : ℕ) → from ≤ length s → p ≤ length s → Placed s p Any (digits n s from p v)
unfolding digits
digits_placed zero s from p v l h =
    cases (ltb (digit (byte s p)) 10) (λ t. rw t (stops Limit from refl l)) (λ t. rw t (goes_on p (omega arith) h tt))
digits_placed (suc n) s from p v l h =
    cases (ltb (digit (byte s p)) 10)
    (λ t. rw t (sooner (omega arith) (digits_placed n s from (p + 1) (v * 10 + digit (byte s p)) l (omega (arith, digit_there s p t)))))
    (λ t. rw t (goes_on p (omega arith) h tt))

pub number_placed : (s : List ℕ) (p : ℕ) → p ≤ length s → Placed s (p + 1) Any (number s p)
unfolding number
number_placed s p h =
    cases (ltb (digit (byte s p)) 10)
    (λ t.
    let i = digit_there s p t in
    cases (eqb (digit (byte s p)) 0)
    (λ z.
    cases (ltb (digit (byte s (p + 1))) 10)
    (λ u. rw (t, z, u) (stops Number p refl h))
    (λ u. rw (t, z, u) (goes_on (p + 1) (omega arith) (omega arith) tt)))
    (λ z. rw (t, z) (digits_placed 4 s p (p + 1) (digit (byte s p)) h (omega arith))))
    (λ t. rw t (stops Number p refl h))

pub between_placed : (low high : ℕ) (s : List ℕ) (p : ℕ) → p ≤ length s → Placed s (p + 1) (λ v. v ≤ high) (between low high s p)
unfolding between
between_placed low high s p h =
    onward _ (number_placed s p h)
    (λ q v l i x.
    cases (ltb v low)
    (λ t. rw t (stops Limit p refl h))
    (λ t.
    cases (ltb high v)
    (λ u. rw (t, u) (stops Limit p refl h))
    (λ u. rw (t, u) (goes_on q l i (ltb-false high v u)))))

-- ---- terms

-- an item is due only where one more bracket may be open
abbrev pub Open : Bounds → ℕ → Coming → Type 0
Open b depth (due i ws) = depth < b.nesting
Open b depth (done ws) = Unit {0}

module _ (b : Bounds) (s : List ℕ) where
  pub name_placed : (declared p n : ℕ) → p < length s → Placed s (p + 1) Any (name b s declared p n)
  unfolding name symbol
  name_placed declared p n h =
      cases (ltb n b.symbols)
      (λ t.
      rw t (onward _ (number_placed s (p + 1) (omega arith))
      (λ q i l k x. cases (ltb i declared) (λ u. rw u (goes_on q (omega arith) k tt)) (λ u. rw u (stops Undeclared p refl (omega arith))))))
      (λ t. rw t (stops Limit p refl (omega arith)))

  pub close_placed : (P : Coming → Type 0) → ((ws : List ℕ) → P (done ws)) → (p : ℕ) (ws : List ℕ) → p < length s → Placed s (p + 1) P (close_empty b p ws)
  unfolding close_empty symbol
  close_placed P f p ws h =
      cases (ltb (length ws) b.symbols)
      (λ t. rw t (goes_on (p + 1) (omega arith) (omega arith) (f (ws ++ (EMPTY ∷ [])))))
      (λ t. rw t (stops Limit p refl (omega arith)))

  pub member_placed : (P : Coming → Type 0) → ((ws : List ℕ) → P (due Member ws)) → (p : ℕ) (ws : List ℕ) → p ≤ length s → Placed s p P (due_member b s p ws)
  unfolding due_member symbol
  member_placed P f p ws h =
      cases (begins (byte s p))
      (λ e.
      cases (ltb (length ws) b.symbols)
      (λ t. rw (e, t) (goes_on p (omega arith) h (f (ws ++ (MEMBER ∷ [])))))
      (λ t. rw (e, t) (stops Limit p refl h)))
      (λ e. rw e (stops Byte p refl h))

  pub tail_placed : (p : ℕ) (ws : List ℕ) → p ≤ length s → Placed s p Any (due_tail s p ws)
  unfolding due_tail
  tail_placed p ws h =
      cases (eqb (byte s p) 123) (λ t. rw t (stops Byte p refl h)) (λ t. rw t (goes_on p (omega arith) h tt))

  module _ (unknowns : ℕ) (arities : List ℕ) (depth : ℕ) where
    pub arguments_placed : (a p : ℕ) (ws : List ℕ) → p ≤ length s → Placed s p (Open b depth) (arguments b s depth a p ws)
    unfolding arguments
    arguments_placed a p ws h =
        cases (eqb (byte s p) 40)
        (λ t.
        cases (eqb a 0)
        (λ z. rw (t, z) (stops Arguments p refl h))
        (λ z.
        cases (ltb depth b.nesting)
        (λ d. rw (t, z, d) (goes_on (p + 1) (omega arith) (omega (arith, there s p 40 t (omega arith))) (ltb-true depth b.nesting d)))
        (λ d. rw (t, z, d) (stops Nesting p refl h))))
        (λ t. cases (eqb a 0) (λ z. rw (t, z) (goes_on p (omega arith) h tt)) (λ z. rw (t, z) (stops Arguments p refl h)))

    pub set_placed : (p : ℕ) (ws : List ℕ) → p < length s → Placed s (p + 1) (Open b depth) (a_set b s depth p ws)
    unfolding a_set
    set_placed p ws h =
        cases (eqb (byte s (p + 1)) 125)
        (λ t. rw t (sooner (omega arith) (close_placed (Open b depth) (λ ws. tt) (p + 1) ws (there s (p + 1) 125 t (omega arith)))))
        (λ t.
        cases (ltb depth b.nesting)
        (λ d. rw (t, d) (member_placed (Open b depth) (λ ws. ltb-true depth b.nesting d) (p + 1) ws (omega arith)))
        (λ d. rw (t, d) (stops Nesting p refl (omega arith))))

    pub beginning_placed : (p : ℕ) (ws : List ℕ) → p ≤ length s → Placed s (p + 1) (Open b depth) (beginning b s unknowns arities depth p ws)
    unfolding beginning an_unknown a_functor
    beginning_placed p ws h =
        cases (eqb (byte s p) 120)
        (λ x. rw x (onward _ (name_placed unknowns p (length ws) (there s p 120 x (omega arith))) (λ q i l k y. goes_on q l k tt)))
        (λ x.
        cases (eqb (byte s p) 102)
        (λ f.
        rw (x, f) (onward _ (name_placed (length arities) p (length ws) (there s p 102 f (omega arith)))
        (λ q i l k y. sooner l (arguments_placed (get_or arities i 0) q (ws ++ ((b.first_functor + i) ∷ [])) k))))
        (λ f.
        cases (eqb (byte s p) 123)
        (λ o. rw (x, f, o) (set_placed p ws (there s p 123 o (omega arith))))
        (λ o. rw (x, f, o) (stops Byte p refl h))))

  pub after_placed : (i : Item) (p : ℕ) (ws : List ℕ) → p ≤ length s → Placed s (p + 1) Any (after b s i p ws)
  unfolding after after_member after_tail after_argument
  after_placed Member p ws h =
      cases (eqb (byte s p) 44)
      (λ t. rw t (member_placed Any (λ ws. tt) (p + 1) ws (omega (arith, there s p 44 t (omega arith)))))
      (λ t.
      cases (eqb (byte s p) 124)
      (λ u. rw (t, u) (tail_placed (p + 1) ws (omega (arith, there s p 124 u (omega arith)))))
      (λ u.
      cases (eqb (byte s p) 125)
      (λ v. rw (t, u, v) (close_placed Any (λ ws. tt) p ws (there s p 125 v (omega arith))))
      (λ v. rw (t, u, v) (stops Byte p refl h))))
  after_placed Tail p ws h =
      cases (eqb (byte s p) 125)
      (λ t. rw t (goes_on (p + 1) (omega arith) (omega (arith, there s p 125 t (omega arith))) tt))
      (λ t. rw t (stops Byte p refl h))
  after_placed (Argument left) p ws h =
      cases (eqb (byte s p) 44)
      (λ t.
      cases (eqb left 0)
      (λ z. rw (t, z) (stops Arguments p refl h))
      (λ z. rw (t, z) (goes_on (p + 1) (omega arith) (omega (arith, there s p 44 t (omega arith))) tt)))
      (λ t.
      cases (eqb (byte s p) 41)
      (λ u.
      cases (eqb left 0)
      (λ z. rw (t, u, z) (goes_on (p + 1) (omega arith) (omega (arith, there s p 41 u (omega arith))) tt))
      (λ z. rw (t, u, z) (stops Arguments p refl h)))
      (λ u. rw (t, u) (stops Byte p refl h)))

  module _ (unknowns : ℕ) (arities : List ℕ) where
    abbrev TermPlaced : ℕ → Type 0
    TermPlaced fuel = (depth p : ℕ) (ws : List ℕ) → p ≤ length s → Placed s (p + 1) Any (term b s unknowns arities fuel depth p ws)

    abbrev ListPlaced : ℕ → Type 0
    ListPlaced fuel = (depth : ℕ) (i : Item) (p : ℕ) (ws : List ℕ) → p ≤ length s → Placed s (p + 1) Any (list b s unknowns arities fuel depth i p ws)

    follow_placed : (fuel depth : ℕ) → ListPlaced fuel → (q : ℕ) (c : Coming) → q ≤ length s
        → Placed s q Any (follow (λ i p ws. list b s unknowns arities fuel depth i p ws) q c)
    unfolding follow
    follow_placed fuel depth L q (due i ws) h = sooner (omega arith) (L depth i q ws h)
    follow_placed fuel depth L q (done ws) h = goes_on q (omega arith) h tt

    both_placed : (fuel : ℕ) → TermPlaced fuel × ListPlaced fuel
    unfolding term list
    both_placed zero = (λ depth p ws h. stops Byte p refl h, λ depth i p ws h. stops Byte p refl h)
    both_placed (suc fuel) =
        let I = both_placed fuel in (
          λ depth p ws h.
              rw (term_step b s unknowns arities fuel depth p ws) (onward _ (beginning_placed unknowns arities depth p ws h)
              (λ q c l k x. sooner l (follow_placed fuel (depth + 1) I.1 q c k))),
          λ depth i p ws h.
              rw (list_step b s unknowns arities fuel depth i p ws) (onward _ (I.0 depth p ws h)
              (λ q vs l k x. onward _ (after_placed i q vs k)
              (λ r c m n y. sooner (omega arith) (follow_placed fuel depth I.1 r c n)))),
        )

    pub term_placed : (fuel depth p : ℕ) (ws : List ℕ) → p ≤ length s → Placed s (p + 1) Any (term b s unknowns arities fuel depth p ws)
    term_placed fuel = (both_placed fuel).0
