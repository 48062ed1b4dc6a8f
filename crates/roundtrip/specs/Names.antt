-- How a written term begins: what its first byte is, what may follow it, and how its name is read.
use Prim.Native.Nat.{ℕ, suc, ◌+◌, ◌≤◌, ◌<◌}
use native.Mathlib.Omega.{arith}
use Rattle.std.specs.Prelude.{◌≡◌, true, false, List, [], ◌∷◌, ◌++◌, eqb, drop, get_or}
use Rattle.std.proofs.Common.{◌∙◌, lt-ltb}
use Rattle.std.proofs.Math.ListN.{length}
use Rattle.terms.specs.Bounds.{Bounds}
use Rattle.terms.specs.Term.{Term, Terms, unknown, empty, with, functor, none, more}
use Rattle.text.specs.Text.{decimal, unknown_name, functor_name, text, after_member, arguments, after_argument}
use Rattle.numerals.specs.TextReading.{read, then-read}
use Rattle.numerals.specs.Bytes.{byte}
use Rattle.items.specs.Items.{done, begins, symbol, name, an_unknown, a_functor, beginning}
use Rattle.items.specs.Items as items
use Rattle.roundtrip.specs.Suffix.{first_byte, after-byte}
use Rattle.roundtrip.specs.Decimals.{Ends, other, early, number_read}

-- what follows a term: a comma, a bar, a closing bracket or LF
pub data Closed : List ℕ → Type 0 where
  comma : {r : List ℕ} → Closed (44 ∷ r)
  bar : {r : List ℕ} → Closed (124 ∷ r)
  set_close : {r : List ℕ} → Closed (125 ∷ r)
  arguments_close : {r : List ℕ} → Closed (41 ∷ r)
  line_end : {r : List ℕ} → Closed (10 ∷ r)

pub closed-ends : {r : List ℕ} → Closed r → Ends r
closed-ends comma = early {b = 44} (omega arith)
closed-ends bar = other {b = 124} (omega arith)
closed-ends set_close = other {b = 125} (omega arith)
closed-ends arguments_close = early {b = 41} (omega arith)
closed-ends line_end = early {b = 10} (omega arith)

pub closed-bracket : {r : List ℕ} (s : List ℕ) (p : ℕ) → Closed r → drop p s ≡ r → eqb (byte s p) 40 ≡ false
closed-bracket s p (comma {r}) e = rw (first_byte s p 44 r e)
closed-bracket s p (bar {r}) e = rw (first_byte s p 124 r e)
closed-bracket s p (set_close {r}) e = rw (first_byte s p 125 r e)
closed-bracket s p (arguments_close {r}) e = rw (first_byte s p 41 r e)
closed-bracket s p (line_end {r}) e = rw (first_byte s p 10 r e)

pub after-closed : (t : Term) (r : List ℕ) → Closed (after_member t ++ r)
unfolding after_member
after-closed (unknown i) r = bar
after-closed empty r = set_close
after-closed (with m t) r = comma
after-closed (functor k ts) r = bar

pub argument_closed : (ts : Terms) (r : List ℕ) → Closed (after_argument ts ++ r)
unfolding after_argument
argument_closed none r = arguments_close
argument_closed (more t ts) r = comma

-- the first byte of a term: x, f or an opening bracket
pub data Begun : List ℕ → Type 0 where
  x_first : {r : List ℕ} → Begun (120 ∷ r)
  f_first : {r : List ℕ} → Begun (102 ∷ r)
  set_first : {r : List ℕ} → Begun (123 ∷ r)

pub text_begun : (t : Term) (r : List ℕ) → Begun (text t ++ r)
unfolding text unknown_name functor_name
text_begun (unknown i) r = x_first
text_begun empty r = set_first
text_begun (with m t) r = set_first
text_begun (functor k ts) r = f_first

pub begun_begins : {r : List ℕ} (s : List ℕ) (p : ℕ) → Begun r → drop p s ≡ r → begins (byte s p) ≡ true
unfolding begins
begun_begins s p (x_first {r}) e = rw (first_byte s p 120 r e)
begun_begins s p (f_first {r}) e = rw (first_byte s p 102 r e)
begun_begins s p (set_first {r}) e = rw (first_byte s p 123 r e)

pub begun_no_close : {r : List ℕ} (s : List ℕ) (p : ℕ) → Begun r → drop p s ≡ r → eqb (byte s p) 125 ≡ false
begun_no_close s p (x_first {r}) e = rw (first_byte s p 120 r e)
begun_no_close s p (f_first {r}) e = rw (first_byte s p 102 r e)
begun_no_close s p (set_first {r}) e = rw (first_byte s p 123 r e)

module _ (b : Bounds) (s : List ℕ) where
  -- the number after a letter
  pub name-read : (declared i p m letter : ℕ) (r : List ℕ) → i < declared → declared ≤ 100000 → m < b.symbols → Ends r → drop p s ≡ letter ∷ (decimal i ++ r)
      → name b s declared p m ≡ read (p + suc (length (decimal i))) i
  unfolding name symbol
  name-read declared i p m letter r h k l f e =
      let z : p + 1 + length (decimal i) ≡ p + suc (length (decimal i)) = omega arith in
      rw (lt-ltb m b.symbols l, ← z)
      (then-read _ (number_read i s (p + 1) r (omega arith) f (after-byte s p letter (decimal i ++ r) e)) ∙ rw (lt-ltb i declared h))

  module _ (n : ℕ) (arities : List ℕ) (depth p : ℕ) (ws : List ℕ) (room : length ws < b.symbols) where
    pub unknown_begins : (i : ℕ) (r : List ℕ) → i < n → n ≤ 100000 → Ends r → drop p s ≡ unknown_name i ++ r
        → beginning b s n arities depth p ws ≡ read (p + length (unknown_name i)) (done (ws ++ ((b.first_unknown + i) ∷ [])))
    unfolding beginning an_unknown unknown_name
    unknown_begins i r h k f e =
        rw (first_byte s p 120 (decimal i ++ r) e) (then-read _ (name-read n i p (length ws) 120 r h k room f e))

    pub functor_begins : (k : ℕ) (r : List ℕ) → k < length arities → length arities ≤ 100000 → Ends r → drop p s ≡ functor_name k ++ r
        → beginning b s n arities depth p ws ≡ items.arguments b s depth (get_or arities k 0) (p + length (functor_name k)) (ws ++ ((b.first_functor + k) ∷ []))
    unfolding beginning a_functor functor_name
    functor_begins k r h l f e =
        rw (first_byte s p 102 (decimal k ++ r) e) (then-read _ (name-read (length arities) k p (length ws) 102 r h l room f e))
