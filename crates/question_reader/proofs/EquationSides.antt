-- The sides of equations, and the whole of a text.
use Prim.Native.Nat.{ℕ, zero, suc, ◌+◌, ◌*◌, ◌≤◌, ◌<◌}
use native.Mathlib.Numerals.{add-one}
use native.Mathlib.Omega.{arith}
use mathlib.Core.Path.{◌≡◌, refl, sym, ap, ◌∙◌}
use mathlib.Core.List.{List, [], ◌∷◌}
use borrow.Author.Tests.{ne_eqb}
use Rattle.std.proofs.Common.{Result}
use lib.ListN.{length, get_or}
use Rattle.terms.specs.Bounds.{edition_one, BYTES, UNKNOWNS}
use Rattle.terms.specs.Lists.{none, both, all}
use Rattle.terms.specs.declared.refusal.Cause.TheVariants.{Byte}
use Rattle.terms.specs.declared.refusal.Refusal.{Refusal}
use Rattle.text.specs.Keys.{left_key, right_key}
use Rattle.numerals.specs.TextReading.{Reading, read, refused, fault, then-read, then-refused}
use Rattle.numerals.specs.Bytes.{byte, met, meets, of_met, stopped}
use Rattle.term_reader.specs.Terms.{whole_term}
use Rattle.header_reader.specs.HeaderText.{Header, header}
use Rattle.question_reader.specs.Questions.{side, equation, equations, question}
use Rattle.term_reader.specs.ReadingPlaces.{where_on, Any, key_placed}
use Rattle.question_reader.specs.WholePlaces.{Bytes, literal, header_placed, side_placed, equation_placed, equations_placed}
use Rattle.term_reader.specs.ReadingAnswers.{TermIs}

-- the key's answer, with what was read before it
pub of_met-meets : {A : Type 0} (s key : List ℕ) (p : ℕ) (a : A) {r : Result ℕ Refusal} → r ≡ met s key p → of_met a r ≡ meets s key p a
unfolding meets
of_met-meets s key p a e = rw e

module _ (s : List ℕ) (unknowns : ℕ) (arities : List ℕ) where
  -- the fuel is enough at every place
  pub whole : (p : ℕ) (ws : List ℕ) (X : Reading (List ℕ)) → TermIs s unknowns arities 0 p ws X → whole_term edition_one s unknowns arities p ws ≡ X
  unfolding whole_term
  whole p ws X T = T (suc (2 * length s)) (omega arith)

  module _ (key : List ℕ) (p : ℕ) (ws : List ℕ) where
    pub side_unmet : (f : Refusal) → meets s key p ws ≡ refused f → refused f ≡ side edition_one s unknowns arities key p ws
    unfolding side
    side_unmet f e = sym (then-refused _ e)

    module _ (q : ℕ) (e : meets s key p ws ≡ read q ws) where
      pub side-refused : (f : Refusal) → TermIs s unknowns arities 0 q ws (refused f) → refused f ≡ side edition_one s unknowns arities key p ws
      unfolding side
      side-refused f T = sym (then-read _ e ∙ then-refused _ (whole q ws (refused f) T))

      pub side_term : (r : ℕ) (vs : List ℕ) → TermIs s unknowns arities 0 q ws (read r vs) → meets s (10 ∷ []) r vs ≡ side edition_one s unknowns arities key p ws
      unfolding side
      side_term r vs T = sym (then-read _ e ∙ then-read _ (whole q ws (read r vs) T))

  module _ (p : ℕ) (ws : List ℕ) where
    pub left-refused : (f : Refusal) → side edition_one s unknowns arities left_key p ws ≡ refused f → refused f ≡ equation edition_one s unknowns arities p ws
    unfolding equation
    left-refused f e = sym (then-refused _ e)

    pub left-read : (q : ℕ) (vs : List ℕ) → side edition_one s unknowns arities left_key p ws ≡ read q vs
        → side edition_one s unknowns arities right_key q vs ≡ equation edition_one s unknowns arities p ws
    unfolding equation
    left-read q vs e = sym (then-read _ e)

    pub equations-more : (n m q : ℕ) (vs : List ℕ) → n ≡ m + 1 → equation edition_one s unknowns arities p ws ≡ read q vs
        → equations edition_one s unknowns arities n p ws ≡ equations edition_one s unknowns arities m q vs
    unfolding equations
    equations-more n m q vs h e = rw (h, add-one m) (then-read _ e)

    pub equations-stop : (n : ℕ) (f : Refusal) → 0 < n → equation edition_one s unknowns arities p ws ≡ refused f
        → equations edition_one s unknowns arities n p ws ≡ refused f
    unfolding equations
    equations-stop zero f h e = absurd (omega arith)
    equations-stop (suc n) f h e = then-refused _ e

    module _ {b : ℕ} (e : b ≡ byte s p) where
      pub equations-end : (n : ℕ) → n ≡ 0 → b ≡ stopped → equations edition_one s unknowns arities n p ws ≡ read (length s) ws
      unfolding equations
      equations-end n z h = rw (z, ← e, h)

      pub equations-left : (n : ℕ) → n ≡ 0 → (b ≡ stopped → ⊥) → equations edition_one s unknowns arities n p ws ≡ fault Byte p
      unfolding equations
      equations-left n z h = rw (z, ← e, ne_eqb b stopped h)

  -- where a side and an equation end
  module _ (p : ℕ) (ws : List ℕ) (q : ℕ) (vs : List ℕ) (h : p ≤ length s) where
    pub left-ends : side edition_one s unknowns arities left_key p ws ≡ read q vs → q ≤ length s
    unfolding all
    left-ends e = (where_on (rw e at (side_placed edition_one s unknowns arities left_key p ws (literal left_key refl) h))).1

    pub equation-ends : equation edition_one s unknowns arities p ws ≡ read q vs → q ≤ length s
    equation-ends e = (where_on (rw e at (equation_placed edition_one s unknowns arities p ws h))).1

    pub all_read : (n : ℕ) → equations edition_one s unknowns arities n p ws ≡ read q vs → q ≡ length s
    all_read n e = let w = where_on (rw e at (equations_placed edition_one s unknowns arities n p ws h)) in omega (arith, w.0, w.1)

bytes : (key : List ℕ) → ((i : ℕ) → get_or key i 0 < BYTES) → Bytes key
bytes [] f = none
bytes (b ∷ key) f = both (f 0) (bytes key (λ i. f (suc i)))

pub key_ends : {A : Type 0} (s key : List ℕ) (p : ℕ) (a : A) (q : ℕ) → ((i : ℕ) → get_or key i 0 < BYTES) → p ≤ length s → meets s key p a ≡ read q a → q ≤ length s
key_ends s key p a q f h e = (where_on (rw e at (key_placed s key p a {P = Any} (bytes key f) h tt))).1

-- where the header ends, and its count of unknowns
pub header-ends : (s : List ℕ) (p : ℕ) (h : Header) → header edition_one s ≡ read p h → (p ≤ length s) × (h.unknowns ≤ UNKNOWNS)
unfolding edition_one
header-ends s p h e = let w = where_on (rw e at (header_placed edition_one s)) in (w.1, w.2.unknowns)

module _ (s : List ℕ) where
  pub unheaded : (f : Refusal) → header edition_one s ≡ refused f → refused f ≡ question edition_one s
  unfolding question
  unheaded f e = sym (then-refused _ e)

  module _ (p : ℕ) (h : Header) (e : header edition_one s ≡ read p h) where
    pub unsided : (f : Refusal) → equations edition_one s h.unknowns h.arities h.equations p [] ≡ refused f → refused f ≡ question edition_one s
    unfolding question
    unsided f k = sym (then-read _ e ∙ then-refused _ k)

    asked : (q : ℕ) (ws : List ℕ) → equations edition_one s h.unknowns h.arities h.equations p [] ≡ read q ws
        → read q (record { head = h; words = ws }) ≡ question edition_one s
    unfolding question
    asked q ws k = sym (then-read _ e ∙ then-read _ k)

    -- the place after the equations is the text's end
    pub whole-asked : (q : ℕ) (ws : List ℕ) → equations edition_one s h.unknowns h.arities h.equations p [] ≡ read q ws
        → read (length s) (record { head = h; words = ws }) ≡ question edition_one s
    whole-asked q ws k =
        let z = all_read s h.unknowns h.arities p [] q ws (header-ends s p h e).0 h.equations k in
        ap (λ (q : ℕ). read q (record { head = h; words = ws })) (sym z) ∙ asked q ws k
