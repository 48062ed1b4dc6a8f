-- Where the readings of whole texts go on and are refused: lines, sides, and the question.
use Prim.Native.Nat.{ℕ, zero, suc, ◌+◌, ◌*◌, ◌≤◌, ◌<◌}
use Rattle.std.proofs.Common.{arith, ltb-true}
use Rattle.std.specs.Prelude.{◌≡◌, true, List, [], ◌∷◌, ◌++◌, eqb, ltb}
use Rattle.std.proofs.Math.Path.{refl}
use Rattle.std.proofs.Math.ListN.{length}
use Rattle.terms.specs.Bounds.{Bounds, BYTES}
use Rattle.terms.specs.Lists.{All, all, all→, All-map, cases}
use Rattle.terms.specs.declared.refusal.Cause.TheVariants.{Byte, Limit}
use Rattle.text.specs.Keys.{edition_key, unknowns_key, arities_key, equations_key, left_key, right_key}
use Rattle.numerals.specs.Bytes.{byte, stopped}
use Rattle.term_reader.specs.Terms.{whole_term}
use Rattle.header_reader.specs.HeaderText.{line, arity_list, arity_line, Header, header}
use Rattle.question_reader.specs.Questions.{side, equation, equations, question}
use Rattle.term_reader.specs.ReadingPlaces.{Placed, goes_on, stops, sooner, onward, Any, there, key_placed, between_placed, term_placed}

abbrev pub Bytes : List ℕ → Type 0
Bytes key = All (λ b. b < BYTES) key

pub literal : (key : List ℕ) → all (λ b. ltb b BYTES) key ≡ true → Bytes key
literal key e = All-map (λ b t. ltb-true b BYTES t) (all→ (λ b. ltb b BYTES) key e)

pub line_placed : (key : List ℕ) (low high : ℕ) (s : List ℕ) (p : ℕ) → Bytes key → p ≤ length s → Placed s p (λ v. v ≤ high) (line key low high s p)
unfolding line all
line_placed key low high s p k h =
    onward _ (key_placed s key p (tt {0}) {P = Any} k h tt)
    (λ q a l i x. onward _ (between_placed low high s q i)
    (λ r v m j y. sooner (omega arith) (key_placed s (10 ∷ []) r v (literal (10 ∷ []) refl) j y)))

pub arity_list_placed : (n most : ℕ) (s : List ℕ) (p : ℕ) (ns : List ℕ) → p ≤ length s → Placed s p Any (arity_list n most s p ns)
unfolding arity_list
arity_list_placed zero most s p ns h = stops Limit p refl h
arity_list_placed (suc n) most s p ns h =
    onward _ (between_placed 0 most s p h)
    (λ q a l i x.
    cases (eqb (byte s q) 44)
    (λ t. rw t (sooner (omega arith) (arity_list_placed n most s (q + 1) (ns ++ (a ∷ [])) (omega (arith, there s q 44 t (omega arith))))))
    (λ t.
    cases (eqb (byte s q) 10)
    (λ u. rw (t, u) (goes_on (q + 1) (omega arith) (omega (arith, there s q 10 u (omega arith))) tt))
    (λ u. rw (t, u) (stops Byte q refl i))))

pub arity_line_placed : (b : Bounds) (s : List ℕ) (p : ℕ) → p ≤ length s → Placed s p Any (arity_line b s p)
unfolding arity_line all
arity_line_placed b s p h =
    onward _ (key_placed s arities_key p [] {P = Any} (literal arities_key refl) h tt)
    (λ q ns l i x.
    cases (eqb (byte s q) 10)
    (λ t. rw t (goes_on (q + 1) (omega arith) (omega (arith, there s q 10 t (omega arith))) tt))
    (λ t. rw t (sooner l (arity_list_placed b.functors b.arity s q ns i))))

-- the counts of a header are within their limits
pub record Within (b : Bounds) (h : Header) : Type 0 where
  pub unknowns : h.unknowns ≤ b.unknowns
  pub equations : h.equations ≤ b.equations

pub header_placed : (b : Bounds) (s : List ℕ) → Placed s 0 (Within b) (header b s)
unfolding header all
header_placed b s =
    onward _ (line_placed edition_key 1 1 s 0 (literal edition_key refl) (omega arith))
    (λ p one l h x. onward _ (line_placed unknowns_key 0 b.unknowns s p (literal unknowns_key refl) h)
    (λ q n m i y. onward _ (arity_line_placed b s q i)
    (λ r ns o j z. onward _ (line_placed equations_key 0 b.equations s r (literal equations_key refl) j)
    (λ t e u k w. goes_on t (omega arith) k (record { unknowns = y; equations = w })))))

module _ (b : Bounds) (s : List ℕ) (unknowns : ℕ) (arities : List ℕ) where
  pub side_placed : (key : List ℕ) (p : ℕ) (ws : List ℕ) → Bytes key → p ≤ length s → Placed s p Any (side b s unknowns arities key p ws)
  unfolding side whole_term all
  side_placed key p ws k h =
      onward _ (key_placed s key p ws {P = Any} k h tt)
      (λ q vs l i x. onward _ (term_placed b s unknowns arities (suc (2 * length s)) 0 q vs i)
      (λ r us m j y. sooner (omega arith) (key_placed s (10 ∷ []) r us {P = Any} (literal (10 ∷ []) refl) j tt)))

  pub equation_placed : (p : ℕ) (ws : List ℕ) → p ≤ length s → Placed s p Any (equation b s unknowns arities p ws)
  unfolding equation all
  equation_placed p ws h =
      onward _ (side_placed left_key p ws (literal left_key refl) h)
      (λ q vs l i x. sooner l (side_placed right_key q vs (literal right_key refl) i))

  -- the equations are read to the text's end
  pub equations_placed : (n p : ℕ) (ws : List ℕ) → p ≤ length s → Placed s (length s) Any (equations b s unknowns arities n p ws)
  unfolding equations
  equations_placed zero p ws h =
      cases (eqb (byte s p) stopped) (λ t. rw t (goes_on (length s) (omega arith) (omega arith) tt)) (λ t. rw t (stops Byte p refl h))
  equations_placed (suc n) p ws h = onward _ (equation_placed p ws h) (λ q vs l i x. equations_placed n q vs i)

-- every text is read to its end, or refused with one of the first six numbers and at a place that is at most its length
pub question_placed : (b : Bounds) (s : List ℕ) → Placed s (length s) (λ q. Within b q.head) (question b s)
unfolding question
question_placed b s =
    onward _ (header_placed b s)
    (λ p h l i w. onward _ (equations_placed b s h.unknowns h.arities h.equations p [] i)
    (λ q ws m j x. goes_on q m j w))
