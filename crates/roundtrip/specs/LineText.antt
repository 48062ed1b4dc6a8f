-- The lines of a question's text are read as they were written: numbers after their keys, the arities, and the sides of equations.
use Rattle.std.specs.Prelude.{ℕ, zero, suc, ◌+◌, ◌*◌, ◌≤◌, ◌<◌, ◌≡◌, false, List, [], ◌∷◌, ◌++◌, eqb, length, drop}
use Rattle.std.proofs.Common.{arith, ap, ◌∙◌, append_assoc, ne_eqb, length-append}
use Rattle.terms.specs.Bounds.{Bounds}
use Rattle.terms.specs.Lists.{All, none, both}
use Rattle.terms.specs.Term.{Term, words, nesting}
use Rattle.terms.specs.Formed.{Formed}
use Rattle.text.specs.Keys.{arities_key}
use Rattle.text.specs.Text.{decimal, numbers, further_numbers, text, line}
use Rattle.text.specs.Decimal.{decimal_bytes, decimal-some}
use Rattle.text.specs.Sizes.{line-length}
use Rattle.numerals.specs.TextReading.{read, then-read}
use Rattle.numerals.specs.Bytes.{byte}
use Rattle.term_reader.specs.Terms.{whole_term}
use Rattle.header_reader.specs.HeaderText.{arity_list, arity_line}
use Rattle.header_reader.specs.HeaderText as header
use Rattle.question_reader.specs.Questions.{side}
use Rattle.roundtrip.specs.Suffix.{first_byte, after-byte, after_bytes, key_read}
use Rattle.roundtrip.specs.Decimals.{early, Digits, between-read}
use Rattle.roundtrip.specs.Names.{line_end}
use Rattle.roundtrip.specs.TermText.{text_reads}

moved : {A : Type 0} {p q : ℕ} {a : A} → p ≡ q → read p a ≡ read q a
moved {a = a} e = ap (λ p. read p a) e

line_apart : (key value r : List ℕ) → line key value ++ r ≡ key ++ (value ++ (10 ∷ r))
unfolding line
line_apart key value r =
    append_assoc key (value ++ (10 ∷ [])) r ∙ ap (λ (l : List ℕ). key ++ l) (append_assoc value (10 ∷ []) r)

-- a key and a number
pub number-line : (key : List ℕ) (low high v : ℕ) (s : List ℕ) (p : ℕ) (r : List ℕ) → low ≤ v → v ≤ high → high < 100000 → drop p s ≡ line key (decimal v) ++ r
    → header.line key low high s p ≡ read (p + length (line key (decimal v))) v
unfolding header.line
number-line key low high v s p r l h k e =
    let e1 : drop p s ≡ key ++ (decimal v ++ (10 ∷ r)) = e ∙ line_apart key (decimal v) r in
    let e2 = after_bytes s p key (decimal v ++ (10 ∷ r)) e1 in
    let e3 = after_bytes s (p + length key) (decimal v) (10 ∷ r) e2 in
    then-read _ (key_read s key (decimal v ++ (10 ∷ r)) p (tt {0}) e1)
    ∙ (then-read _ (between-read low high v s (p + length key) (10 ∷ r) l h k (early {b = 10} (omega arith)) e2)
    ∙ (key_read s (10 ∷ []) r (p + length key + length (decimal v)) v e3 ∙ moved (omega (arith, line-length key (decimal v)))))

-- an arity at p, and those after it up to LF
pub arities-read : (most : ℕ) (s r : List ℕ) → most < 100000 → (ns : List ℕ) (m a p : ℕ) (before : List ℕ) → a ≤ most → All (λ n. n ≤ most) ns → suc (length ns) ≤ m
    → drop p s ≡ decimal a ++ (further_numbers ns ++ (10 ∷ r))
    → arity_list m most s p before ≡ read (p + length (decimal a ++ further_numbers ns) + 1) (before ++ (a ∷ ns))
unfolding arity_list further_numbers
arities-read most s r k ns zero a p before h hs l e = absurd (omega arith)
arities-read most s r k [] (suc m) a p before h none l e =
    let f = after_bytes s p (decimal a) (10 ∷ r) e in
    then-read _ (between-read 0 most a s p (10 ∷ r) (omega arith) h k (early {b = 10} (omega arith)) e)
    ∙ (rw (first_byte s (p + length (decimal a)) 10 r f) (moved (omega (arith, length-append (decimal a) []))))
arities-read most s r k (n ∷ ns) (suc m) a p before h (both x xs) l e =
    let t : List ℕ = (decimal n ++ further_numbers ns) ++ (10 ∷ r) in
    let f : drop (p + length (decimal a)) s ≡ 44 ∷ t = after_bytes s p (decimal a) (44 ∷ t) e in
    let g : drop (p + length (decimal a) + 1) s ≡ decimal n ++ (further_numbers ns ++ (10 ∷ r)) =
    after-byte s (p + length (decimal a)) 44 t f ∙ append_assoc (decimal n) (further_numbers ns) (10 ∷ r) in
    let l1 = length-append (decimal a) (44 ∷ (decimal n ++ further_numbers ns)) in
    then-read _ (between-read 0 most a s p (44 ∷ t) (omega arith) h k (early {b = 44} (omega arith)) e)
    ∙ (rw (first_byte s (p + length (decimal a)) 44 t f) (arities-read most s r k ns m n (p + length (decimal a) + 1) (before ++ (a ∷ [])) x xs (omega arith) g
    ∙ rw (append_assoc before (a ∷ []) (n ∷ ns)) (moved (omega arith))))

digit-first : (s : List ℕ) (p : ℕ) (ds r : List ℕ) → 1 ≤ length ds → Digits ds → drop p s ≡ ds ++ r → eqb (byte s p) 10 ≡ false
digit-first s p [] r l x e = absurd (omega arith)
digit-first s p (d ∷ ds) r l (both x xs) e = rw (first_byte s p d (ds ++ r) e) (ne_eqb d 10 (λ z. omega (arith, x.0)))

pub arity_line-read : (b : Bounds) (s : List ℕ) (p : ℕ) (r ns : List ℕ) → b.arity < 100000 → All (λ n. n ≤ b.arity) ns → length ns ≤ b.functors
    → drop p s ≡ line arities_key (numbers ns) ++ r → arity_line b s p ≡ read (p + length (line arities_key (numbers ns))) ns
unfolding arity_line numbers
arity_line-read b s p r [] k none l e =
    let e1 : drop p s ≡ arities_key ++ (10 ∷ r) = e ∙ line_apart arities_key [] r in
    then-read _ (key_read s arities_key (10 ∷ r) p [] e1)
    ∙ rw (first_byte s (p + length arities_key) 10 r (after_bytes s p arities_key (10 ∷ r) e1)) (moved (omega (arith, line-length arities_key [])))
arity_line-read b s p r (a ∷ ns) k (both x xs) l e =
    let e1 : drop p s ≡ arities_key ++ ((decimal a ++ further_numbers ns) ++ (10 ∷ r)) = e ∙ line_apart arities_key (decimal a ++ further_numbers ns) r in
    let e2 : drop (p + length arities_key) s ≡ decimal a ++ (further_numbers ns ++ (10 ∷ r)) =
    after_bytes s p arities_key ((decimal a ++ further_numbers ns) ++ (10 ∷ r)) e1 ∙ append_assoc (decimal a) (further_numbers ns) (10 ∷ r) in
    then-read _ (key_read s arities_key ((decimal a ++ further_numbers ns) ++ (10 ∷ r)) p [] e1)
    ∙ rw (digit-first s (p + length arities_key) (decimal a) (further_numbers ns ++ (10 ∷ r)) (decimal-some a) (decimal_bytes a) e2)
    (arities-read b.arity s r k ns b.functors a (p + length arities_key) [] x xs l e2 ∙ moved (omega (arith, line-length arities_key (decimal a ++ further_numbers ns))))

-- a side of an equation
pub side-read : (b : Bounds) (s : List ℕ) (n : ℕ) (arities : List ℕ) → n ≤ 100000 → length arities ≤ 100000 → (key : List ℕ) (t : Term) (p : ℕ) (ws r : List ℕ)
    → Formed arities n t → nesting t ≤ b.nesting → length ws + length (words b t) ≤ b.symbols → drop p s ≡ line key (text t) ++ r
    → side b s n arities key p ws ≡ read (p + length (line key (text t))) (ws ++ words b t)
unfolding side whole_term
side-read b s n arities few table key t p ws r F d k e =
    let e1 : drop p s ≡ key ++ (text t ++ (10 ∷ r)) = e ∙ line_apart key (text t) r in
    let e2 = after_bytes s p key (text t ++ (10 ∷ r)) e1 in
    let e3 = after_bytes s (p + length key) (text t) (10 ∷ r) e2 in
    then-read _ (key_read s key (text t ++ (10 ∷ r)) p ws e1)
    ∙ (then-read _ (text_reads b s n arities few table t (suc (2 * length s)) 0 (p + length key) ws (10 ∷ r) (record { there = e2; room = k; fueled = omega arith }) line_end F (omega arith))
    ∙ (key_read s (10 ∷ []) r (p + length key + length (text t)) (ws ++ words b t) e3 ∙ moved (omega (arith, line-length key (text t)))))
