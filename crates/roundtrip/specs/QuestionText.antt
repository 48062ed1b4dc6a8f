-- Reading what was written gives the same question: its counts, its arities, and the words of its terms.
use Rattle.std.specs.Prelude.{ℕ, ◌+◌, ◌≤◌, ◌<◌, ◌≡◌, refl, drop}
use Rattle.std.proofs.Common.{arith, sym, ◌∙◌}
use Rattle.std.proofs.Math.Path.{ap}
use mathlib.Core.List.{List, [], ◌∷◌, ◌++◌, append_assoc, append-nil}
use Rattle.std.proofs.Math.ListN.{length, length-append}
use Rattle.terms.specs.Bounds.{Bounds, edition_one}
use Rattle.terms.specs.Lists.{All, both}
use Rattle.terms.specs.Term.{Term, words, nesting}
use Rattle.terms.specs.Formed.{Formed, Equation, sides, Question, row, Good}
use Rattle.text.specs.Keys.{edition_key, unknowns_key, arities_key, equations_key, left_key, right_key}
use Rattle.text.specs.Text.{decimal, numbers, text, line, equation_lines, question_text}
use Rattle.numerals.specs.TextReading.{read, then-read}
use Rattle.header_reader.specs.HeaderText.{header}
use Rattle.question_reader.specs.Questions.{Asked, equation, equations, question}
use Rattle.roundtrip.specs.Suffix.{no_byte, after_bytes}
use Rattle.roundtrip.specs.LineText.{number-line, arity_line-read, side-read}

-- every limit has at most five digits
pub record Narrow (b : Bounds) : Type 0 where
  pub unknowns : b.unknowns < 100000
  pub functors : b.functors < 100000
  pub arity : b.arity < 100000
  pub equations : b.equations < 100000

pub edition_one_narrow : Narrow edition_one
unfolding edition_one
edition_one_narrow = record { unknowns = omega arith; functors = omega arith; arity = omega arith; equations = omega arith }

module _ (b : Bounds) (s : List ℕ) (n : ℕ) (arities : List ℕ) (few : n ≤ 100000) (table : length arities ≤ 100000) where
  -- the lines of equations, to the text's end
  equations-read : (es : List Equation) (p : ℕ) (ws : List ℕ) → All (Formed arities n) (sides es) → All (λ t. nesting t ≤ b.nesting) (sides es)
      → length ws + length (row b (sides es)) ≤ b.symbols → drop p s ≡ equation_lines es
      → equations b s n arities (length es) p ws ≡ read (length s) (ws ++ row b (sides es))
  unfolding equations equation equation_lines sides row
  equations-read [] p ws F N k e = rw (no_byte s p e) (ap (read (length s)) (sym (append-nil ws)))
  equations-read (q ∷ es) p ws (both fl (both fr fs)) (both nl (both nr ns)) k e =
      let l : Term = q.left in
      let r : Term = q.right in
      let w1 = length-append (words b l) (words b r ++ row b (sides es)) in
      let w2 = length-append (words b r) (row b (sides es)) in
      let w3 = length-append ws (words b l) in
      let w4 = length-append (ws ++ words b l) (words b r) in
      let e1 = after_bytes s p (line left_key (text l)) (line right_key (text r) ++ equation_lines es) e in
      let e2 = after_bytes s (p + length (line left_key (text l))) (line right_key (text r)) (equation_lines es) e1 in
      then-read _ (then-read _ (side-read b s n arities few table left_key l p ws (line right_key (text r) ++ equation_lines es) fl nl (omega arith) e)
      ∙ side-read b s n arities few table right_key r (p + length (line left_key (text l))) (ws ++ words b l) (equation_lines es) fr nr (omega arith) e1)
      ∙ (equations-read es (p + length (line left_key (text l)) + length (line right_key (text r))) ((ws ++ words b l) ++ words b r) fs ns (omega arith) e2
      ∙ ap (read (length s)) (simp append_assoc))

-- what a reader is to find in a question's text
abbrev pub asked : Bounds → Question → Asked
asked b q = record {
  head = record { unknowns = q.unknowns; arities = q.arities; equations = length q.equations };
  words = row b (sides q.equations);
}

-- a good question of terms that nest no deeper than text may: its text is read to its end, as that question
pub written-then-read : (b : Bounds) → Narrow b → (q : Question) → Good b q → All (λ t. nesting t ≤ b.nesting) (sides q.equations)
    → question b (question_text q) ≡ read (length (question_text q)) (asked b q)
unfolding question header question_text
written-then-read b w q g deep =
    let s : List ℕ = question_text q in
    let t4 : List ℕ = equation_lines q.equations in
    let t3 : List ℕ = line equations_key (decimal (length q.equations)) ++ t4 in
    let t2 : List ℕ = line arities_key (numbers q.arities) ++ t3 in
    let t1 : List ℕ = line unknowns_key (decimal q.unknowns) ++ t2 in
    let e1 = after_bytes s 0 (line edition_key (decimal 1)) t1 refl in
    let e2 = after_bytes s (0 + length (line edition_key (decimal 1))) (line unknowns_key (decimal q.unknowns)) t2 e1 in
    let e3 = after_bytes s _ (line arities_key (numbers q.arities)) t3 e2 in
    let e4 = after_bytes s _ (line equations_key (decimal (length q.equations))) t4 e3 in
    then-read _
    (then-read _ (number-line edition_key 1 1 1 s 0 t1 (omega arith) (omega arith) (omega arith) refl)
    ∙ (then-read _ (number-line unknowns_key 0 b.unknowns q.unknowns s _ t2 (omega arith) g.unknowns w.unknowns e1)
    ∙ (then-read _ (arity_line-read b s _ t3 q.arities w.arity g.arities g.functors e2)
    ∙ then-read _ (number-line equations_key 0 b.equations (length q.equations) s _ t4 (omega arith) g.equations w.equations e3))))
    ∙ then-read _
    (equations-read b s q.unknowns q.arities (omega (arith, g.unknowns, w.unknowns)) (omega (arith, g.functors, w.functors)) q.equations _ [] g.formed deep (omega (arith, g.symbols)) e4)
