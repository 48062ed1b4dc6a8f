-- The lines of a question, walked over its words, are the text of the question, or stop at the first word whose bracket stands too deep.
use Prim.Native.Nat.{ℕ, ◌+◌}
use native.Mathlib.Nat.{add-zero, zero-add}
use native.Mathlib.Omega.{arith}
use mathlib.Core.Path.{◌≡◌, refl, sym, ap, ◌∙◌}
use mathlib.Core.List.{List, [], ◌∷◌, ◌++◌, append_assoc, append-nil}
use lib.Dec.{ltb}
use lib.ListN.{length, drop, length-append}
use lib.Seq.{drop-drop, drop_at}
use Rattle.terms.specs.Bounds.{Bounds}
use Rattle.terms.specs.Laws.Flat.{length_words}
use Rattle.terms.specs.Kind.{Worded}
use Rattle.terms.specs.Lists.{All, both, cases}
use Rattle.terms.specs.Term.{Term, words, size}
use Rattle.terms.specs.Formed.{Formed, Equation, sides, row, Question}
use Rattle.text.specs.Keys.{left_key, right_key}
use Rattle.text.specs.Text.{text, line, equation_lines, question_text}
use Rattle.word_writer.specs.Depths.{depths, row_depths, First, all_within, first_at, found, first_above}
use Rattle.lines.specs.Lines.{term_line, repeat, equation_at, header, question_lines}
use Rattle.word_writer.specs.OpenBrackets.{closing, closed}
use Rattle.word_writer.specs.WordByWord.{then, Walk, ended, too_deep, prepend, onward, walk, term_at}
use Rattle.writer.specs.Written.{too_deep_in}
use Rattle.word_writer.specs.Guarded.{guard}
use Rattle.word_writer.specs.Tied.{Part, chain, from, on_to, before, spelt, finish, due_first, over, length_depths}

-- ---- a guarded walk by its first bracket too deep

unfoldable pub settled : First → Walk → Walk
settled all_within k = k
settled (first_at p) k = too_deep p

pub guard-settled : (limit p : ℕ) (ds : List ℕ) (k : Walk) → guard limit p ds k ≡ settled (first_above limit p ds) k
unfolding guard settled first_above found
guard-settled limit p [] k = refl
guard-settled limit p (d ∷ ds) k = cases (ltb limit d) (λ t. rw t) (λ t. rw t (guard-settled limit (p + 1) ds k))

-- ---- parts one after the other

then-guard : (limit p : ℕ) (ds us : List ℕ) (q : ℕ) (on : ℕ → Walk) → then (guard limit p ds (ended q us)) on ≡ guard limit p ds (prepend us (on q))
unfolding guard then
then-guard limit p [] us q on = refl
then-guard limit p (d ∷ ds) us q on = cases (ltb limit d) (λ t. rw t) (λ t. rw t (then-guard limit (p + 1) ds us q on))

module _ {limit p q : ℕ} {ds us : List ℕ} {x : Walk} where
  pub part_then : (on : ℕ → Walk) {es vs : List ℕ} {k : Walk} → Part limit x p ds us (ended q []) → Part limit (on q) q es vs k → p + length ds ≡ q → Part limit (then x on) p (ds ++ es) (us ++ vs) k
  unfolding prepend
  part_then on f g e = chain (record { is = ap (λ y. then y on) f.is ∙ then-guard limit p ds (us ++ []) q on ∙ ap (λ vs. guard limit p ds (prepend vs (on q))) (append-nil us) }) g e refl

-- bytes that end a walk
pub part_bytes : (limit q : ℕ) (us : List ℕ) → Part limit (ended q us) q [] us (ended q [])
unfolding guard prepend
part_bytes limit q us = record { is = ap (ended q) (sym (append-nil us)) }

module _ {b : Bounds} {arities : List ℕ} {n : ℕ} (worded : Worded b arities n) (ws : List ℕ) where
  abbrev limit : ℕ
  limit = b.nesting

  -- the words after a term
  pub past : (t : Term) (rest : List ℕ) (p : ℕ) → drop p ws ≡ words b t ++ rest → drop (p + size t) ws ≡ rest
  past t rest p e = sym (drop-drop (size t) p ws) ∙ ap (drop (size t)) e ∙ drop_at (words b t) rest (size t) (length_words b t)

  pub line-over : (key : List ℕ) {t : Term} → Formed arities n t → (rest : List ℕ) (p : ℕ) → drop p ws ≡ words b t ++ rest
      → Part limit (term_line b arities ws key p) p (depths 0 t) (line key (text t)) (ended (p + size t) [])
  unfolding term_line term_at line finish closing closed onward prepend
  line-over key {t} f rest p e =
      let term : Part limit (term_at b arities ws p) p (depths 0 t) (text t) (ended (p + size t) []) = from (ap (λ l. walk b arities p l []) e) (over worded f rest p [] due_first) in
      before key (rw (append-nil (depths 0 t)) at (part_then (λ q. ended q (10 ∷ [])) term (part_bytes limit (p + size t) (10 ∷ [])) (omega (arith, length_depths 0 t))))

  pub equation-over : {l r : Term} → Formed arities n l → Formed arities n r → (rest : List ℕ) (p : ℕ) → drop p ws ≡ words b l ++ (words b r ++ rest)
      → Part limit (equation_at b arities ws p) p (depths 0 l ++ depths 0 r) (line left_key (text l) ++ line right_key (text r)) (ended (p + size l + size r) [])
  unfolding equation_at
  equation-over {l} {r} f g rest p e =
      part_then (term_line b arities ws right_key) (line-over left_key f (words b r ++ rest) p e) (line-over right_key g rest (p + size l) (past l (words b r ++ rest) p e)) (omega (arith, length_depths 0 l))

  pub equations-over : (es : List Equation) → All (Formed arities n) (sides es) → (p : ℕ) → drop p ws ≡ row b (sides es)
      → Part limit (repeat (equation_at b arities ws) (length es) p) p (row_depths (sides es)) (equation_lines es) (ended (p + length (row b (sides es))) [])
  unfolding repeat sides row_depths equation_lines row
  equations-over [] fs p e = on_to (ap (λ q. ended q []) (sym (add-zero p))) (part_bytes limit p [])
  equations-over (eq ∷ es) (both f (both g fs)) p e =
      let l = eq.left in
      let r = eq.right in
      let q = p + size l + size r in
      let here = equation-over f g (row b (sides es)) p e in
      let there = equations-over es fs q (past r (row b (sides es)) (p + size l) (past l (words b r ++ row b (sides es)) p e)) in
      let lengths : p + size l + size r + length (row b (sides es)) ≡ p + length (words b l ++ (words b r ++ row b (sides es))) =
      simp (length-append, length_words) (omega arith) in
      on_to (ap (λ q. ended q []) lengths)
      (spelt (append_assoc (line left_key (text l)) (line right_key (text r)) (equation_lines es))
      (rw (append_assoc (depths 0 l) (depths 0 r) (row_depths (sides es))) at (part_then (repeat (equation_at b arities ws) (length es)) here there
      (simp (length-append, length_depths) (omega arith)))))

header-first : (q : Question) → (header q.unknowns q.arities (length q.equations) ++ equation_lines q.equations) ++ [] ≡ question_text q
unfolding header question_text
header-first q = simp (append-nil, append_assoc)

-- the lines of a question
pub question-over : {b : Bounds} (q : Question) → Worded b q.arities q.unknowns → All (Formed q.arities q.unknowns) (sides q.equations)
    → question_lines b q.unknowns q.arities (length q.equations) (row b (sides q.equations))
    ≡ settled (too_deep_in b q) (ended (length (row b (sides q.equations))) (question_text q))
unfolding question_lines too_deep_in prepend
question-over {b} q worded f =
    let ws = row b (sides q.equations) in
    let part = before (header q.unknowns q.arities (length q.equations)) (equations-over worded ws q.equations f 0 refl) in
    part.is ∙ guard-settled b.nesting 0 (row_depths (sides q.equations)) _ ∙ ap (settled (too_deep_in b q)) (ap (ended (0 + length ws)) (header-first q) ∙ ap (λ m. ended m (question_text q)) (zero-add (length ws)))
