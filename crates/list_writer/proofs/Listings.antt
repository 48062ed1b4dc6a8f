-- The lines of an answer list, walked over its words, are the text of the list, or stop at the first word whose bracket stands too deep.
use Prim.Native.Nat.{ℕ, suc, ◌+◌, ◌<◌}
use native.Mathlib.Nat.{add-zero, zero-add}
use native.Mathlib.Omega.{arith}
use mathlib.Core.Path.{◌≡◌, refl, sym, ap, ◌∙◌}
use mathlib.Core.List.{List, [], ◌∷◌, ◌++◌, append_assoc, append-nil}
use lib.ListN.{length, drop, get_or, length-append, length-drop}
use lib.Seq.{drop-drop, drop_at, get_or-drop}
use borrow.Author.Tests.{lt-ltb}
use Rattle.terms.specs.Answers.{Binding, binding_words, answer_words, listed}
use Rattle.terms.specs.Bounds.{Bounds}
use Rattle.terms.specs.Laws.Flat.{length_words}
use Rattle.terms.specs.Kind.{Worded}
use Rattle.terms.specs.Listing.{Bound, list_words}
use Rattle.terms.specs.Lists.{All, both}
use Rattle.terms.specs.Term.{words, size}
use Rattle.text.specs.AnswerText.{binding_lines, answer_lines, list_text}
use Rattle.text.specs.Keys.{unknown_key, value_key, bindings_key}
use Rattle.text.specs.Text.{text, line, decimal}
use Rattle.word_writer.specs.Depths.{depths}
use Rattle.lines.specs.Lines.{repeat, term_line}
use Rattle.lines.specs.ListLines.{number_then, binding_at, answer_at, list_header, list_lines, binding_depths, list_depths}
use Rattle.word_writer.specs.WordByWord.{Walk, ended, prepend}
use Rattle.writer.specs.Written.{too_deep_in_list}
use Rattle.word_writer.specs.Guarded.{guard_none}
use Rattle.writer.proofs.QuestionWalk.{settled, guard-settled, part_then, part_bytes, past, line-over}
use Rattle.word_writer.specs.Tied.{Part, chain, from, on_to, before, spelt, length_depths}

-- ---- a word in front

module _ (ws : List ℕ) (p : ℕ) {w : ℕ} {rest : List ℕ} (e : drop p ws ≡ w ∷ rest) where
  word_in : p < length ws
  word_in = omega (arith, length-drop p ws, ap length e)

  word_is : get_or ws p 0 ≡ w
  word_is = ap (λ q. get_or ws q 0) (sym (add-zero p)) ∙ sym (get_or-drop p ws 0 0) ∙ ap (λ l. get_or l 0 0) e

  after-word : drop (p + 1) ws ≡ rest
  after-word = sym (drop-drop 1 p ws) ∙ ap (drop 1) e

  number-part : (limit : ℕ) (key : List ℕ) (on : ℕ → ℕ → Walk) → Part limit (number_then ws key on p) p (0 ∷ []) (line key (decimal w)) (on w (p + 1))
  unfolding number_then
  number-part limit key on = from (rw (lt-ltb p (length ws) word_in, word_is)) (record { is = sym (guard_none limit p (prepend (line key (decimal w)) (on w (p + 1)))) })

module _ {b : Bounds} {arities : List ℕ} {n : ℕ} (worded : Worded b arities n) (ws : List ℕ) where
  abbrev limit : ℕ
  limit = b.nesting

  pub binding_over : {x : Binding} → Bound arities n x → (rest : List ℕ) (p : ℕ) → drop p ws ≡ x.name ∷ (words b x.value ++ rest)
      → Part limit (binding_at b arities ws p) p (0 ∷ depths 0 x.value) (line unknown_key (decimal x.name) ++ line value_key (text x.value)) (ended (p + 1 + size x.value) [])
  unfolding binding_at
  binding_over {x} f rest p e =
      chain (number-part ws p e limit unknown_key (λ _ q. term_line b arities ws value_key q)) (line-over worded ws value_key f.value rest (p + 1) (after-word ws p e)) refl refl

  length-binding_depths : (xs : List Binding) → length (binding_depths xs) ≡ length (binding_words b xs)
  unfolding binding_depths binding_words
  length-binding_depths [] = refl
  length-binding_depths (x ∷ xs) = simp (length-append, length_depths, length_words, length-binding_depths xs)

  pub bindings-over : (xs : List Binding) → All (Bound arities n) xs → (rest : List ℕ) (p : ℕ) → drop p ws ≡ binding_words b xs ++ rest
      → Part limit (repeat (binding_at b arities ws) (length xs) p) p (binding_depths xs) (binding_lines xs) (ended (p + length (binding_words b xs)) [])
  unfolding repeat binding_depths binding_lines binding_words
  bindings-over [] fs rest p e = on_to (ap (λ q. ended q []) (sym (add-zero p))) (part_bytes limit p [])
  bindings-over (x ∷ xs) (both f fs) rest p e =
      let t = x.value in
      let r = binding_words b xs ++ rest in
      let e' : drop p ws ≡ x.name ∷ (words b t ++ r) = e ∙ ap (λ l. x.name ∷ l) (append_assoc (words b t) (binding_words b xs) rest) in
      let there = bindings-over xs fs rest (p + 1 + size t) (past worded ws t r (p + 1) (after-word ws p e')) in
      let lengths : p + 1 + size t + length (binding_words b xs) ≡ p + suc (length (words b t ++ binding_words b xs)) = simp (length-append, length_words) (omega arith) in
      on_to (ap (λ q. ended q []) lengths)
      (spelt (append_assoc (line unknown_key (decimal x.name)) (line value_key (text t)) (binding_lines xs))
      (part_then (repeat (binding_at b arities ws) (length xs)) (binding_over f r p e') there (omega (arith, length_depths 0 t))))

  pub answers_over : (l : List (List Binding)) → All (All (Bound arities n)) l → (p : ℕ) → drop p ws ≡ list_words b l
      → Part limit (repeat (answer_at b arities ws) (length l) p) p (list_depths l) (answer_lines l) (ended (p + length (list_words b l)) [])
  unfolding repeat list_depths answer_lines list_words listed answer_words answer_at
  answers_over [] fs p e = on_to (ap (λ q. ended q []) (sym (add-zero p))) (part_bytes limit p [])
  answers_over (xs ∷ l) (both f fs) p e =
      let one = length (binding_words b xs) in
      let q = p + 1 + one in
      let here = chain (number-part ws p e limit bindings_key (repeat (binding_at b arities ws))) (bindings-over xs f (list_words b l) (p + 1) (after-word ws p e)) refl refl in
      let after : drop q ws ≡ list_words b l = sym (drop-drop one (p + 1) ws) ∙ ap (drop one) (after-word ws p e) ∙ drop_at (binding_words b xs) (list_words b l) one refl in
      let there = answers_over l fs q after in
      let lengths : q + length (list_words b l) ≡ p + suc (length (binding_words b xs ++ list_words b l)) = simp length-append (omega arith) in
      on_to (ap (λ q. ended q []) lengths)
      (spelt (append_assoc (line bindings_key (decimal (length xs))) (binding_lines xs) (answer_lines l))
      (part_then (repeat (answer_at b arities ws) (length l)) here there (omega (arith, length-binding_depths xs))))

header-first : (end : List ℕ) (visited : ℕ) (l : List (List Binding)) → (list_header end visited (length l) ++ answer_lines l) ++ [] ≡ list_text end visited l
unfolding list_header list_text
header-first end visited l = simp (append-nil, append_assoc)

-- the lines of an answer list
pub list_over : {b : Bounds} {arities : List ℕ} {n : ℕ} → Worded b arities n → (end : List ℕ) (visited : ℕ) (l : List (List Binding)) → All (All (Bound arities n)) l
    → list_lines b end arities visited (length l) (list_words b l) ≡ settled (too_deep_in_list b l) (ended (length (list_words b l)) (list_text end visited l))
unfolding list_lines too_deep_in_list prepend
list_over {b} worded end visited l f =
    let ws = list_words b l in
    let part = before (list_header end visited (length l)) (answers_over worded ws l f 0 refl) in
    part.is ∙ guard-settled b.nesting 0 (list_depths l) _
    ∙ ap (settled (too_deep_in_list b l)) (ap (ended (0 + length ws)) (header-first end visited l) ∙ ap (λ m. ended m (list_text end visited l)) (zero-add (length ws)))
