-- How long the text of an answer list is: a list of at most 4,096 words fits 65,536 bytes, at 14 bytes a word and a short header.
use Rattle.std.specs.Prelude.{ℕ, ◌*◌, ◌≤◌, ◌<◌, length}
use native.Mathlib.Omega.{arith}
use mathlib.Core.List.{List, [], ◌∷◌, ◌++◌}
use Rattle.std.proofs.Math.ListN.{length-append}
use Rattle.terms.specs.Answers.{Binding, binding_words, answer_words, listed}
use Rattle.terms.specs.Bounds.{Bounds}
use Rattle.terms.specs.Laws.Flat.{length_words, size_positive}
use Rattle.terms.specs.Listing.{Bound, list_words}
use Rattle.terms.specs.Lists.{All, both}
use Rattle.terms.specs.Term.{words}
use Rattle.text.specs.AnswerText.{binding_lines, answer_lines, list_text}
use Rattle.text.specs.Decimal.{decimal-length}
use Rattle.text.specs.Keys.{edition_key, end_key, visited_key, answers_key, bindings_key, unknown_key, value_key}
use Rattle.text.specs.Sizes.{Short, text_length, line-length}
use Rattle.text.specs.Text.{decimal, text, line}

-- the words of a list, and more bytes than the text of such a list has
abbrev pub LIST_WORDS : ℕ
LIST_WORDS = 4096

abbrev pub LIST_BYTES : ℕ
LIST_BYTES = 65536

module _ (b : Bounds) {arities : List ℕ} {n : ℕ} (short : Short arities n) where
  bindings-length : (xs : List Binding) → All (Bound arities n) xs → (length (binding_lines xs) ≤ 14 * length (binding_words b xs)) × (length xs ≤ length (binding_words b xs))
  unfolding binding_lines binding_words
  bindings-length [] fs = (omega arith, omega arith)
  bindings-length (x ∷ xs) (both f fs) =
      let t = x.value in
      let name = line unknown_key (decimal x.name) in
      let value = line value_key (text t) in
      let rest = bindings-length xs fs in
      let joined = length-append (words b t) (binding_words b xs) in (
        omega (
          arith,
          length-append name (value ++ binding_lines xs),
          length-append value (binding_lines xs),
          line-length unknown_key (decimal x.name),
          line-length value_key (text t),
          decimal-length 2 x.name (omega (arith, f.name, short.unknowns)),
          text_length short f.value,
          size_positive t,
          length_words b t,
        ),
        omega arith,
      )

  answers_length : (l : List (List Binding)) → All (All (Bound arities n)) l → length (list_words b l) ≤ LIST_WORDS
      → (length (answer_lines l) ≤ 14 * length (list_words b l)) × (length l ≤ length (list_words b l))
  unfolding answer_lines list_words listed answer_words
  answers_length [] fs h = (omega arith, omega arith)
  answers_length (xs ∷ l) (both f fs) h =
      let joined = length-append (binding_words b xs) (list_words b l) in
      let bindings = bindings-length xs f in
      let rest = answers_length l fs (omega arith) in
      let count = line bindings_key (decimal (length xs)) in (
        omega (
          arith,
          length-append count (binding_lines xs ++ answer_lines l),
          length-append (binding_lines xs) (answer_lines l),
          line-length bindings_key (decimal (length xs)),
          decimal-length 3 (length xs) (omega arith),
        ),
        omega arith,
      )

  -- the program's buffer for the list's text
  pub list_length : (end : List ℕ) (visited : ℕ) (l : List (List Binding)) → All (All (Bound arities n)) l → length (list_words b l) ≤ LIST_WORDS → length end ≤ 5 → visited ≤ 1000000000
      → length (list_text end visited l) < LIST_BYTES
  unfolding list_text
  list_length end visited l fs h e v =
      let answers = answers_length l fs h in
      let first = line edition_key (decimal 1) in
      let second = line end_key end in
      let third = line visited_key (decimal visited) in
      let fourth = line answers_key (decimal (length l)) in
      omega (
        arith,
        length-append first (second ++ (third ++ (fourth ++ answer_lines l))),
        length-append second (third ++ (fourth ++ answer_lines l)),
        length-append third (fourth ++ answer_lines l),
        length-append fourth (answer_lines l),
        line-length edition_key (decimal 1),
        decimal-length 0 1 (omega arith),
        line-length end_key end,
        line-length visited_key (decimal visited),
        decimal-length 9 visited (omega arith),
        line-length answers_key (decimal (length l)),
        decimal-length 3 (length l) (omega arith),
      )
