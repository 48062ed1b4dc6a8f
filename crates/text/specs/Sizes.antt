-- How long texts are: a term takes less than six bytes a word, and every good question of edition one fits 32,768 bytes.
use Rattle.std.specs.Prelude.{ℕ, ◌+◌, ◌*◌, ◌≤◌, ◌<◌, ◌≡◌, List, [], ◌∷◌, ◌++◌, length}
use Rattle.std.proofs.Common.{arith, length-append}
use Rattle.terms.specs.Bounds.{Bounds, edition_one, ARITY}
use Rattle.terms.specs.Laws.Flat.{length_words}
use Rattle.terms.specs.Lists.{All, both}
use Rattle.terms.specs.Term.{Term, Terms, none, words, size, size*}
use Rattle.terms.specs.Formed.{Formed, Formed*, formed_unknown, formed_empty, formed_with, formed_functor, formed_none, formed_more, Equation, sides, Question, row, Good}
use Rattle.text.specs.Keys.{edition_key, unknowns_key, arities_key, equations_key, left_key, right_key}
use Rattle.text.specs.Text.{decimal, numbers, further_numbers, unknown_name, functor_name, text, after_member, arguments, after_argument, line, equation_lines, question_text}
use Rattle.text.specs.Decimal.{decimal-length}

-- how many numbers have at most three digits
abbrev pub THREE_DIGITS : ℕ
THREE_DIGITS = 1000

-- the numbers of a table's functors and of the first n unknowns have at most three digits
pub record Short (arities : List ℕ) (n : ℕ) : Type 0 where
  pub functors : length arities ≤ THREE_DIGITS
  pub unknowns : n ≤ THREE_DIGITS

three : (i : ℕ) → i < THREE_DIGITS → length (decimal i) ≤ 3
three i h = decimal-length 2 i (omega arith)

module _ {arities : List ℕ} {n : ℕ} (short : Short arities n) where
  unknown_length : (i : ℕ) → i < n → length (unknown_name i) ≤ 4
  unfolding unknown_name
  unknown_length i h = omega (arith, three i (omega (arith, short.unknowns)))

  functor_length : (k : ℕ) → k < length arities → length (functor_name k) ≤ 4
  unfolding functor_name
  functor_length k h = omega (arith, three k (omega (arith, short.functors)))

  mutual
    unfolding text size

    pub text_length : {t : Term} → Formed arities n t → length (text t) < 6 * size t
    text_length (formed_unknown {i = i} h) = omega (arith, unknown_length i h)
    text_length formed_empty = omega arith
    text_length (formed_with {m = m} {r = r} f g) = omega (arith, length-append (text m) (after_member r), text_length f, after_member-length g)
    text_length (formed_functor {k = k} {ts = ts} h e f) = omega (arith, length-append (functor_name k) (arguments ts), functor_length k h, arguments-length f)

    after_member-length : {r : Term} → Formed arities n r → length (after_member r) ≤ 6 * size r + 5
    after_member-length (formed_unknown {i = i} h) = omega (arith, length-append (unknown_name i) (125 ∷ []), unknown_length i h)
    after_member-length formed_empty = omega arith
    after_member-length (formed_with {m = m} {r = r} f g) = omega (arith, length-append (text m) (after_member r), text_length f, after_member-length g)
    after_member-length (formed_functor {k = k} {ts = ts} h e f) =
        omega (arith, length-append (functor_name k) (arguments ts ++ (125 ∷ [])), length-append (arguments ts) (125 ∷ []), functor_length k h, arguments-length f)

    arguments-length : {ts : Terms} → Formed* arities n ts → length (arguments ts) ≤ 6 * size* ts + 1
    arguments-length formed_none = omega arith
    arguments-length (formed_more {t = t} {ts = ts} f g) = omega (arith, length-append (text t) (after_argument ts), text_length f, after_argument-length g)

    after_argument-length : {ts : Terms} → Formed* arities n ts → length (after_argument ts) ≤ 6 * size* ts + 1
    after_argument-length formed_none = omega arith
    after_argument-length (formed_more {t = t} {ts = ts} f g) = omega (arith, length-append (text t) (after_argument ts), text_length f, after_argument-length g)

pub line-length : (key value : List ℕ) → length (line key value) ≡ length key + length value + 1
unfolding line
line-length key value = simp length-append (omega arith)

-- two lines an equation, 13 bytes beside the terms
equations-length : (b : Bounds) {arities : List ℕ} {n : ℕ} → Short arities n → (es : List Equation) → All (Formed arities n) (sides es)
    → length (equation_lines es) ≤ 6 * length (row b (sides es)) + 13 * length es
unfolding equation_lines sides row
equations-length b short [] fs = omega arith
equations-length b short (e ∷ es) (both f (both g fs)) =
    let l = e.left in
    let r = e.right in
    omega (
      arith,
      length-append (line left_key (text l)) (line right_key (text r) ++ equation_lines es),
      length-append (line right_key (text r)) (equation_lines es),
      line-length left_key (text l),
      line-length right_key (text r),
      text_length short f,
      text_length short g,
      length-append (words b l) (words b r ++ row b (sides es)),
      length-append (words b r) (row b (sides es)),
      length_words b l,
      length_words b r,
      equations-length b short es fs,
    )

-- arities of one digit, each with a comma
further-length : {ns : List ℕ} → All (λ a. a ≤ ARITY) ns → length (further_numbers ns) ≤ 2 * length ns
unfolding further_numbers
further-length All.none = omega arith
further-length (both {x = a} {xs = ns} h hs) = omega (arith, length-append (decimal a) (further_numbers ns), decimal-length 0 a (omega arith), further-length hs)

numbers-length : {ns : List ℕ} → All (λ a. a ≤ ARITY) ns → length (numbers ns) ≤ 2 * length ns
unfolding numbers
numbers-length All.none = omega arith
numbers-length (both {x = a} {xs = ns} h hs) = omega (arith, length-append (decimal a) (further_numbers ns), decimal-length 0 a (omega arith), further-length hs)

-- every good question's text is shorter than what the program reads
pub question-length : (q : Question) → Good edition_one q → length (question_text q) < 32768
unfolding question_text edition_one
question-length q good =
    let short : Short q.arities q.unknowns = record { functors = omega (arith, good.functors); unknowns = omega (arith, good.unknowns) } in
    let edition = line edition_key (decimal 1) in
    let unknowns = line unknowns_key (decimal q.unknowns) in
    let arities = line arities_key (numbers q.arities) in
    let equations = line equations_key (decimal (length q.equations)) in
    let rest = equation_lines q.equations in
    omega (
      arith,
      length-append edition (unknowns ++ (arities ++ (equations ++ rest))),
      length-append unknowns (arities ++ (equations ++ rest)),
      length-append arities (equations ++ rest),
      length-append equations rest,
      line-length edition_key (decimal 1),
      decimal-length 0 1 (omega arith),
      line-length unknowns_key (decimal q.unknowns),
      decimal-length 2 q.unknowns (omega (arith, good.unknowns)),
      line-length arities_key (numbers q.arities),
      numbers-length good.arities,
      good.functors,
      line-length equations_key (decimal (length q.equations)),
      decimal-length 1 (length q.equations) (omega (arith, good.equations)),
      good.equations,
      equations-length edition_one short q.equations good.formed,
      good.symbols,
    )
