-- The text of numbers, terms and questions, as bytes: SPECIFICATION 4.2 and 4.5.
-- The text of a term has the four cases of its nesting: a term, what follows a member, a functor's arguments, what follows an argument.
use Rattle.std.specs.Prelude.{ℕ, zero, suc, ◌+◌, ◌/◌, ◌%◌, Bool, true, false, List, [], ◌∷◌, ◌++◌, ltb, length}
use Rattle.terms.specs.Term.{Term, Terms, unknown, empty, with, functor, none, more}
use Rattle.terms.specs.Formed.{Question, Equation}
use Rattle.text.specs.Keys.{edition_key, unknowns_key, arities_key, equations_key, left_key, right_key}

-- by a test; the case that is not taken is not computed
abbrev pub choose : {A : Type 0} → Bool → (Unit {0} → A) → (Unit {0} → A) → A
choose true a b = a tt
choose false a b = b tt

-- the decimal digits of n, at most f + 1 of them
unfoldable pub digits : ℕ → ℕ → List ℕ
digits zero n = (48 + n) ∷ []
digits (suc f) n = choose (ltb n 10) (λ _. (48 + n) ∷ []) (λ _. digits f (n / 10) ++ ((48 + n % 10) ∷ []))

-- plain decimal without a leading zero; n has at most n + 1 digits
unfoldable pub decimal : ℕ → List ℕ
decimal n = digits n n

-- numbers with commas between
unfoldable pub further_numbers : List ℕ → List ℕ
further_numbers [] = []
further_numbers (n ∷ ns) = 44 ∷ (decimal n ++ further_numbers ns)

unfoldable pub numbers : List ℕ → List ℕ
numbers [] = []
numbers (n ∷ ns) = decimal n ++ further_numbers ns

-- x3
unfoldable pub unknown_name : ℕ → List ℕ
unknown_name i = 120 ∷ decimal i

-- f2
unfoldable pub functor_name : ℕ → List ℕ
functor_name k = 102 ∷ decimal k

unfoldable mutual
  -- x3, {}, {t,t|s}, f2(t,t)
  pub text : Term → List ℕ
  text (unknown i) = unknown_name i
  text empty = 123 ∷ 125 ∷ []
  text (with m r) = 123 ∷ (text m ++ after_member r)
  text (functor k ts) = functor_name k ++ arguments ts

  -- what follows a member: a comma and a further member, a bar and the tail, or nothing; then the closing bracket
  pub after_member : Term → List ℕ
  after_member (unknown i) = 124 ∷ (unknown_name i ++ (125 ∷ []))
  after_member empty = 125 ∷ []
  after_member (with m r) = 44 ∷ (text m ++ after_member r)
  after_member (functor k ts) = 124 ∷ (functor_name k ++ (arguments ts ++ (125 ∷ [])))

  -- arguments in brackets; no brackets where there are none
  pub arguments : Terms → List ℕ
  arguments none = []
  arguments (more t ts) = 40 ∷ (text t ++ after_argument ts)

  -- what follows an argument: a comma and a further one, or the closing bracket
  pub after_argument : Terms → List ℕ
  after_argument none = 41 ∷ []
  after_argument (more t ts) = 44 ∷ (text t ++ after_argument ts)

-- key=value, closed by one LF
unfoldable pub line : List ℕ → List ℕ → List ℕ
line key value = key ++ (value ++ (10 ∷ []))

unfoldable pub equation_lines : List Equation → List ℕ
equation_lines [] = []
equation_lines (e ∷ es) = line left_key (text e.left) ++ (line right_key (text e.right) ++ equation_lines es)

unfoldable pub question_text : Question → List ℕ
question_text q =
    line edition_key (decimal 1)
    ++ (line unknowns_key (decimal q.unknowns)
    ++ (line arities_key (numbers q.arities)
    ++ (line equations_key (decimal (length q.equations))
    ++ equation_lines q.equations)))
