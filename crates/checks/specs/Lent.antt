-- What lent words hold: a question, a row of ground terms, a list of answers. For each, a check that is fine tells that the words are those of what is read
-- from them, which keeps the limits of SPECIFICATION 3.2; and the words of anything within the limits are fine and read back to it.
use Rattle.std.specs.Prelude.{ℕ, zero, suc, ◌*◌, ◌≤◌, ◌≡◌, Bool, true, false, ◌||◌, length, Ok}
use Rattle.std.proofs.Math.Path.{refl, ap}
use Rattle.std.proofs.Common.{sym, ◌∙◌, arith}
use mathlib.Core.List.{List, [], ◌∷◌, ◌++◌, append-nil, head-eq_of_cons-eq, tail-eq_of_cons-eq}
use Rattle.std.proofs.Math.Dec.{ltb}
use borrow.Author.Tests.{le-ltb, ltb-false}
use Rattle.terms.specs.Answers.{Binding, binding_words, answer_words, listed}
use Rattle.terms.specs.Bounds.{Bounds, Proper}
use Rattle.checks.specs.Check.{checked, above, arities_above, counts_above, check_terms, check_question, check_row, check_answers, Checked}
use Rattle.checks.specs.Checked.{held, never_fine, fine_terms, fine_list}
use Rattle.terms.specs.Kind.{Worded}
use Rattle.terms.specs.Listing.{Bound, parts, list_words, answers_of, bindings_determine}
use Rattle.terms.specs.Lists.{All, none, both, any, or_neither}
use Rattle.terms.specs.Term.{Term}
use Rattle.terms.specs.Formed.{Formed, Equation, sides, Question, row, Good}
use Rattle.terms.specs.Reading.{read, paired, question_of, row_read}

-- ---- limits

pub record Table (b : Bounds) (arities : List ℕ) : Type 0 where
  pub functors : length arities ≤ b.functors
  pub arities_within : All (λ a. a ≤ b.arity) arities

below : (c : Bool) (place : ℕ) (r : Checked) → above c place r ≡ Ok tt → (c ≡ false) × (r ≡ Ok tt)
unfolding above
below true place r e = never_fine e
below false place r e = (refl, e)

not-above : {c : Bool} (place : ℕ) {r : Checked} → c ≡ false → r ≡ Ok tt → above c place r ≡ Ok tt
unfolding above
not-above place e f = rw e f

none_above : (limit : ℕ) (l : List ℕ) → any (ltb limit) l ≡ false → All (λ a. a ≤ limit) l
unfolding any
none_above limit [] e = none
none_above limit (a ∷ l) e = let o = or_neither (ltb limit a) (any (ltb limit) l) e in both (ltb-false limit a o.0) (none_above limit l o.1)

all-below : {limit : ℕ} {l : List ℕ} → All (λ a. a ≤ limit) l → any (ltb limit) l ≡ false
unfolding any
all-below none = refl
all-below {limit} (both {x = a} h hs) = rw (le-ltb limit a h) (all-below hs)

pub table : (b : Bounds) (arities : List ℕ) → arities_above b arities ≡ false → Table b arities
unfolding arities_above
table b arities e =
    let o = or_neither (ltb b.functors (length arities)) (any (ltb b.arity) arities) e in
    record { functors = ltb-false b.functors (length arities) o.0; arities_within = none_above b.arity arities o.1 }

pub within_table : {b : Bounds} {arities : List ℕ} → Table b arities → arities_above b arities ≡ false
unfolding arities_above
within_table {b} {arities} h = rw (le-ltb b.functors (length arities) h.functors) (all-below h.arities_within)

-- within the limits every symbol has its word
pub table_worded : {b : Bounds} → Proper b → {arities : List ℕ} → Table b arities → {n : ℕ} → n ≤ b.path_unknowns → Worded b arities n
table_worded proper table h = record { proper = proper; functors = omega arith; unknowns = omega arith }

pub good_worded : {b : Bounds} → Proper b → {q : Question} → Good b q → Worded b q.arities q.unknowns
good_worded proper g = record { proper = proper; functors = omega arith; unknowns = omega arith }

-- ---- terms

-- words of so many formed terms, no more of them than one call may lend
pub record Row (b : Bounds) (arities : List ℕ) (n terms : ℕ) (ws : List ℕ) (ts : List Term) : Type 0 where
  pub count : length ts ≡ terms
  pub formed : All (Formed arities n) ts
  pub worded : row b ts ≡ ws
  pub symbols : length ws ≤ b.symbols

alone : (b : Bounds) (ts : List Term) (xs : List Binding) (l : List (List Binding)) {ws : List ℕ} → length xs ≡ 0 → length l ≡ 0
    → row b ts ++ (binding_words b xs ++ list_words b l) ≡ ws → row b ts ≡ ws
unfolding binding_words list_words listed
alone b ts [] [] p q e = sym (append-nil (row b ts)) ∙ e
alone b ts [] (x ∷ l) p q e = absurd (omega arith)
alone b ts (x ∷ xs) l p q e = absurd (omega arith)

module _ {b : Bounds} {arities : List ℕ} {n : ℕ} (worded : Worded b arities n) where
  pub check_terms-row : (terms : ℕ) (ws : List ℕ) → check_terms b arities n terms ws ≡ Ok tt → Row b arities n terms ws (read b arities ws)
  unfolding check_terms
  check_terms-row terms ws e =
      let c = below (ltb b.symbols (length ws)) b.symbols (checked b arities n ws 0 0 0 terms) e in
      let h = held worded.proper arities n ws 0 0 0 terms c.1 in
      let r = parts b arities ws 0 0 terms in
      let w : row b r.terms ≡ ws = alone b r.terms r.bindings r.answers h.bindings h.answers h.worded in
      let s : read b arities ws ≡ r.terms = ap (read b arities) (sym w) ∙ row_read worded h.formed_terms in
      rw s (record { count = h.terms; formed = h.formed_terms; worded = w; symbols = ltb-false b.symbols (length ws) c.0 })

  pub row-check_terms : {terms : ℕ} {ws : List ℕ} {ts : List Term} → Row b arities n terms ws ts → check_terms b arities n terms ws ≡ Ok tt
  unfolding check_terms checked
  row-check_terms {terms} {ws} {ts} r =
      not-above b.symbols (le-ltb b.symbols (length ws) r.symbols)
      (rw (← r.count, ← r.worded, ← (append-nil (row b ts))) (fine_terms worded r.formed [] 0 0 (λ p. refl) 0))

-- ---- a question

sides-paired : (ts : List Term) (e : ℕ) → length ts ≡ 2 * e → (sides (paired ts) ≡ ts) × (length (paired ts) ≡ e)
unfolding sides paired
sides-paired [] e h = (refl, omega arith)
sides-paired (t ∷ []) e h = absurd (omega arith)
sides-paired (t ∷ u ∷ ts) zero h = absurd (omega arith)
sides-paired (t ∷ u ∷ ts) (suc e) h = let r = sides-paired ts e (omega arith) in (ap (λ us. t ∷ u ∷ us) r.0, ap suc r.1)

paired-sides : (es : List Equation) → paired (sides es) ≡ es
unfolding sides paired
paired-sides [] = refl
paired-sides (e ∷ es) = ap (λ ds. e ∷ ds) (paired-sides es)

pub length_sides : (es : List Equation) → length (sides es) ≡ 2 * length es
unfolding sides
length_sides [] = refl
length_sides (e ∷ es) = omega (arith, length_sides es)

-- the question asked by so many equations in these words
pub record Asked (b : Bounds) (equations : ℕ) (ws : List ℕ) (q : Question) : Type 0 where
  pub good : Good b q
  pub count : length q.equations ≡ equations
  pub worded : row b (sides q.equations) ≡ ws

module _ {b : Bounds} (proper : Proper b) where
  pub check_question-asked : (n : ℕ) (arities : List ℕ) (e : ℕ) (ws : List ℕ) → check_question b n arities e ws ≡ Ok tt → Asked b e ws (question_of b n arities ws)
  unfolding check_question counts_above question_of
  check_question-asked n arities e ws f =
      let c = below (counts_above b n arities e) 0 (check_terms b arities n (2 * e) ws) f in
      let o = or_neither (ltb b.unknowns n) (arities_above b arities || ltb b.equations e) c.0 in
      let u = or_neither (arities_above b arities) (ltb b.equations e) o.1 in
      let known = ltb-false b.unknowns n o.0 in
      let t = table b arities u.0 in
      let r = check_terms-row (table_worded proper t (omega arith)) (2 * e) ws c.1 in
      let s = sides-paired (read b arities ws) e r.count in
      let few = ltb-false b.equations e u.1 in
      record {
        good =
            record {
              unknowns = known;
              functors = t.functors;
              arities = t.arities_within;
              equations = omega (arith, s.1);
              formed = rw s.0 r.formed;
              symbols = rw (s.0, r.worded) r.symbols;
            };
        count = s.1;
        worded = rw s.0 r.worded;
      }

  question_table : {q : Question} → Good b q → Table b q.arities
  question_table g = record { functors = g.functors; arities_within = g.arities }

  pub good_check_question : (q : Question) → Good b q
      → check_question b q.unknowns q.arities (length q.equations) (row b (sides q.equations)) ≡ Ok tt
  unfolding check_question counts_above
  good_check_question q g =
      not-above 0
      (rw (le-ltb b.unknowns q.unknowns g.unknowns, within_table (question_table g), le-ltb b.equations (length q.equations) g.equations))
      (row-check_terms (good_worded proper g)
      (record { count = length_sides q.equations; formed = g.formed; worded = refl; symbols = g.symbols }))

  pub question-back : (q : Question) → Good b q → question_of b q.unknowns q.arities (row b (sides q.equations)) ≡ q
  unfolding question_of
  question-back q g =
      ap (λ es. record { unknowns = q.unknowns; arities = q.arities; equations = es })
      (ap paired (row_read (good_worded proper g) g.formed) ∙ paired-sides q.equations)

  -- ---- a row of ground terms

  pub check_row_ground : (arities : List ℕ) (terms : ℕ) (ws : List ℕ) → check_row b arities terms ws ≡ Ok tt
      → Table b arities × Row b arities 0 terms ws (read b arities ws)
  unfolding check_row
  check_row_ground arities terms ws f =
      let c = below (arities_above b arities) 0 (check_terms b arities 0 terms ws) f in
      let t = table b arities c.0 in
      (t, check_terms-row (table_worded proper t (omega arith)) terms ws c.1)

  pub ground_check_row : {arities : List ℕ} {terms : ℕ} {ws : List ℕ} {ts : List Term} → Table b arities → Row b arities 0 terms ws ts → check_row b arities terms ws ≡ Ok tt
  unfolding check_row
  ground_check_row t r = not-above 0 (within_table t) (row-check_terms (table_worded proper t (omega arith)) r)

  pub ground_back : {arities : List ℕ} {terms : ℕ} {ws : List ℕ} {ts : List Term} → Table b arities → Row b arities 0 terms ws ts → read b arities ws ≡ ts
  ground_back {arities} {terms} {ws} {ts} t r = ap (read b arities) (sym r.worded) ∙ row_read (table_worded proper t (omega arith)) r.formed

-- ---- a list of answers

-- a list of so many answers in these words
pub record Answered (b : Bounds) (arities : List ℕ) (answers : ℕ) (ws : List ℕ) (l : List (List Binding)) : Type 0 where
  pub count : length l ≡ answers
  pub formed : All (All (Bound arities b.path_unknowns)) l
  pub worded : list_words b l ≡ ws

module _ {b : Bounds} {arities : List ℕ} {n : ℕ} (worded : Worded b arities n) where
  pub list_determines : {l m : List (List Binding)} → All (All (Bound arities n)) l → All (All (Bound arities n)) m → length l ≡ length m
      → list_words b l ≡ list_words b m → l ≡ m
  unfolding list_words listed answer_words
  list_determines none none h e = refl
  list_determines none (both g gs) h e = absurd (omega arith)
  list_determines (both f fs) none h e = absurd (omega arith)
  list_determines (both {x = x} {xs = l} f fs) (both {x = y} {xs = m} g gs) h e =
      let d = bindings_determine worded f g (head-eq_of_cons-eq e) (tail-eq_of_cons-eq e) in
      let r = list_determines fs gs (omega arith) d.1 in
      let s = d.0 in
      cc

-- the same, where only a list is held
list_alone : (b : Bounds) (ts : List Term) (xs : List Binding) (l : List (List Binding)) {ws : List ℕ} → length ts ≡ 0 → length xs ≡ 0
    → row b ts ++ (binding_words b xs ++ list_words b l) ≡ ws → list_words b l ≡ ws
unfolding row binding_words
list_alone b [] [] l p q e = e
list_alone b [] (x ∷ xs) l p q e = absurd (omega arith)
list_alone b (t ∷ ts) xs l p q e = absurd (omega arith)

module _ {b : Bounds} (proper : Proper b) where
  pub check_answers-answered : (arities : List ℕ) (answers : ℕ) (ws : List ℕ) → check_answers b arities answers ws ≡ Ok tt
      → Table b arities × Answered b arities answers ws (answers_of b arities answers ws)
  unfolding check_answers answers_of
  check_answers-answered arities answers ws f =
      let c = below (arities_above b arities) 0 (checked b arities b.path_unknowns ws 0 answers 0 0) f in
      let h = held proper arities b.path_unknowns ws 0 answers 0 0 c.1 in
      let r = parts b arities ws answers 0 0 in (
        table b arities c.0,
        record { count = h.answers; formed = h.formed_answers; worded = list_alone b r.terms r.bindings r.answers h.terms h.bindings h.worded },
      )

  module _ {arities : List ℕ} {answers : ℕ} {ws : List ℕ} {l : List (List Binding)} (t : Table b arities) (r : Answered b arities answers ws l) where
    pub answered-check_answers : check_answers b arities answers ws ≡ Ok tt
    unfolding check_answers
    answered-check_answers = not-above 0 (within_table t) (rw (← r.count, ← r.worded) (fine_list (table_worded proper t (omega arith)) r.formed 0))

    pub answers_back : answers_of b arities answers ws ≡ l
    answers_back =
        let a = (check_answers-answered arities answers ws answered-check_answers).1 in
        list_determines (table_worded proper t (omega arith)) a.formed r.formed (a.count ∙ sym r.count) (a.worded ∙ sym r.worded)
