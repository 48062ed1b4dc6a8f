-- From a check that is fine to what the comparison starts from, and from what it tells to the answer: for a row of two ground terms, and for a question
-- with a row of values.
use Rattle.std.specs.Prelude.{Ok}
use Prim.Native.Nat.{ℕ, ◌+◌, ◌*◌, ◌≤◌}
use mathlib.Core.Path.{◌≡◌, ap, ap₂, sym, ◌∙◌}
use mathlib.Core.List.{List, [], ◌++◌}
use mathlib.Core.Bool.{and-true}
use native.Mathlib.Omega.{arith}
use native.Mathlib.Nat.{zero-add}
use lib.ListN.{length, take, drop, length-append}
use lib.Seq.{length-take-le}
use Rattle.room.specs.Room.{seg, put, put-put, seg-put_same}
use Rattle.terms.specs.Bounds.{edition_one, edition_one_proper, SYMBOLS, UNKNOWNS}
use Rattle.checks.specs.Check.{check_question, check_row}
use Rattle.terms.specs.Formed.{Equation, sides}
use Rattle.checks.specs.Lent.{Row, Asked, table_worded, good_worded, check_row_ground, check_question-asked, length_sides}
use Rattle.checks.specs.Pushed.{formed_top, formed_drop}
use Rattle.terms.specs.Reading.{read, top, question_of}
use Rattle.laws.specs.Equal.{equal}
use Rattle.laws.specs.Values.{in_order, solves_test}
use Rattle.term_places.specs.Places.{terms_from, held, values, Placed, PLACES}
use Rattle.term_places.specs.Opened.{value_ground}
use Rattle.holding.specs.Holding.{holding, Equations, WithValues}
use Rattle.holding.proofs.Asking.{from_first, from-values, holding_solves}

-- ---- two ground terms

module _ (arities row : List ℕ) (fine : check_row edition_one arities 2 row ≡ Ok tt) where
  two : Row edition_one arities 0 2 row (read edition_one arities row)
  two = (check_row_ground edition_one_proper arities 2 row fine).1

  pub two_short : length row ≤ SYMBOLS
  unfolding edition_one
  two_short = two.symbols

  two_placed : Placed (held arities row [])
  two_placed =
      record {
        terms =
            record {
              limits = table_worded edition_one_proper (check_row_ground edition_one_proper arities 2 row fine).0 (omega arith);
              terms = read edition_one arities row;
              formed = two.formed;
              worded = two.worded;
            };
        inside = λ i l. absurd (omega arith);
        grounded = λ i l. absurd (omega arith);
      }

  pub two_equations : {labels : List ℕ} → length labels ≡ length row → Equations (held arities row []) labels 1
  unfolding terms_from
  two_equations e = record { placed = two_placed; enough = omega (arith, two.count); long = e; few = omega (arith, two_short) }

  pub two_told : holding (values (held arities row [])) 1 (terms_from edition_one arities row 0)
      ≡ equal (top (read edition_one arities row)) (top (drop 1 (read edition_one arities row)))
  unfolding terms_from holding
  two_told =
      and-true _
      ∙ ap₂ equal (value_ground (values (held arities row [])) (formed_top two.formed)) (value_ground (values (held arities row [])) (formed_top (formed_drop 1 two.formed)))

-- ---- a question and its values

-- the question's words are laid down first, and then the row's
pub laid : (room words row : List ℕ) {first second : List ℕ} → length words + length row ≤ length room → first ≡ put room 0 words → second ≡ put first (length words) row
    → take (length words + length row) second ≡ words ++ row
unfolding seg
laid room words row h e f =
    let n : length (words ++ row) ≡ length words + length row = length-append words row in
    let p : put (put room 0 words) (length words) row ≡ put room 0 (words ++ row) = rw zero-add at (put-put words room row 0) in
    rw (f, e, p, ← n) (seg-put_same (words ++ row) room 0 (omega arith))

pub as_long : (k : ℕ) (l m : List ℕ) → k ≤ length l → k ≤ length m → length (take k l) ≡ length (take k m)
as_long k l m i j = length-take-le k l i ∙ sym (length-take-le k m j)

module _ (n : ℕ) (arities : List ℕ) (e : ℕ) (words row : List ℕ) (fine : check_question edition_one n arities e words ≡ Ok tt) (fine_row : check_row edition_one arities n row ≡ Ok tt) where
  asked : Asked edition_one e words (question_of edition_one n arities words)
  asked = check_question-asked edition_one_proper n arities e words fine

  given : Row edition_one arities 0 n row (read edition_one arities row)
  given = (check_row_ground edition_one_proper arities n row fine_row).1

  pub few_words : length words + length row ≤ PLACES
  unfolding edition_one
  few_words = omega (arith, ap length asked.worded, asked.good.symbols, given.symbols)

  pub few_unknowns : n ≤ UNKNOWNS
  unfolding edition_one question_of
  few_unknowns = asked.good.unknowns

  es : List Equation
  es = (question_of edition_one n arities words).equations

  question_with_values : WithValues edition_one arities (words ++ row) n (length words) e
  unfolding es question_of
  question_with_values =
      record {
        limits = good_worded edition_one_proper asked.good;
        sides = sides es;
        values = read edition_one arities row;
        formed_sides = asked.good.formed;
        formed_values = given.formed;
        worded = ap₂ (λ l m. l ++ m) asked.worded given.worded;
        length_sides = ap length asked.worded;
        equations = length_sides es ∙ ap (λ k. 2 * k) asked.count;
        unknowns = given.count;
        few = omega (arith, length-append words row, few_words);
      }

  module _ {all : List ℕ} {m : ℕ} (a : all ≡ words ++ row) (b : m ≡ n) where
    pub with_values : WithValues edition_one arities all m (length words) e
    with_values = rw (a, b) question_with_values

    pub values-told : holding (in_order (terms_from edition_one arities all (length words))) e (terms_from edition_one arities all 0)
        ≡ solves_test (in_order (read edition_one arities row)) (question_of edition_one n arities words).equations
    unfolding es question_with_values
    values-told =
        rw a
        (ap₂ (λ vs ts. holding (in_order vs) e ts) (from-values question_with_values) (from_first question_with_values)
        ∙ ap (λ k. holding (in_order (read edition_one arities row)) k (sides es ++ read edition_one arities row)) (sym asked.count)
        ∙ holding_solves (in_order (read edition_one arities row)) es (read edition_one arities row))
