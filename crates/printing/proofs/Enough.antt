-- The sizes suffice: every good question's text is read and run, its list's text is shorter than the output, and no text is refused for want of space. A text is a
-- list of bytes; that a good question's is shorter than the 32,768 that are read is `question-length` of text/specs/Sizes.antt.
use Rattle.std.specs.Prelude.{ℕ, ◌≤◌, ◌<◌, ◌≡◌, List, length, replicate, Ok}
use Rattle.std.proofs.Math.Path.{refl}
use native.Mathlib.Omega.{arith}
use borrow.Author.Tests.{le-ltb, leb-true}
use Rattle.terms.specs.Answers.{listed}
use Rattle.terms.specs.Bounds.{edition_one, edition_one_proper, PATH_UNKNOWNS, FUNCTORS, SYMBOLS, NESTING, BYTES}
use Rattle.terms.specs.Formed.{Question, Good, sides, row}
use Rattle.terms.specs.Listing.{answers_of}
use Rattle.terms.specs.Lists.{All}
use Rattle.terms.specs.Refusal.{number}
use Rattle.terms.specs.Term.{nesting}
use Rattle.terms.specs.declared.refusal.Cause.TheVariants.{Nesting}
use Rattle.terms.specs.declared.refusal.Refusal.{Refusal}
use Rattle.checks.specs.Check.{above, check_answers, after_check}
use Rattle.checks.specs.Lent.{good_check_question, question-back, check_answers-answered}
use Rattle.search.specs.declared.ends.End.{End}
use Rattle.search.specs.declared.ends.End.TheVariants.{Done, Steps, Depth, Names, Size, Space}
use Rattle.search.specs.Ends.{end_word}
use Rattle.search.specs.RunLimits.{most_steps}
use Rattle.search.specs.Run.{Outcome, ran}
use Rattle.text.specs.AnswerText.{list_text}
use Rattle.text.specs.ListSizes.{list_length}
use Rattle.text.specs.Sizes.{Short}
use Rattle.text.specs.Text.{question_text}
use Rattle.numerals.specs.TextReading.{Reading, read, and_then, then-read}
use Rattle.numerals.specs.TextReading as reading
use Rattle.term_reader.specs.ReadingPlaces.{Placed, stops}
use Rattle.question_reader.specs.Questions.{Asked, question}
use Rattle.question_reader.specs.WholePlaces.{question_placed}
use Rattle.roundtrip.specs.QuestionText.{asked, written-then-read, edition_one_narrow}
use Rattle.roundtrip.specs.QuestionSpans.{ComesFrom, comes_from, read-then-written}
use Rattle.reader.specs.LentBuffers.{fitted, question_into}
use Rattle.word_writer.specs.Depths.{First, all_within, first_at}
use Rattle.writer.specs.Written.{tested, nested, check_list, list_written, text_of_list}
use Rattle.writer.specs.Written as writer
use Rattle.results.specs.Loans.{ending, loan, needed}
use Rattle.results.specs.Result.{gives, told, told_within}
use Rattle.guarantees.specs.Calls.{Lending, in_words}
use Rattle.guarantees.proofs.Promised.{end_by_number, list-fits, steps_suffice}
use Rattle.guarantees.proofs.Subjects.GrantedList.{list_fine}
use Rattle.printing.specs.Solved.{STEPS, DEPTH, SIZE, ANSWERS, ROOM, OUTPUT, Found, lists, refused, of_written, of_list, of_run, of_words, of_reading, found}

-- what is found has the room that it needs: a list's text fits the output, and a refusal is none of 7 and 8
pub data Enough : Found → Type 0 where
  fits : {text : List ℕ} → length text < OUTPUT → Enough (lists text)
  tells : {r : Refusal} → number r.cause ≤ 6 → Enough (refused r)

nested_enough : (deep : First) (text : List ℕ) → length text < OUTPUT → Enough (of_written (nested deep OUTPUT text) text)
unfolding of_written nested writer.fitted
nested_enough (first_at p) text h = tells {r = record { cause = Nesting; place = p }} (omega arith)
nested_enough all_within text h = rw (le-ltb OUTPUT (length text) (omega arith)) (fits h)

end-length : (e : End) → length (end_word e) ≤ 5
end-length Done = omega arith
end-length Steps = omega arith
end-length Depth = omega arith
end-length Names = omega arith
end-length Size = omega arith
end-length Space = omega arith

-- ---- a good question is read whole, and run

-- the run of a question with what the program lends
unfoldable pub run_of : Question → Outcome
run_of g = ran edition_one g (record { steps = STEPS; depth = DEPTH; size = SIZE; space = ANSWERS })

module _ (g : Question) (good : Good edition_one g) where
  held : (p : ℕ) → fitted FUNCTORS SYMBOLS p (asked edition_one g) ≡ read p (asked edition_one g)
  unfolding fitted edition_one
  held p = rw (le-ltb FUNCTORS (length g.arities) good.functors, le-ltb SYMBOLS (length (row edition_one (sides g.equations))) good.symbols)

  abbrev outcome : Outcome
  outcome = run_of g

  granted : told g.unknowns g.arities (length g.equations) (row edition_one (sides g.equations)) STEPS DEPTH SIZE ANSWERS ROOM ≡ gives outcome
  unfolding told told_within after_check loan needed run_of
  granted = rw (good_check_question edition_one_proper g good, question-back edition_one_proper g good) refl

  -- its list is taken, or nests too deep
  abbrev lent : Lending
  lent = record { steps = STEPS; depth = DEPTH; size = SIZE; answers = replicate ANSWERS 0; room = replicate ROOM 0 }

  few : outcome.visited ≤ STEPS
  few = steps_suffice (in_words g) lent outcome granted

  list_fine_words : check_answers edition_one g.arities (length outcome.answers) (listed outcome.answers) ≡ Ok tt
  unfolding check_list above
  list_fine_words = rw (end_by_number outcome.end, le-ltb most_steps outcome.visited (omega (arith, few))) at (list_fine (in_words g) lent outcome granted)

  text_fits : length (list_text (end_word outcome.end) outcome.visited (answers_of edition_one g.arities (length outcome.answers) (listed outcome.answers))) < OUTPUT
  unfolding edition_one
  text_fits =
      let a = check_answers-answered edition_one_proper g.arities (length outcome.answers) (listed outcome.answers) list_fine_words in
      let short : Short g.arities PATH_UNKNOWNS = record { functors = omega (arith, good.functors); unknowns = omega arith } in
      let words = list-fits (in_words g) lent outcome granted in
      list_length edition_one short (end_word outcome.end) outcome.visited _ a.1.formed (rw a.1.worded words) (end-length outcome.end) (omega (arith, few))

  list_enough : Enough (of_list g.arities (ending outcome) (listed outcome.answers))
  unfolding of_list list_written tested ending text_of_list
  list_enough = rw (list_fine (in_words g) lent outcome granted, end_by_number outcome.end) (nested_enough _ _ text_fits)

  read_enough : (p : ℕ) → Enough (of_reading (fitted FUNCTORS SYMBOLS p (asked edition_one g)))
  unfolding of_reading of_words of_run
  read_enough p = rw (held p, granted) list_enough

  -- so its text, if it nests no deeper than text may, is read as this question and run with what the program lends
  pub good_found : All (λ t. nesting t ≤ NESTING) (sides g.equations) → found (question_text g) ≡ of_run g.arities (gives (run_of g))
  unfolding found question_into of_reading of_words edition_one
  good_found nests = rw (then-read (fitted FUNCTORS SYMBOLS) (written-then-read edition_one edition_one_narrow g good nests), held _, granted) refl

-- ---- any text

-- what is found for a text of bytes: a list that fits the output, or a refusal of number 1 to 6
pub found_enough : (text : List ℕ) → All (λ b. b < BYTES) text → Enough (found text)
unfolding found question_into and_then of_reading
found_enough text bytes = go (question edition_one text) refl (question_placed edition_one text)
  where
    asked_enough : (p : ℕ) (a : Asked) → ComesFrom edition_one text a → Enough (of_reading (fitted FUNCTORS SYMBOLS p a))
    asked_enough p a (comes_from g good nests same written) = rw same (read_enough g good p)

    go : {P : Asked → Type 0} (x : Reading Asked) → question edition_one text ≡ x → Placed text (length text) P x → Enough (of_reading (and_then x (fitted FUNCTORS SYMBOLS)))
    go (read p a) e h = asked_enough p a (read-then-written edition_one text bytes p a e)
    go (reading.refused r) e (stops cause p small h) = tells (leb-true (number cause) 6 small)
