-- The lines of `Promised` about texts, ground terms, refusals and numbers, 5 to 9, applied to specimens.
use Rattle.std.specs.Prelude.{ℕ, ◌≤◌, ◌<◌, ◌≡◌, refl, List, [], ◌∷◌, ◌++◌, ◌⊎◌, length, take, replicate, Err, Ok, Some}
use Rattle.std.proofs.Common.{arith}
use Rattle.terms.specs.Bounds.{edition_one, BYTES, NESTING}
use Rattle.terms.specs.Lists.{All, all}
use Rattle.terms.specs.Term.{unknown, with, empty, functor, none, more as and_more, members, kernel, list, nesting}
use Rattle.terms.specs.Formed.{sides, Good}
use Rattle.terms.specs.Kind.{takes}
use Rattle.checks.specs.Lent.{Asked}
use Rattle.terms.specs.Answers.{listed}
use Rattle.terms.specs.Listing.{nothing as no_parts, term_word, name_word, count_word, parts, answers_of}
use Rattle.terms.specs.Refusal.{number}
use Rattle.terms.specs.declared.refusal.Cause.TheVariants.{Byte, Limit, Nesting, Buffer, WordsStop}
use Rattle.laws.specs.Laws.{◌≈◌}
use Rattle.laws.specs.Values.{value, in_order, Solves, holds_test, solves_test}
use Rattle.search.specs.declared.ends.End.TheVariants.{Space}
use Rattle.search.specs.Ends.{end_of}
use Rattle.text.specs.AnswerText.{binding_lines, answer_lines, list_text}
use Rattle.text.specs.Text.{digits, decimal, further_numbers, numbers, unknown_name, functor_name, text, line, equation_lines, question_text}
use Rattle.numerals.specs.TextReading.{and_then}
use Rattle.numerals.specs.Bytes.{byte, met, meets}
use Rattle.header_reader.specs.HeaderText.{header}
use Rattle.header_reader.specs.HeaderText as header
use Rattle.reader.specs.LentBuffers.{question_into, answer}
use Rattle.question_reader.specs.Questions as reader
use Rattle.question_reader.specs.WholePlaces.{literal}
use Rattle.word_writer.specs.Pen.{counted}
use Rattle.word_writer.specs.Depths.{depths, row_depths, all_within, found, first_above}
use Rattle.lines.specs.ListLines.{binding_depths, list_depths}
use Rattle.equality.specs.Answering.{equality_after, equal_answer, solving_after, solves_answer}
use Rattle.writer.specs.Written.{held, fitted, nested, tested, too_deep_in, too_deep_in_list, question_written, check_list, text_of_list, list_written}
use Rattle.results.specs.Result.{refuses, result}
use Rattle.guarantees.specs.Calls.{Posed, asked, in_words, Lending, in_room, run_told, answers_after, question_told, question_after, list_told, list_after, text_told, arities_after, words_after}
use Rattle.guarantees.specs.Notions.{largest, NestsWithin, Writable, Writes, Reads, question_in, Compared, Tried, OneOf}
use Rattle.guarantees.proofs.Examples.{calling, question, sufficient, outcome, gave, pair, one_answer, first_answer, gave_one}
use Rattle.guarantees.proofs.Promised

-- a key: what writing computes by, beside the check of words
unfoldable writing_key : Unit {0}
unfolding question_written list_written check_list too_deep_in too_deep_in_list first_above found row_depths depths list_depths binding_depths tested nested fitted counted question_text equation_lines line text decimal digits numbers further_numbers unknown_name functor_name text_of_list list_text answer_lines binding_lines answers_of parts count_word name_word term_word no_parts takes sides
writing_key = tt

-- ---- 5

-- the list of x0 = {a|x0} takes 74 bytes
ten_bytes : list_told (0 ∷ []) 0 3 1 (listed outcome.answers) (replicate 10 0) ≡ Err (record { cause = Buffer; place = 74 })
unfolding calling writing_key
ten_bytes = refl

list-taken : (number Buffer ≡ 6) ⊎ (number Buffer ≡ 7)
list-taken = Promised.list-taken question sufficient outcome gave (replicate 10 0) _ ten_bytes

-- ---- 6

-- its text has 65 bytes
abbrev page : List ℕ
page = replicate 70 0

wrote : question_told question page ≡ Ok 65
unfolding calling writing_key
wrote = refl

writable : Writable question 65 page
writable = (Promised.written_exactly question 65 page).0 wrote

good : Good edition_one (asked question)
good = writable.good.good

written : Writes (in_words (asked question)) (question_text (asked question)) page
unfolding calling writing_key
written = Promised.good_written (asked question) good writable.nests page (omega arith)

short : length (question_text (asked question)) < 32768
short = Promised.text_fits (asked question) good

abbrev whole : List ℕ
whole = take 65 (question_after question page)

-- read back into buffers that just hold it
read_again : Reads whole question (9 ∷ []) (replicate 4 9)
read_again = Promised.written-then-read question 65 page wrote (9 ∷ []) (replicate 4 9) (omega arith) (omega arith)

-- and written again from there
bytes : All (λ b. b < BYTES) whole
unfolding calling writing_key held all
bytes = literal whole refl

written-again : Writes (question_in (arities_after whole (9 ∷ []) (replicate 4 9)) (words_after whole (9 ∷ []) (replicate 4 9)) 1 1 1 4) whole page
unfolding calling writing_key held
written-again = Promised.read-then-written whole (9 ∷ []) (replicate 4 9) 1 1 1 4 bytes read_again.back page (omega arith)

-- {..{}..} with 201 brackets around {}: 6 at the word of the last one
abbrev deep : Posed
deep = record { unknowns = 0; arities = []; equations = 1; words = replicate 201 1 ++ replicate 203 0 }

too_deep : question_told deep page ≡ Err (record { cause = Nesting; place = 200 })
unfolding calling writing_key
too_deep = refl

nests_deep : Asked edition_one 1 (replicate 201 1 ++ replicate 203 0) (asked deep) × (NestsWithin NESTING (asked deep) → ⊥)
nests_deep = (Promised.too_deep_exactly deep page).0 (_, too_deep, refl)

-- {a|x0} and g({}) nest once
set_nests : nesting (with (functor 0 none) (unknown 0)) ≡ 1
unfolding largest nesting members kernel
set_nests = Promised.set_nests (functor 0 none) (unknown 0)

functor_nests : nesting (functor 3 (and_more empty none)) ≡ 1
unfolding largest nesting list
functor_nests = Promised.functor_nests 3 empty none

shallow : too_deep_in edition_one (asked question) ≡ all_within
shallow = (Promised.question_nests (asked question)).1 writable.nests

answers_shallow : All (All (λ b. nesting b.value ≤ NESTING)) (answers_of edition_one (0 ∷ []) 1 (1 ∷ 0 ∷ 1 ∷ 2000 ∷ 1001 ∷ []))
unfolding calling writing_key
answers_shallow = (Promised.answers_nest (answers_of edition_one (0 ∷ []) 1 (1 ∷ 0 ∷ 1 ∷ 2000 ∷ 1001 ∷ []))).0 refl

-- ---- 7

-- {a} and {a,a}; {{a},a} and {a}
equal : Compared (0 ∷ []) (1 ∷ 2000 ∷ 0 ∷ 1 ∷ 2000 ∷ 1 ∷ 2000 ∷ 0 ∷ []) ◌≈◌
unfolding calling equal_answer equality_after
equal = (Promised.equal_exactly (0 ∷ []) (1 ∷ 2000 ∷ 0 ∷ 1 ∷ 2000 ∷ 1 ∷ 2000 ∷ 0 ∷ [])).0 refl

differ : Compared (0 ∷ []) (1 ∷ 1 ∷ 2000 ∷ 0 ∷ 1 ∷ 2000 ∷ 0 ∷ 1 ∷ 2000 ∷ 0 ∷ []) (λ t u. t ≈ u → ⊥)
unfolding calling equal_answer equality_after
differ = (Promised.differ_exactly (0 ∷ []) (1 ∷ 1 ∷ 2000 ∷ 0 ∷ 1 ∷ 2000 ∷ 0 ∷ 1 ∷ 2000 ∷ 0 ∷ [])).0 refl

-- {a} for x0 solves x0 = {a|x0}, and {} doesn't
yes : Tried question (1 ∷ 2000 ∷ 0 ∷ []) (λ σ. Solves σ (asked question).equations)
unfolding calling solves_answer solving_after solves_test holds_test value in_order
yes = (Promised.yes_exactly question (1 ∷ 2000 ∷ 0 ∷ [])).0 refl

no : Tried question (0 ∷ []) (λ σ. Solves σ (asked question).equations → ⊥)
unfolding calling solves_answer solving_after solves_test holds_test value in_order
no = (Promised.no_exactly question (0 ∷ [])).0 refl

-- ---- 8 and 9

-- a text that stops at once
no_text : answer (text_told [] (9 ∷ []) (9 ∷ [])) ≡ Err (record { cause = Byte; place = 0 })
unfolding question_into reader.question header header.line meets met byte answer and_then
no_text = refl

text_untouched : (arities_after [] (9 ∷ []) (9 ∷ []) ≡ 9 ∷ []) × (words_after [] (9 ∷ []) (9 ∷ []) ≡ 9 ∷ [])
text_untouched = Promised.text_refused [] (9 ∷ []) (9 ∷ []) _ no_text

text_number : OneOf (1 ∷ 2 ∷ 3 ∷ 4 ∷ 5 ∷ 6 ∷ 7 ∷ []) 1
text_number = Promised.text_numbers [] (9 ∷ []) (9 ∷ []) _ no_text

-- a question whose words stop
abbrev wordless : Posed
wordless = record { unknowns = 1; arities = 0 ∷ []; equations = 1; words = [] }

no_words : question_told wordless page ≡ Err (record { cause = WordsStop; place = 0 })
unfolding calling writing_key
no_words = refl

page_untouched : question_after wordless page ≡ page
page_untouched = Promised.question-refused wordless page _ no_words

question-number : OneOf (3 ∷ 8 ∷ 6 ∷ 7 ∷ []) 8
question-number = Promised.question-numbers wordless page _ no_words

-- an end that there isn't
no_end : list_told (0 ∷ []) 1 3 0 [] page ≡ Err (record { cause = Limit; place = 0 })
unfolding writing_key
no_end = refl

list_untouched : list_after (0 ∷ []) 1 3 0 [] page ≡ page
list_untouched = Promised.list-refused (0 ∷ []) 1 3 0 [] page _ no_end

list-number : OneOf (3 ∷ 8 ∷ 6 ∷ 7 ∷ []) 3
list-number = Promised.list-numbers (0 ∷ []) 1 3 0 [] page _ no_end

-- an arity of 9; no value
equal-number : OneOf (3 ∷ 8 ∷ []) 3
unfolding calling equal_answer equality_after
equal-number = Promised.equal-numbers (9 ∷ []) [] (record { cause = Limit; place = 0 }) refl

solves_number : OneOf (3 ∷ 8 ∷ []) 8
unfolding calling solves_answer solving_after
solves_number = Promised.solves_numbers question [] (record { cause = WordsStop; place = 0 }) refl

-- a room of a word too few
abbrev cramped : Lending
cramped = in_room (replicate 119 0) sufficient

no_room : run_told question cramped ≡ refuses (record { cause = Buffer; place = 120 })
unfolding calling
no_room = refl

run_untouched : answers_after question cramped ≡ replicate 5 0
unfolding result
run_untouched = (Promised.run_refused question cramped (record { cause = Buffer; place = 120 }) (rw no_room)).1

run_number : OneOf (3 ∷ 8 ∷ 7 ∷ []) 7
run_number = Promised.run_numbers question cramped _ no_room

-- end 23 is one that there is, and is told from its number
space_number : OneOf (0 ∷ 20 ∷ 21 ∷ 22 ∷ 23 ∷ []) 23
space_number = Promised.end-numbers pair one_answer first_answer gave_one

space_told : end_of 23 ≡ Some Space
space_told = Promised.end_by_number Space
