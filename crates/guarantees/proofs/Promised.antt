-- What a customer may rely on, call by call, under nine heads; read it with docs/SPECIFICATION.md beside it. Nothing is asked of a call but that it gave what it gave: the line
-- `run_told q l ≡ gives o` says that `run`, asked q and lent l, was granted with the outcome o. Nothing is assumed, and each line is proved where it points to.
--
-- specs/Calls has the terms of the entries' contracts, specs/Notions the notions that are new here, `Examples` a specimen for each line. Of the crates below: terms/specs/Formed
-- has questions and when they are good, laws/specs/Laws when terms are equal, laws/specs/Values when values solve, answers/specs/Fits what it is to meet and to fit
-- an answer, search/specs/Run the published search, promises/specs/Wording when a loan is no less than another, terms/specs/Refusal and search/specs/Ends the
-- numbers of refusals and ends.
use Rattle.std.specs.Prelude.{ℕ, suc, ◌≤◌, ◌<◌, ◌≡◌, List, [], ◌∷◌, ◌++◌, map, ◌↔◌, ◌⊎◌, length, take, drop, true, false, Ok, Err, Some}
use Rattle.std.proofs.Common.{Ok, Err}
use Rattle.terms.specs.Bounds.{edition_one, NESTING, BYTES}
use Rattle.terms.specs.Lists.{All, Any}
use Rattle.terms.specs.Term.{Term, Terms, with, functor, more, members, kernel, list, nesting}
use Rattle.terms.specs.Formed.{Question, Good}
use Rattle.terms.specs.Answers.{Binding, answer_words, listed}
use Rattle.checks.specs.Lent.{Asked}
use Rattle.terms.specs.Listing.{answers_of}
use Rattle.terms.specs.Refusal.{number}
use Rattle.terms.specs.declared.refusal.Refusal.{Refusal}
use Rattle.laws.specs.Laws.{◌≈◌}
use Rattle.laws.specs.Values.{Values, GroundValues, Solves}
use Rattle.search.specs.declared.ends.End.{End}
use Rattle.search.specs.Ends.{end_number, end_of}
use Rattle.search.specs.Run.{Loan, Outcome, ran}
use Rattle.answers.specs.Fits.{Meets, Fits}
use Rattle.promises.specs.Wording.{NoLess}
use Rattle.text.specs.Text.{question_text}
use Rattle.text.specs.Sizes.{question-length}
use Rattle.reader.specs.LentBuffers.{answer}
use Rattle.word_writer.specs.Depths.{all_within}
use Rattle.writer.specs.Written.{too_deep_in, too_deep_in_list}
use Rattle.equality.specs.Answering.{equal_answer}
use Rattle.results.specs.Loans.{ending}
use Rattle.results.specs.Result.{gives, refuses, result}
use Rattle.results.specs.declared.ran.Ending.{Ending}
use Rattle.guarantees.specs.Calls.{Posed, asked, in_words, Lending, loan_of, in_room, run_told, answers_after, used, question_told, question_after, list_told, list_after, solves_told, text_told, arities_after, words_after}
use Rattle.guarantees.specs.Notions.{Granted, ReadOnce, largest, NestsWithin, Writable, Writes, Reads, question_in, Compared, Tried, OneOf}
use Rattle.guarantees.proofs.Subjects.Granting as granting
use Rattle.guarantees.proofs.Subjects.AnswersTrue as answering
use Rattle.guarantees.proofs.Subjects.GrantedList as listing
use Rattle.guarantees.proofs.Subjects.MoreLent as more-lent
use Rattle.guarantees.proofs.Subjects.Nesting as nests
use Rattle.guarantees.proofs.Subjects.Texts as texts
use Rattle.guarantees.proofs.Subjects.ComparedByLaws as comparing
use Rattle.guarantees.proofs.Subjects.Refusing as refusing
use Rattle.guarantees.proofs.Subjects.RefusalNumbers as numbers

-- ---- 1. a granted run

-- granted exactly if the limits are in range, the words ask a good question and the room is large enough; the outcome is that of the published search
pub granted_exactly : (q : Posed) (l : Lending) (o : Outcome) → (run_told q l ≡ gives o) ↔ Granted q l o
granted_exactly = granting.granted_exactly

-- what is given back then: the outcome's end, nodes visited, answers, and the words that these take
pub ended_exactly : (q : Posed) (l : Lending) (e : Ending) → (result (run_told q l) ≡ Ok e) ↔ ((o : Outcome) × (run_told q l ≡ gives o) × (ending o ≡ e))
ended_exactly = granting.ended_exactly

module _ (q : Posed) (l : Lending) (o : Outcome) (gave : run_told q l ≡ gives o) where
  -- ---- 2. every answer true and none lost

  -- each listed answer states bindings, and no others
  pub answers_read_once : All (ReadOnce q) o.answers
  answers_read_once = answering.read_once q l o gave

  -- values that meet a listed answer solve the question, whether the run is done or not
  pub answers_true : All (λ answer. (σ : Values) → Meets edition_one (asked q) σ answer → Solves σ (asked q).equations) o.answers
  answers_true = answering.answers_true q l o gave

  -- where the end is done, ground values over any functor table solve the question exactly if they fit some listed answer
  pub done_exactly : end_number o.end ≡ 0 → (table : List ℕ) (σ : Values) → GroundValues table σ → Solves σ (asked q).equations ↔ Any (Fits edition_one (asked q) table σ) o.answers
  done_exactly = answering.done_exactly q l o gave

  -- done without answers: no ground values solve the question
  pub done-without_answers : end_number o.end ≡ 0 → length o.answers ≡ 0 → (table : List ℕ) (σ : Values) → GroundValues table σ → Solves σ (asked q).equations → ⊥
  done-without_answers = answering.done-without_answers q l o gave

-- ---- 3. more lent, same list

module _ (q : Posed) (l m : Lending) (o p : Outcome) (first : run_told q l ≡ gives o) (second : run_told q m ≡ gives p) where
  -- the second is lent no less steps, depth, size and space: its buffer begins with the words that the first one's list took
  pub list-kept : NoLess (loan_of l) (loan_of m) → take (used o) (answers_after q m) ≡ take (used o) (answers_after q l)
  list-kept = more-lent.list-kept q l m o p first second

  -- and where the first is done the second is told the same, in every number and word
  pub done_repeated : NoLess (loan_of l) (loan_of m) → end_number o.end ≡ 0 → run_told q m ≡ run_told q l
  done_repeated = more-lent.done_repeated q l m o p first second

-- two granted calls that differ in the room alone, in what it holds or in its length, have one outcome; with the same length a refused call too is told the same
pub room_neutral : (q : Posed) (l : Lending) (room : List ℕ) (o p : Outcome) → run_told q l ≡ gives o → run_told q (in_room room l) ≡ gives p → p ≡ o
room_neutral = more-lent.room_neutral

pub contents_neutral : (q : Posed) (l : Lending) (room : List ℕ) → length room ≡ length l.room → run_told q (in_room room l) ≡ run_told q l
contents_neutral = more-lent.contents_neutral

-- some loan is enough: with it and with every larger one the search of the same question is done. It may lie above the run limits, so this is said of the search alone
pub enough_lent : (q : Posed) (l : Lending) (o : Outcome) → run_told q l ≡ gives o → (least : Loan) × ((more : Loan) → NoLess least more → end_number (ran edition_one (asked q) more).end ≡ 0)
enough_lent = more-lent.enough_lent

module _ (q : Posed) (l : Lending) (o : Outcome) (gave : run_told q l ≡ gives o) where
  -- ---- 4. the list fits what was lent

  -- its words are no more than were lent, and the nodes visited no more than the steps
  pub list-fits : used o ≤ length l.answers
  list-fits = listing.list-fits q l o gave

  pub steps_suffice : o.visited ≤ l.steps
  steps_suffice = listing.steps_suffice q l o gave

  -- the buffer begins with the list, and every later word is as it was
  pub buffer_after : answers_after q l ≡ listed o.answers ++ drop (used o) l.answers
  buffer_after = listing.buffer_after q l o gave

  -- the answers are read back from these words and their count
  pub list-read-back : map (answer_words edition_one) (answers_of edition_one q.arities (length o.answers) (listed o.answers)) ≡ o.answers
  list-read-back = listing.list-read-back q l o gave

  -- ---- 5. what a run lists, write_answers takes

  -- refused for nesting or for the buffer's length, if at all
  pub list-taken : (buffer : List ℕ) (r : Refusal) → list_told q.arities (end_number o.end) o.visited (length o.answers) (listed o.answers) buffer ≡ Err r
      → (number r.cause ≡ 6) ⊎ (number r.cause ≡ 7)
  list-taken = listing.list-taken q l o gave

-- ---- 6. reading and writing

-- written exactly if the words ask a good question of nesting at most 200 and the buffer holds its text
pub written_exactly : (q : Posed) (n : ℕ) (buffer : List ℕ) → (question_told q buffer ≡ Ok n) ↔ Writable q n buffer
written_exactly = texts.written_exactly

-- refused with 6 exactly if they ask a good question that nests deeper
pub too_deep_exactly : (q : Posed) (buffer : List ℕ)
    → ((r : Refusal) × (question_told q buffer ≡ Err r) × (number r.cause ≡ 6)) ↔ (Asked edition_one q.equations q.words (asked q) × (NestsWithin NESTING (asked q) → ⊥))
too_deep_exactly = texts.too_deep_exactly

-- so every good question of nesting at most 200 is written where its text fits, and 32,768 bytes hold it
pub good_written : (g : Question) → Good edition_one g → NestsWithin NESTING g → (buffer : List ℕ) → length (question_text g) ≤ length buffer → Writes (in_words g) (question_text g) buffer
good_written = texts.good_written

pub text_fits : (g : Question) → Good edition_one g → length (question_text g) < 32768
text_fits = question-length

-- what write_question wrote, read_question reads back as the same question, into buffers that hold it
pub written-then-read : (q : Posed) (n : ℕ) (buffer : List ℕ) → question_told q buffer ≡ Ok n → (arities words : List ℕ)
    → length q.arities ≤ length arities → length q.words ≤ length words
    → Reads (take n (question_after q buffer)) q arities words
written-then-read = texts.written-then-read

-- what read_question read of a text of bytes, write_question writes as the same text
pub read-then-written : (text arities words : List ℕ) (unknowns functors equations count : ℕ) → All (λ b. b < BYTES) text
    → answer (text_told text arities words) ≡ Ok (record { unknowns = unknowns; functors = functors; equations = equations; words = count }) → (buffer : List ℕ) → length text ≤ length buffer
    → Writes (question_in (arities_after text arities words) (words_after text arities words) unknowns functors equations count) text buffer
read-then-written = texts.read-then-written

-- nesting, SPECIFICATION 1.4: one more than the deepest term inside a bracket, tail included; and the writers find no bracket too deep exactly if no term nests above 200
pub set_nests : (m r : Term) → nesting (with m r) ≡ suc (largest (map nesting (members (with m r) ++ (kernel (with m r) ∷ []))))
set_nests = nests.set_nests

pub functor_nests : (k : ℕ) (t : Term) (ts : Terms) → nesting (functor k (more t ts)) ≡ suc (largest (map nesting (list (more t ts))))
functor_nests = nests.functor_nests

pub question_nests : (g : Question) → (too_deep_in edition_one g ≡ all_within) ↔ NestsWithin NESTING g
question_nests = nests.question_nests

pub answers_nest : (l : List (List Binding)) → (too_deep_in_list edition_one l ≡ all_within) ↔ All (All (λ b. nesting b.value ≤ NESTING)) l
answers_nest = nests.answers_nest

-- ---- 7. ground terms

-- equal exactly if the row holds two ground terms that are equal by the laws; differ exactly if it holds two that aren't
pub equal_exactly : (arities row : List ℕ) → (equal_answer edition_one arities row ≡ Ok true) ↔ Compared arities row ◌≈◌
equal_exactly = comparing.equal_exactly

pub differ_exactly : (arities row : List ℕ) → (equal_answer edition_one arities row ≡ Ok false) ↔ Compared arities row (λ t u. t ≈ u → ⊥)
differ_exactly = comparing.differ_exactly

-- yes exactly if the words ask a good question and the row holds one ground value for each unknown, which solve it by the laws; no exactly if they don't solve it
pub yes_exactly : (q : Posed) (row : List ℕ) → (solves_told q row ≡ Ok true) ↔ Tried q row (λ σ. Solves σ (asked q).equations)
yes_exactly = comparing.yes_exactly

pub no_exactly : (q : Posed) (row : List ℕ) → (solves_told q row ≡ Ok false) ↔ Tried q row (λ σ. Solves σ (asked q).equations → ⊥)
no_exactly = comparing.no_exactly

-- ---- 8. a refused call leaves every lent buffer as it was; equal and solves are lent none to write

pub text_refused : (text arities words : List ℕ) (r : Refusal) → answer (text_told text arities words) ≡ Err r
    → (arities_after text arities words ≡ arities) × (words_after text arities words ≡ words)
text_refused = refusing.text_refused

pub question-refused : (q : Posed) (buffer : List ℕ) (r : Refusal) → question_told q buffer ≡ Err r → question_after q buffer ≡ buffer
question-refused = refusing.question-refused

pub list-refused : (arities : List ℕ) (end visited answers : ℕ) (words buffer : List ℕ) (r : Refusal) → list_told arities end visited answers words buffer ≡ Err r
    → list_after arities end visited answers words buffer ≡ buffer
list-refused = refusing.list-refused

-- of the room the contract itself says so, where `run_told q l ≡ refuses r`
pub run_refused : (q : Posed) (l : Lending) (r : Refusal) → result (run_told q l) ≡ Err r → (run_told q l ≡ refuses r) × (answers_after q l ≡ l.answers)
run_refused = refusing.run_refused

-- ---- 9. the numbers of ends and refusals, SPECIFICATION 6.2 and 7

-- the ends that a run may have: 0 done, 20 steps, 21 depth, 22 size, 23 space, and never 24 names; each is told from its number
pub end-numbers : (q : Posed) (l : Lending) (o : Outcome) → run_told q l ≡ gives o → OneOf (0 ∷ 20 ∷ 21 ∷ 22 ∷ 23 ∷ []) (end_number o.end)
end-numbers = numbers.end-numbers

pub end_by_number : (e : End) → end_of (end_number e) ≡ Some e
end_by_number = listing.end_by_number

-- the refusals that there may be, entry by entry
pub text_numbers : (text arities words : List ℕ) (r : Refusal) → answer (text_told text arities words) ≡ Err r → OneOf (1 ∷ 2 ∷ 3 ∷ 4 ∷ 5 ∷ 6 ∷ 7 ∷ []) (number r.cause)
text_numbers = numbers.text_numbers

pub question-numbers : (q : Posed) (buffer : List ℕ) (r : Refusal) → question_told q buffer ≡ Err r → OneOf (3 ∷ 8 ∷ 6 ∷ 7 ∷ []) (number r.cause)
question-numbers = numbers.question-numbers

pub list-numbers : (arities : List ℕ) (end visited answers : ℕ) (words buffer : List ℕ) (r : Refusal) → list_told arities end visited answers words buffer ≡ Err r
    → OneOf (3 ∷ 8 ∷ 6 ∷ 7 ∷ []) (number r.cause)
list-numbers = numbers.list-numbers

pub equal-numbers : (arities row : List ℕ) (r : Refusal) → equal_answer edition_one arities row ≡ Err r → OneOf (3 ∷ 8 ∷ []) (number r.cause)
equal-numbers = numbers.equal-numbers

pub solves_numbers : (q : Posed) (row : List ℕ) (r : Refusal) → solves_told q row ≡ Err r → OneOf (3 ∷ 8 ∷ []) (number r.cause)
solves_numbers = numbers.solves_numbers

pub run_numbers : (q : Posed) (l : Lending) (r : Refusal) → run_told q l ≡ refuses r → OneOf (3 ∷ 8 ∷ 7 ∷ []) (number r.cause)
run_numbers = numbers.run_numbers
