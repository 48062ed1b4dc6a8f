-- The lines of `Promised`, applied to specimens, so that no line asks what no call gives: here those about runs, 1 to 4, and below, in `Entries`, 5 to 9.
use Rattle.std.specs.Prelude.{ℕ, ◌≤◌, ◌≡◌, refl, List, [], ◌∷◌, map, take, replicate}
use Rattle.std.proofs.Common.{arith, Ok}
use Rattle.terms.specs.Bounds.{edition_one}
use Rattle.terms.specs.Kind.{within, kind}
use Rattle.terms.specs.Lists.{All, Any, none as no_more, both, any, All-first}
use Rattle.terms.specs.Term.{with, empty, functor, none, count}
use Rattle.terms.specs.Formed.{formed_with, formed_empty, formed_functor, formed_none}
use Rattle.terms.specs.Answers.{answer_words, listed}
use Rattle.terms.specs.Listing.{answers_of}
use Rattle.checks.specs.Check.{follows, follow, after, checked, above, arities_above, counts_above, check_terms, check_question, check_row, check_answers, after_check}
use Rattle.terms.specs.Reading.{top, taken, push, read, paired, question_of}
use Rattle.laws.specs.Laws.{absorb, ≈sym}
use Rattle.laws.specs.Values.{Values, value, GroundValues, Solves}
use Rattle.search.specs.declared.ends.End.TheVariants.{Done, Space}
use Rattle.search.specs.Run.{Loan, Outcome, ran}
use Rattle.search.specs.Specimens.{computing}
use Rattle.search.specs.Ends.{end_number}
use Rattle.promises.specs.Wording.{NoLess}
use Rattle.answers.specs.Fits.{Meets, Fits}
use Rattle.results.specs.Loans.{loan, needed, ending}
use Rattle.results.specs.Result.{gives, told, told_within, result}
use Rattle.guarantees.specs.Calls.{Posed, asked, Lending, loan_of, in_room, run_told, answers_after, used}
use Rattle.guarantees.specs.Notions.{Granted, ReadOnce}
use Rattle.guarantees.proofs.Promised
pub mod Entries

-- a key: to unfold it is to unfold what a call computes by, beside the search
unfoldable calling : Unit {0}
unfolding computing within kind any follows follow after checked above arities_above counts_above check_terms check_question check_row check_answers after_check top taken push read paired question_of told told_within loan needed
calling = tt

-- ---- runs

-- x0 = {a|x0}, as crates/mensorique/src/lib.rt has it, with what just suffices
abbrev question : Posed
question = record { unknowns = 1; arities = 0 ∷ []; equations = 1; words = 1000 ∷ 1 ∷ 2000 ∷ 1000 ∷ [] }

abbrev sufficient : Lending
sufficient = record { steps = 3; depth = 2; size = 4; answers = replicate 5 0; room = replicate 120 0 }

abbrev outcome : Outcome
outcome = record { end = Done; visited = 3; answers = (1 ∷ 0 ∷ 1 ∷ 2000 ∷ 1001 ∷ []) ∷ [] }

gave : run_told question sufficient ≡ gives outcome
unfolding calling
gave = refl

-- {x0,x1} = {a,b}, which has two answers of five words
abbrev pair : Posed
pair = record { unknowns = 2; arities = 0 ∷ 0 ∷ []; equations = 1; words = 1 ∷ 1000 ∷ 1 ∷ 1001 ∷ 0 ∷ 1 ∷ 2000 ∷ 1 ∷ 2001 ∷ 0 ∷ [] }

abbrev one_answer : Lending
one_answer = record { steps = 100; depth = 12; size = 24; answers = replicate 7 0; room = replicate 640 0 }

abbrev both_answers : Lending
both_answers = record { steps = 200; depth = 12; size = 24; answers = replicate 12 9; room = replicate 700 1 }

abbrev first_answer : Outcome
first_answer = record { end = Space; visited = 54; answers = (2 ∷ 0 ∷ 2000 ∷ 1 ∷ 2001 ∷ []) ∷ [] }

abbrev two_answers : Outcome
two_answers = record { end = Done; visited = 75; answers = (2 ∷ 0 ∷ 2000 ∷ 1 ∷ 2001 ∷ []) ∷ (2 ∷ 0 ∷ 2001 ∷ 1 ∷ 2000 ∷ []) ∷ [] }

gave_one : run_told pair one_answer ≡ gives first_answer
unfolding calling
gave_one = refl

gave_both : run_told pair both_answers ≡ gives two_answers
unfolding calling
gave_both = refl

-- x0 = {x0}
abbrev itself : Posed
itself = record { unknowns = 1; arities = []; equations = 1; words = 1000 ∷ 1 ∷ 1000 ∷ 0 ∷ [] }

abbrev nothing : Outcome
nothing = record { end = Done; visited = 2; answers = [] }

gave_nothing : run_told itself sufficient ≡ gives nothing
unfolding calling
gave_nothing = refl

-- ---- 1

granted : Granted question sufficient outcome
granted = (Promised.granted_exactly question sufficient outcome).0 gave

ended : result (run_told question sufficient) ≡ Ok (record { end = Done; counts = record { visited = 3; answers = 1; words = 5 } })
unfolding ending computing
ended = (Promised.ended_exactly question sufficient _).1 (outcome, gave, refl)

-- ---- 2

read_once : All (ReadOnce question) outcome.answers
read_once = Promised.answers_read_once question sufficient outcome gave

-- values that meet the unfinished run's answer solve the question
met-true : (σ : Values) → Meets edition_one (asked pair) σ (2 ∷ 0 ∷ 2000 ∷ 1 ∷ 2001 ∷ []) → Solves σ (asked pair).equations
met-true = All-first (Promised.answers_true pair one_answer first_answer gave_one)

-- {a} for x0, and for every other unknown
abbrev a_alone : Values
a_alone i = with (functor 0 none) empty

a_ground : GroundValues (0 ∷ []) a_alone
unfolding count
a_ground i = formed_with (formed_functor {k = 0} (omega arith) refl formed_none) formed_empty

a_solves : Solves a_alone (asked question).equations
unfolding calling value
a_solves = both (≈sym absorb) no_more

a-fits : Any (Fits edition_one (asked question) (0 ∷ []) a_alone) outcome.answers
a-fits = (Promised.done_exactly question sufficient outcome gave refl (0 ∷ []) a_alone a_ground).0 a_solves

unsolvable : (table : List ℕ) (σ : Values) → GroundValues table σ → Solves σ (asked itself).equations → ⊥
unsolvable = Promised.done-without_answers itself sufficient nothing gave_nothing refl refl

-- ---- 3

more : NoLess (loan_of one_answer) (loan_of both_answers)
more = record { steps = omega arith; depth = omega arith; size = omega arith; space = omega arith }

kept : take 5 (answers_after pair both_answers) ≡ take 5 (answers_after pair one_answer)
unfolding listed
kept = Promised.list-kept pair one_answer both_answers first_answer two_answers gave_one gave_both more

-- what suffices, and more than that
abbrev ample : Lending
ample = record { steps = 10; depth = 3; size = 8; answers = 7 ∷ 7 ∷ 7 ∷ 7 ∷ 7 ∷ 7 ∷ 7 ∷ []; room = replicate 176 0 }

gave_ample : run_told question ample ≡ gives outcome
unfolding calling
gave_ample = refl

repeated : run_told question ample ≡ run_told question sufficient
repeated =
    Promised.done_repeated question sufficient ample outcome outcome gave gave_ample (record { steps = omega arith; depth = omega arith; size = omega arith; space = omega arith }) refl

-- a room of 500 words, and one that held ones
other_room : (p : Outcome) → run_told question (in_room (replicate 500 1) sufficient) ≡ gives p → p ≡ outcome
other_room p = Promised.room_neutral question sufficient (replicate 500 1) outcome p gave

other_contents : run_told question (in_room (replicate 120 1) sufficient) ≡ run_told question sufficient
other_contents = Promised.contents_neutral question sufficient (replicate 120 1) refl

enough : (least : Loan) × ((more : Loan) → NoLess least more → end_number (ran edition_one (asked pair) more).end ≡ 0)
enough = Promised.enough_lent pair one_answer first_answer gave_one

-- ---- 4

fits : used outcome ≤ 5
fits = Promised.list-fits question sufficient outcome gave

three_steps : outcome.visited ≤ 3
three_steps = Promised.steps_suffice question sufficient outcome gave

two_left : answers_after question ample ≡ 1 ∷ 0 ∷ 1 ∷ 2000 ∷ 1001 ∷ 7 ∷ 7 ∷ []
unfolding listed
two_left = Promised.buffer_after question ample outcome gave_ample

read_back : map (answer_words edition_one) (answers_of edition_one (0 ∷ 0 ∷ []) 2 (listed two_answers.answers)) ≡ two_answers.answers
read_back = Promised.list-read-back pair both_answers two_answers gave_both
