-- What may be relied on, in the order of docs/PROMISES.md. Each line states a theorem over the definitions of `search`, for any bounds, in the words of
-- `Wording` and of `answers`' `Fits`. Nothing is assumed, and `Examples`, here and in `answers`, apply each to a specimen (SPECIFICATION 11).
use Rattle.std.specs.Prelude.{ℕ, ◌+◌, ◌≤◌, ◌≡◌, List, ◌↔◌, length}
use Rattle.std.proofs.Common.{arith}
use Rattle.terms.specs.Bounds.{Bounds, Proper, edition_one}
use Rattle.terms.specs.Lists.{All, Any}
use Rattle.terms.specs.Formed.{Question, Good}
use Rattle.terms.specs.Answers.{listed}
use Rattle.laws.specs.Values.{Values, GroundValues, Solves}
use Rattle.search.specs.declared.ends.End.TheVariants.{Done, Names}
use Rattle.search.specs.State.{State, state_size}
use Rattle.search.specs.Run.{Loan, visits, root, ran}
use Rattle.search.specs.StateWords.{state_words, length_state}
use Rattle.answers.specs.Fits.{Meets, Fits}
use Rattle.answers.proofs.DemandTwo as demand
use Rattle.answers.proofs.SolvedExactly as solved
use Rattle.promises.specs.Wording.{NoLess, Begins, whole, AnswersInForm}
use Rattle.promises.proofs.Searches.Lending.{more-lent, listed_begins}
use Rattle.promises.specs.Searches.Ending.{visits-settle}
use Rattle.promises.proofs.Searches.Completing.{enough, done-whole}
use Rattle.promises.proofs.Searches.Naming.{names_within}
use Rattle.promises.proofs.Searches.NamesLeft.{never_names}
use Rattle.promises.proofs.Searches.AnswerForms.{answers_in_form}

-- ---- demand 2: every answer true and none lost

-- in any run, done or not, values that meet a listed answer solve the question
pub every_answer-true : (b : Bounds) → Proper b → (q : Question) → Good b q → (l : Loan)
    → All (λ answer. (σ : Values) → Meets b q σ answer → Solves σ q.equations) (ran b q l).answers
every_answer-true = demand.every_answer-true

-- for a done run, ground values over any functor table solve the question exactly if they fit some listed answer
pub done_exactly : (b : Bounds) → Proper b → (q : Question) → Good b q → (l : Loan) → (ran b q l).end ≡ Done → (table : List ℕ) (σ : Values) → GroundValues table σ
    → Solves σ q.equations ↔ Any (Fits b q table σ) (ran b q l).answers
done_exactly = solved.demand_two

-- ---- demand 3: more lent, same list

-- with a loan that is no less in steps, depth, size and space the list begins with the earlier one, answer for answer
pub more-lent_same_answers : (b : Bounds) (q : Question) (l m : Loan) → NoLess l m → Begins (ran b q l).answers (ran b q m).answers
more-lent_same_answers b q l m w = (more-lent b q l m w).answers

-- and word for word, as the lent buffer holds it
pub more-lent-same_words : (b : Bounds) (q : Question) (l m : Loan) → NoLess l m → Begins (listed (ran b q l).answers) (listed (ran b q m).answers)
more-lent-same_words b q l m w = listed_begins (more-lent b q l m w).answers

-- a run that was done is repeated
pub done_stays_done : (b : Bounds) (q : Question) (l m : Loan) → NoLess l m → (ran b q l).end ≡ Done → ran b q m ≡ ran b q l
done_stays_done b q l m w d = (more-lent b q l m w).done d

-- ---- it ends

-- from some depth on the list of visits no longer changes
pub search_ends : (b : Bounds) (q : Question) → Good b q → (n : ℕ) × ((m : ℕ) → n ≤ m → visits m 0 (root q) ≡ visits n 0 (root q))
search_ends b q g = visits-settle q g.formed

-- there are steps, depth, size and space under which the run is done, and under which every run that is lent no less is
pub enough_is_done : (b : Bounds) (q : Question) → Good b q → q.unknowns + q.unknowns ≤ b.path_unknowns → (l : Loan) × ((m : Loan) → NoLess l m → (ran b q m).end ≡ Done)
enough_is_done b q g w = enough b q g.formed w

-- done says what the table of ends says: every node was visited, however deep one looks, and every answer held
pub done_is_whole : (b : Bounds) (q : Question) (l : Loan) → (ran b q l).end ≡ Done → (n : ℕ) → l.depth + 2 ≤ n → ran b q l ≡ whole b (visits n 0 (root q))
done_is_whole = done-whole

-- ---- names

-- no path makes more new unknowns than the question has
pub names_at_most-twice : (b : Bounds) (q : Question) → Good b q → (n : ℕ) → All (λ v. v.next ≤ q.unknowns + q.unknowns) (visits n 0 (root q))
names_at_most-twice b q g n = names_within q g.formed n

-- where a path may have twice as many, no run ends for names
pub names_never_run_out : (b : Bounds) (q : Question) (l : Loan) → Good b q → q.unknowns + q.unknowns ≤ b.path_unknowns → (ran b q l).end ≡ Names → ⊥
names_never_run_out b q l g w e = never_names b q l g.formed w e

-- with 256 and 512, always
pub names_suffice_in_edition_one : (q : Question) (l : Loan) → Good edition_one q → (ran edition_one q l).end ≡ Names → ⊥
unfolding edition_one
names_suffice_in_edition_one q l g e = names_never_run_out edition_one q l g (omega arith) e

-- ---- the form of answers

-- each is the words of bindings in which an unknown is bound once and is mentioned neither in its own line nor in a later one, over the question's
-- functors and at most twice its unknowns
pub answers_are_solved_forms : (b : Bounds) (q : Question) (l : Loan) → Good b q → All (AnswersInForm b q.arities (q.unknowns + q.unknowns)) (ran b q l).answers
answers_are_solved_forms b q l g = answers_in_form b q l g.formed

-- ---- sizes

-- a state's size is the number of its words
pub size_is_words : (b : Bounds) (st : State) → length (state_words b st) ≡ state_size st
size_is_words = length_state
