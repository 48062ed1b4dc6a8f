-- Every promise, applied to a specimen: no theorem asks what no question has.
use Rattle.std.specs.Prelude.{ℕ, ◌≤◌, ◌≡◌, refl, length}
use Rattle.std.proofs.Common.{arith}
use Rattle.terms.specs.Bounds.{edition_one}
use Rattle.terms.specs.Lists.{All, none as All-none, both}
use Rattle.terms.specs.Term.{with, words, count}
use Rattle.terms.specs.Formed.{Formed, formed_unknown, formed_with, formed_functor, formed_none, sides, row, Question, Good}
use Rattle.terms.specs.Answers.{listed}
use Rattle.search.specs.declared.ends.End.TheVariants.{Done, Names}
use Rattle.search.specs.Run.{Loan, visits, root, ran}
use Rattle.search.specs.Specimens.{a, x0, arities, asks, lending, ample, computing}
use Rattle.search.specs.State.{start}
use Rattle.search.specs.StateWords.{state_words}
use Rattle.promises.specs.Wording.{NoLess, Begins, whole, AnswersInForm}
use Rattle.promises.proofs.Promises

-- x0 = {a|x0}, which is good
abbrev question : Question
question = asks 1 x0 (with a x0)

formed_a : Formed arities 1 a
unfolding count
formed_a = formed_functor {k = 0} (omega arith) refl formed_none

question_good : Good edition_one question
unfolding edition_one sides row words
question_good =
    record {
      unknowns = omega arith;
      functors = omega arith;
      arities = both {x = 0} (omega arith) (both {x = 0} (omega arith) (both {x = 0} (omega arith) (both {x = 1} (omega arith) All-none)));
      equations = omega arith;
      formed = both (formed_unknown {i = 0} (omega arith)) (both (formed_with formed_a (formed_unknown {i = 0} (omega arith))) All-none);
      symbols = omega arith;
    }

-- what suffices for it, and a step less
abbrev sufficient : Loan
sufficient = lending 3 2 4 5

abbrev scanty : Loan
scanty = lending 2 2 4 5

no_less : NoLess sufficient ample
no_less = record { steps = omega arith; depth = omega arith; size = omega arith; space = omega arith }

sufficient-done : (ran edition_one question sufficient).end ≡ Done
unfolding computing
sufficient-done = refl

-- ---- each promise once

same_answers : Begins (ran edition_one question scanty).answers (ran edition_one question ample).answers
same_answers = Promises.more-lent_same_answers edition_one question scanty ample (record { steps = omega arith; depth = omega arith; size = omega arith; space = omega arith })

same_words : Begins (listed (ran edition_one question sufficient).answers) (listed (ran edition_one question ample).answers)
same_words = Promises.more-lent-same_words edition_one question sufficient ample no_less

stays_done : ran edition_one question ample ≡ ran edition_one question sufficient
stays_done = Promises.done_stays_done edition_one question sufficient ample no_less sufficient-done

ends : (n : ℕ) × ((m : ℕ) → n ≤ m → visits m 0 (root question) ≡ visits n 0 (root question))
ends = Promises.search_ends edition_one question question_good

ends-done : (l : Loan) × ((m : Loan) → NoLess l m → (ran edition_one question m).end ≡ Done)
unfolding edition_one
ends-done = Promises.enough_is_done edition_one question question_good (omega arith)

is_whole : ran edition_one question sufficient ≡ whole edition_one (visits 1000 0 (root question))
is_whole = Promises.done_is_whole edition_one question sufficient sufficient-done 1000 (omega arith)

names : All (λ v. v.next ≤ 2) (visits 1000 0 (root question))
names = Promises.names_at_most-twice edition_one question question_good 1000

names_left : (ran edition_one question ample).end ≡ Names → ⊥
unfolding edition_one
names_left = Promises.names_never_run_out edition_one question ample question_good (omega arith)

names_in_edition_one : (ran edition_one question ample).end ≡ Names → ⊥
names_in_edition_one = Promises.names_suffice_in_edition_one question ample question_good

solved_forms : All (AnswersInForm edition_one arities 2) (ran edition_one question ample).answers
solved_forms = Promises.answers_are_solved_forms edition_one question ample question_good

-- x0 = {a|x0}: four symbols
four_words : length (state_words edition_one (start question)) ≡ 4
unfolding computing
four_words = Promises.size_is_words edition_one (start question)
