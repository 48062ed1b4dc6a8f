-- Bounds with unknowns' words after functors', a thousand unknowns and twice as many on a path. They are proper, so what is proved of proper bounds
-- holds of them: the laws of words, that answers are true and none lost, and every promise. `laws`, and the children of `search`, know no bounds.
use Rattle.std.specs.Prelude.{ℕ, ◌+◌, ◌≤◌, ◌<◌, ◌≡◌, refl, List, [], ◌∷◌, ◌++◌, ◌↔◌, length, get_or}
use Rattle.std.proofs.Common.{arith}
use Rattle.room.specs.Parts.{later}
use Rattle.room.specs.Replaced.{replaced}
use Rattle.terms.specs.Bounds.{Bounds, Proper, FIRST_FUNCTOR, FUNCTOR_WORDS, FUNCTORS, ARITY, EQUATIONS, SYMBOLS, NESTING}
use Rattle.terms.specs.Lists.{All, Any}
use Rattle.terms.specs.Term.{Term, words, size, subst, with}
use Rattle.terms.specs.Formed.{Formed, row, Question, Good}
use Rattle.terms.specs.Answers.{listed}
use Rattle.terms.specs.Kind.{kind, takes, Worded}
use Rattle.terms.specs.Kind as kinds
use Rattle.terms.proofs.KindLaws as kinds_laws
use Rattle.terms.specs.Laws.Flat as flat
use Rattle.terms.specs.Reading.{read}
use Rattle.terms.specs.Reading as reading
use Rattle.terms.specs.Laws.Walk.{span}
use Rattle.terms.proofs.Walk as walk
use Rattle.terms.specs.declared.kind.Kind.TheVariants.{Unknown, Functor}
use Rattle.laws.specs.Values.{Values, GroundValues, Solves}
use Rattle.search.specs.declared.ends.End.TheVariants.{Done, Names}
use Rattle.search.specs.State.{State, state_size}
use Rattle.search.specs.StateWords.{state_words}
use Rattle.search.specs.Run.{Loan, visits, root, ran}
use Rattle.search.specs.Specimens.{a, x0, asks, ample, computing}
use Rattle.answers.specs.Fits.{States, Meets, Fits}
use Rattle.answers.proofs.DemandTwo as demand
use Rattle.answers.proofs.SolvedExactly as solved
use Rattle.promises.specs.Wording.{NoLess, Begins, whole, AnswersInForm}
use Rattle.promises.proofs.Promises as promised

unfoldable pub edition_two : Bounds
edition_two = record {
  first_unknown = 4096;
  unknown_words = 61440;
  first_functor = FIRST_FUNCTOR;
  functor_words = FUNCTOR_WORDS;
  unknowns = 1024;
  path_unknowns = 2048;
  functors = FUNCTORS;
  arity = ARITY;
  equations = EQUATIONS;
  symbols = SYMBOLS;
  nesting = NESTING;
}

pub edition_two_proper : Proper edition_two
unfolding edition_two
edition_two_proper = record {
  unknowns_after_marks = omega arith;
  functors_after_marks = omega arith;
  apart = later (omega arith);
  room_for_unknowns = omega arith;
  room_for_functors = omega arith;
  room_on_a_path = omega arith;
}

-- x0 = {a|x0} has the answer x0 = {a|x1}
one_answer : (ran edition_two (asks 1 x0 (with a x0)) ample).answers ≡ (1 ∷ 0 ∷ 1 ∷ 2000 ∷ 4097 ∷ []) ∷ []
unfolding computing edition_two
one_answer = refl

-- ---- terms

unknown_kind : (i : ℕ) → i < edition_two.unknown_words → kind edition_two (edition_two.first_unknown + i) ≡ Unknown i
unfolding edition_two
unknown_kind = kinds.kind_unknown edition_two_proper

functor_kind : (k : ℕ) → k < FUNCTOR_WORDS → kind edition_two (FIRST_FUNCTOR + k) ≡ Functor k
unfolding edition_two
functor_kind = kinds.kind_functor edition_two_proper

unknown_takes : (arities : List ℕ) (i : ℕ) → i < edition_two.unknown_words → takes edition_two arities (edition_two.first_unknown + i) ≡ 0
unfolding edition_two
unknown_takes = kinds.takes_unknown edition_two_proper

functor_takes : (arities : List ℕ) (k : ℕ) → k < FUNCTOR_WORDS → takes edition_two arities (FIRST_FUNCTOR + k) ≡ get_or arities k 0
unfolding edition_two
functor_takes = kinds_laws.takes_functor edition_two_proper

module _ {arities : List ℕ} {n : ℕ} (worded : Worded edition_two arities n) where
  row_read : {ts : List Term} → All (Formed arities n) ts → read edition_two arities (row edition_two ts) ≡ ts
  row_read = reading.row_read worded

  words_determine : {t u : Term} {vs ws : List ℕ} → Formed arities n t → Formed arities n u → words edition_two t ++ vs ≡ words edition_two u ++ ws → (t ≡ u) × (vs ≡ ws)
  words_determine = reading.words_determine worded

  row_determines : {ts us : List Term} → All (Formed arities n) ts → All (Formed arities n) us → row edition_two ts ≡ row edition_two us → ts ≡ us
  row_determines = reading.row_determines worded

  term_ends : {t : Term} → Formed arities n t → (ws : List ℕ) → span edition_two arities (words edition_two t ++ ws) 1 ≡ size t
  term_ends = walk.term_ends worded

  words_subst : (x : ℕ) → x < edition_two.unknown_words → (s : Term) {t : Term} → Formed arities n t
      → words edition_two (subst x s t) ≡ replaced (edition_two.first_unknown + x) (words edition_two s) (words edition_two t)
  unfolding edition_two
  words_subst = flat.words_subst worded

-- ---- answers and promises

module _ (q : Question) (good : Good edition_two q) where
  one_reading : {answer : List ℕ} (s t : States edition_two q answer) → s.bindings ≡ t.bindings
  one_reading = demand.one_reading edition_two edition_two_proper q good

  search_ends : (n : ℕ) × ((m : ℕ) → n ≤ m → visits m 0 (root q) ≡ visits n 0 (root q))
  search_ends = promised.search_ends edition_two q good

  enough_is_done : (l : Loan) × ((m : Loan) → NoLess l m → (ran edition_two q m).end ≡ Done)
  unfolding edition_two
  enough_is_done = promised.enough_is_done edition_two q good (omega (arith, good.unknowns))

  names_at_most-twice : (n : ℕ) → All (λ v. v.next ≤ q.unknowns + q.unknowns) (visits n 0 (root q))
  names_at_most-twice = promised.names_at_most-twice edition_two q good

  module _ (l : Loan) where
    answers_stated : All (States edition_two q) (ran edition_two q l).answers
    answers_stated = demand.answers_stated edition_two edition_two_proper q good l

    every_answer-true : All (λ answer. (σ : Values) → Meets edition_two q σ answer → Solves σ q.equations) (ran edition_two q l).answers
    every_answer-true = promised.every_answer-true edition_two edition_two_proper q good l

    answers_are_solved_forms : All (AnswersInForm edition_two q.arities (q.unknowns + q.unknowns)) (ran edition_two q l).answers
    answers_are_solved_forms = promised.answers_are_solved_forms edition_two q l good

    -- with 1,024 and 2,048, always
    names_suffice : (ran edition_two q l).end ≡ Names → ⊥
    unfolding edition_two
    names_suffice = promised.names_never_run_out edition_two q l good (omega (arith, good.unknowns))

    module _ (done : (ran edition_two q l).end ≡ Done) (table : List ℕ) (σ : Values) (grounded : GroundValues table σ) where
      done_exactly : Solves σ q.equations ↔ Any (Fits edition_two q table σ) (ran edition_two q l).answers
      done_exactly = promised.done_exactly edition_two edition_two_proper q good l done table σ grounded

      no_answer_lost : Solves σ q.equations → Any (Fits edition_two q table σ) (ran edition_two q l).answers
      no_answer_lost = demand.no_answer_lost edition_two edition_two_proper q good l done table σ grounded

      done-without_answers : (ran edition_two q l).answers ≡ [] → Solves σ q.equations → ⊥
      done-without_answers = solved.done-without_answers edition_two edition_two_proper q good l done table σ grounded

module _ (q : Question) (l m : Loan) where
  more-lent_same_answers : NoLess l m → Begins (ran edition_two q l).answers (ran edition_two q m).answers
  more-lent_same_answers = promised.more-lent_same_answers edition_two q l m

  more-lent-same_words : NoLess l m → Begins (listed (ran edition_two q l).answers) (listed (ran edition_two q m).answers)
  more-lent-same_words = promised.more-lent-same_words edition_two q l m

  done_stays_done : NoLess l m → (ran edition_two q l).end ≡ Done → ran edition_two q m ≡ ran edition_two q l
  done_stays_done = promised.done_stays_done edition_two q l m

done_is_whole : (q : Question) (l : Loan) → (ran edition_two q l).end ≡ Done → (n : ℕ) → l.depth + 2 ≤ n → ran edition_two q l ≡ whole edition_two (visits n 0 (root q))
done_is_whole = promised.done_is_whole edition_two

size_is_words : (st : State) → length (state_words edition_two st) ≡ state_size st
size_is_words = promised.size_is_words edition_two
