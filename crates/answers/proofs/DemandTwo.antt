-- Every answer true and none lost: the second promise of docs/PROMISES.md. A run lists answers to a question; ground values are given to its unknowns. In any
-- run every listed answer is true; a done run has lost none. Values may be over any functor table, so over every one that extends the declared
-- table, of whatever length and arities; the values of an answer's new unknowns are over the same. `SolvedExactly` joins the two.
use Rattle.std.specs.Prelude.{ℕ, ◌≡◌, List}
use Rattle.terms.specs.Bounds.{Bounds, Proper}
use Rattle.terms.specs.Lists.{All, Any, All-map}
use Rattle.terms.specs.Formed.{Question, Good}
use Rattle.laws.specs.Values.{Values, GroundValues, Solves}
use Rattle.search.specs.declared.ends.End.TheVariants.{Done}
use Rattle.search.specs.Run.{Loan, ran}
use Rattle.answers.specs.Fits.{States, Meets, Fits}
use Rattle.answers.specs.Runs.Stated.{stated_once}
use Rattle.answers.proofs.Runs.Listed.{answers_worded, sound, complete}

module _ (b : Bounds) (proper : Proper b) (q : Question) (good : Good b q) where
  -- An answer's words state at most one list of bindings.
  pub one_reading : {answer : List ℕ} (s t : States b q answer) → s.bindings ≡ t.bindings
  one_reading = stated_once (answers_worded proper good)

  module _ (l : Loan) where
    -- Every listed answer states bindings.
    pub answers_stated : All (States b q) (ran b q l).answers
    answers_stated = All-map (λ answer h. h.0) (sound b proper q good l)

    -- Sound: in any run, under any limits, done or not, values for all unknowns that meet a listed answer solve the question.
    pub every_answer-true : All (λ answer. (σ : Values) → Meets b q σ answer → Solves σ q.equations) (ran b q l).answers
    every_answer-true = All-map (λ answer h. h.1) (sound b proper q good l)

    module _ (done : (ran b q l).end ≡ Done) (table : List ℕ) (σ : Values) (grounded : GroundValues table σ) where
      -- Complete: after a done run, ground values that solve the question fit some listed answer.
      pub no_answer_lost : Solves σ q.equations → Any (Fits b q table σ) (ran b q l).answers
      no_answer_lost = complete b q good l done table σ grounded
