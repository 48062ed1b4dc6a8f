-- Every answer true and none lost, together: what a done run says of ground values, by `DemandTwo`.
use Rattle.std.specs.Prelude.{ℕ, ◌≡◌, List, [], ◌↔◌}
use Rattle.terms.specs.Bounds.{Bounds, Proper}
use Rattle.terms.specs.Lists.{Any}
use Rattle.terms.specs.Formed.{Question, Good}
use Rattle.laws.specs.Values.{Values, GroundValues, Solves}
use Rattle.search.specs.declared.ends.End.TheVariants.{Done}
use Rattle.search.specs.Run.{Loan, ran}
use Rattle.answers.specs.Fits.{Fits}
use Rattle.answers.proofs.Runs.Listed.{sound, fit_solves, nothing-fits}
use Rattle.answers.proofs.DemandTwo.{no_answer_lost}

module _ (b : Bounds) (proper : Proper b) (q : Question) (good : Good b q) (l : Loan) (done : (ran b q l).end ≡ Done) (table : List ℕ) (σ : Values)
    (grounded : GroundValues table σ) where
  -- For a done run, ground values solve the question exactly if they fit some listed answer.
  pub demand_two : Solves σ q.equations ↔ Any (Fits b q table σ) (ran b q l).answers
  demand_two = (no_answer_lost b proper q good l done table σ grounded, fit_solves q good (sound b proper q good l))

  -- Done with no answers: no ground values solve the question.
  pub done-without_answers : (ran b q l).answers ≡ [] → Solves σ q.equations → ⊥
  done-without_answers none_listed h = nothing-fits (rw none_listed at (no_answer_lost b proper q good l done table σ grounded h))
