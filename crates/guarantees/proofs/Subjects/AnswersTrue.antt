-- Every listed answer of a granted run is true, and a done one has lost none: the search's theorems, of what a call was told. And the list is read back from
-- the buffer's words and the count of answers alone.
use Rattle.std.specs.Prelude.{ℕ, ◌≡◌, List, [], ◌∷◌, ◌↔◌, length}
use Rattle.std.proofs.Common.{arith}
use Rattle.terms.specs.Bounds.{edition_one, edition_one_proper}
use Rattle.terms.specs.Lists.{All, Any, All-map}
use Rattle.terms.specs.Formed.{Good}
use Rattle.laws.specs.Values.{Values, GroundValues, Solves}
use Rattle.search.specs.declared.ends.End.TheVariants.{Done}
use Rattle.search.specs.Ends.{end_number}
use Rattle.search.specs.Run.{Outcome, ran}
use Rattle.answers.specs.Fits.{States, Meets, Fits}
use Rattle.answers.proofs.DemandTwo as demand
use Rattle.answers.proofs.SolvedExactly as solved
use Rattle.results.specs.Result.{gives}
use Rattle.guarantees.specs.Calls.{Posed, asked, Lending, loan_of, run_told}
use Rattle.guarantees.specs.Notions.{Granted, ReadOnce}
use Rattle.guarantees.proofs.Subjects.Granting.{granted_exactly, done_by_number}

module _ (q : Posed) (l : Lending) (o : Outcome) (gave : run_told q l ≡ gives o) where
  granted : Granted q l o
  granted = (granted_exactly q l o).0 gave

  good : Good edition_one (asked q)
  good = granted.good.good

  done : end_number o.end ≡ 0 → (ran edition_one (asked q) (loan_of l)).end ≡ Done
  done d = rw granted.outcome at (done_by_number o.end d)

  pub answers_stated : All (States edition_one (asked q)) o.answers
  answers_stated = rw granted.outcome (demand.answers_stated edition_one edition_one_proper (asked q) good (loan_of l))

  pub read_once : All (ReadOnce q) o.answers
  read_once = All-map (λ answer s. record { states = s; alone = λ t. demand.one_reading edition_one edition_one_proper (asked q) good t s }) answers_stated

  pub answers_true : All (λ answer. (σ : Values) → Meets edition_one (asked q) σ answer → Solves σ (asked q).equations) o.answers
  answers_true = rw granted.outcome (demand.every_answer-true edition_one edition_one_proper (asked q) good (loan_of l))

  pub done_exactly : end_number o.end ≡ 0 → (table : List ℕ) (σ : Values) → GroundValues table σ → Solves σ (asked q).equations ↔ Any (Fits edition_one (asked q) table σ) o.answers
  done_exactly d table σ grounded = rw granted.outcome (solved.demand_two edition_one edition_one_proper (asked q) good (loan_of l) (done d) table σ grounded)

  pub done-without_answers : end_number o.end ≡ 0 → length o.answers ≡ 0 → (table : List ℕ) (σ : Values) → GroundValues table σ → Solves σ (asked q).equations → ⊥
  done-without_answers d z table σ grounded h = go o.answers z ((done_exactly d table σ grounded).0 h)
    where
      go : (answers : List (List ℕ)) → length answers ≡ 0 → Any (Fits edition_one (asked q) table σ) answers → ⊥
      go [] e h = elim h [ ]
      go (x ∷ xs) e h = omega arith
