-- The listed answers of a run, by what the tree has: the proofs of `DemandTwo`'s statements.
use Rattle.std.specs.Prelude.{ℕ, ◌+◌, ◌≡◌, refl, List, []}
use Rattle.std.proofs.Common.{arith}
use Rattle.terms.specs.Bounds.{Bounds, Proper}
use Rattle.terms.specs.Kind.{Worded}
use Rattle.terms.specs.Lists.{All, Any, Any-out, Any_with}
use Rattle.terms.specs.Formed.{Question, Good}
use Rattle.laws.specs.Laws.{≈refl}
use Rattle.laws.specs.Values.{Values, GroundValues, Solves}
use Rattle.laws.proofs.Solving.{solves_below}
use Rattle.search.specs.declared.ends.End.TheVariants.{Done}
use Rattle.search.specs.Run.{Loan, root, ran}
use Rattle.answers.specs.Fits.{Fits}
use Rattle.answers.specs.Runs.ScannedVisits.{scan_each, scan-some}
use Rattle.answers.proofs.Runs.TreeAnswers.{IsTrue, visits-true, visits_none_lost, kept-root, root_leads, meets-root}

-- every symbol that a good question's answers may have has its word
pub answers_worded : {b : Bounds} {q : Question} → Proper b → Good b q → Worded b q.arities b.path_unknowns
answers_worded proper good = record { proper = proper; functors = omega arith; unknowns = omega arith }

pub sound : (b : Bounds) → Proper b → (q : Question) → Good b q → (l : Loan) → All (IsTrue b q) (ran b q l).answers
unfolding ran
sound b proper q good l = scan_each b l (visits-true b q (answers_worded proper good) (l.depth + 2) 0 (root q) (kept-root q good.formed) (root_leads b q))

pub complete : (b : Bounds) (q : Question) → Good b q → (l : Loan) → (ran b q l).end ≡ Done
    → (table : List ℕ) (σ : Values) → GroundValues table σ → Solves σ q.equations → Any (Fits b q table σ) (ran b q l).answers
unfolding ran
complete b q good l done table σ grounded h =
    scan-some b
    (visits_none_lost b q table σ l.depth (l.depth + 2) 0 (root q) (kept-root q good.formed) (omega arith) (omega arith)
    (record { values = σ; grounded = grounded; same = λ i k. refl; meets = meets-root q h })) l refl done

-- values that fit a true answer solve the question: on its own unknowns they are values that meet the answer
pub fit_solves : {b : Bounds} {table : List ℕ} (q : Question) → Good b q → {σ : Values} {answers : List (List ℕ)} → All (IsTrue b q) answers → Any (Fits b q table σ) answers
    → Solves σ q.equations
fit_solves q good {σ} ts fs =
    Any-out (λ answer p. solves_below p.1.values σ q.equations good.formed (λ i k. rw (p.1.same i k) ≈refl) (p.0.1 p.1.values p.1.meets)) (Any_with ts fs)

pub nothing-fits : {P : List ℕ → Type 0} → Any P [] → ⊥
nothing-fits h = elim h [ ]
