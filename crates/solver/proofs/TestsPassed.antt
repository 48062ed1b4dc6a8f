-- What the tests of a run leave for its start: limits within their bounds, a good question in its words, and a room that is large enough.
use Rattle.std.specs.Prelude.{Ok}
use Prim.Native.Nat.{ℕ, ◌≤◌}
use mathlib.Core.Path.{◌≡◌, sym}
use mathlib.Core.List.{List}
use Rattle.std.proofs.Common.{Option, Some, None, Ok}
use native.Mathlib.Omega.{arith}
use lib.Dec.{ltb}
use lib.ListN.{length}
use borrow.Author.Tests.{ltb-false}
use Rattle.terms.specs.Bounds.{edition_one, edition_one_proper}
use Rattle.checks.specs.Check.{check_question}
use Rattle.checks.specs.Lent.{check_question-asked}
use Rattle.terms.specs.Reading.{question_of}
use Rattle.terms.specs.Lists.{cases}
use Rattle.search.specs.declared.limits.Limits.{Limits}
use Rattle.search.specs.RunLimits.{lent, most_steps, most_depth, most_size}
use Rattle.results.specs.declared.ran.Ending.{Ending}
use Rattle.results.specs.Loans.{needed}
use Rattle.results.specs.Result.{told_within, RunGives}
use Rattle.results.proofs.Telling.{given_so, is_run}
use Rattle.search_turn.specs.Running.{Ends}
use Rattle.search_turn.proofs.GoesOn.{needed_small}
use Rattle.solver.specs.Start.{Asking, Bounded, whole_run}

pub fine_run : (n : ℕ) (arities : List ℕ) (e : ℕ) (ws : List ℕ) (limits : Limits) (a l : List ℕ) → check_question edition_one n arities e ws ≡ Ok tt
    → {r : Ending} {answers room : List ℕ} → needed limits ≤ length l → Ends (whole_run n arities ws limits a) r answers
    → RunGives (told_within n arities e ws (length a) (length l) (Some limits)) (Ok r) a answers l room
unfolding whole_run
fine_run n arities e ws limits a l fine h E = given_so (is_run n arities e ws limits a l fine h) (sym E.ending) (sym E.answers)

pub asking : {n : ℕ} {arities : List ℕ} (e : ℕ) {ws : List ℕ} {limits : Limits} {l : List ℕ} → Bounded limits → check_question edition_one n arities e ws ≡ Ok tt → length l ≡ needed limits
    → Asking n arities ws limits l
unfolding question_of
asking {n} {arities} e {ws} {limits} B f h =
    let q = check_question-asked edition_one_proper n arities e ws f in
    record {
      suits =
          record {
            steps = B.steps;
            depth = B.depth;
            size = B.size;
            table = record { functors = q.good.functors; arities_within = q.good.arities };
            room = omega arith;
            short = omega (arith, needed_small limits B.depth B.size);
          };
      good = q.good;
      worded = q.worded;
    }

pub within_bounds : (steps depth size : ℕ) {limits : Limits} → lent steps depth size ≡ Some limits → Bounded limits
within_bounds steps depth size {limits} e =
    cases (ltb most_steps steps) (λ t. never (rw t at e))
    (λ f. cases (ltb most_depth depth) (λ t. never (rw (f, t) at e))
    (λ g. cases (ltb most_size size) (λ t. never (rw (f, g, t) at e))
    (λ h.
    let same : Some (record { steps = steps; depth = depth; size = size }) ≡ Some limits = rw (f, g, h) at e in
    let is : limits ≡ record { steps = steps; depth = depth; size = size } = cc in
    rw is (record { steps = ltb-false most_steps steps f; depth = ltb-false most_depth depth g; size = ltb-false most_size size h }))))
  where
    never : {P : Type 0} → ◌≡◌ {A = Option Limits} None (Some limits) → P
    never e = let z : ◌≡◌ {A = ℕ} 0 1 = cc in absurd (omega arith)
