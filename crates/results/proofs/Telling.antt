-- What a run tells, test by test: the limits, then the question, then the room; a refusal leaves the answers and the room as they were.
use Rattle.std.specs.Prelude.{ℕ, ◌≤◌, ◌<◌, ◌≡◌, refl, List, length, Err, Ok}
use Rattle.std.proofs.Common.{sym, ap, arith, Some, None, Result, Ok, Err}
use borrow.Author.Tests.{le-ltb, lt-ltb}
use Rattle.room.specs.Room.{put, put-nil}
use Rattle.terms.specs.Bounds.{edition_one}
use Rattle.terms.specs.Answers.{listed}
use Rattle.terms.specs.Reading.{question_of}
use Rattle.terms.specs.declared.refusal.Cause.TheVariants.{Limit, Buffer}
use Rattle.terms.specs.declared.refusal.Refusal.{Refusal}
use Rattle.checks.specs.Check.{check_question, after_check}
use Rattle.search.specs.declared.limits.Limits.{Limits}
use Rattle.search.specs.RunLimits.{lent}
use Rattle.search.specs.Run.{Outcome, ran}
use Rattle.results.specs.declared.ran.Ending.{Ending}
use Rattle.results.specs.Loans.{loan, needed, ending}
use Rattle.results.specs.Result.{Told, refuses, gives, told_within, told, result, words_told, RunGives}

-- ---- what comes back

refused_so : {t : Told} {why : Refusal} (a l : List ℕ) → t ≡ refuses why → RunGives t (Err why) a a l l
unfolding result words_told
refused_so a l e = rw e (record { told_back = refl; begins = sym (put-nil a 0); left_alone = λ why f. refl })

pub given_so : {t : Told} {o : Outcome} {r : Ending} {a answers l room : List ℕ} → t ≡ gives o → r ≡ ending o → answers ≡ put a 0 (listed o.answers) → RunGives t (Ok r) a answers l room
unfolding result words_told
given_so e r a = rw e (record { told_back = ap Ok r; begins = a; left_alone = λ why f. let z : ◌≡◌ {A = ℕ} 0 1 = cc in absurd (omega arith) })

-- ---- the limits

module _ (steps depth size : ℕ) (n : ℕ) (arities : List ℕ) (e : ℕ) (ws a l : List ℕ) where
  pub within_limits : {limits : Limits} {r : Result Ending Refusal} {answers room : List ℕ} → lent steps depth size ≡ Some limits
      → RunGives (told_within n arities e ws (length a) (length l) (Some limits)) r a answers l room
      → RunGives (told n arities e ws steps depth size (length a) (length l)) r a answers l room
  unfolding told
  within_limits f g = rw f g

  pub above_limits : lent steps depth size ≡ None → RunGives (told n arities e ws steps depth size (length a) (length l)) (Err (record { cause = Limit; place = 0 })) a a l l
  unfolding told told_within
  above_limits f = refused_so a l (rw f)

-- ---- the question, then the room

module _ (n : ℕ) (arities : List ℕ) (e : ℕ) (ws : List ℕ) (limits : Limits) (a l : List ℕ) where
  abbrev told_here : Told
  told_here = told_within n arities e ws (length a) (length l) (Some limits)

  pub faulty : {why : Refusal} → check_question edition_one n arities e ws ≡ Err why → RunGives told_here (Err why) a a l l
  unfolding told_within after_check
  faulty f = refused_so a l (rw f)

  module _ (fine : check_question edition_one n arities e ws ≡ Ok tt) where
    pub small_room : length l < needed limits → RunGives told_here (Err (record { cause = Buffer; place = needed limits })) a a l l
    unfolding told_within after_check
    small_room h = refused_so a l (rw (fine, lt-ltb (length l) (needed limits) h))

    pub is_run : needed limits ≤ length l → told_here ≡ gives (ran edition_one (question_of edition_one n arities ws) (loan limits (length a)))
    unfolding told_within after_check
    is_run h = rw (fine, le-ltb (length l) (needed limits) h)
