-- More lent, same list, of two granted runs of one question: the search's theorems, of what the calls were told and of their buffers. The room changes
-- nothing. And some loan is enough.
use Rattle.std.specs.Prelude.{ℕ, ◌≡◌, List, ◌++◌, length, take, drop}
use Rattle.std.proofs.Common.{ap, sym, ◌∙◌, append_assoc, arith}
use Rattle.std.proofs.Math.Seq.{take-append_seam}
use Rattle.terms.specs.Bounds.{edition_one}
use Rattle.terms.specs.Answers.{listed}
use Rattle.search.specs.declared.ends.End.TheVariants.{Done}
use Rattle.search.specs.Ends.{end_number}
use Rattle.search.specs.Run.{Loan, Outcome, ran}
use Rattle.promises.proofs.Promises
use Rattle.promises.specs.Wording.{NoLess, Begins, followed_by}
use Rattle.results.specs.Result.{gives}
use Rattle.guarantees.specs.Calls.{Posed, asked, Lending, loan_of, in_room, run_told, answers_after, used}
use Rattle.guarantees.specs.Notions.{Granted}
use Rattle.guarantees.proofs.Subjects.Granting.{granted_exactly, done_by_number}
use Rattle.guarantees.proofs.Subjects.GrantedList.{buffer_after}

-- ---- two runs

module _ (q : Posed) (l m : Lending) (o p : Outcome) (first : run_told q l ≡ gives o) (second : run_told q m ≡ gives p) where
  earlier : Granted q l o
  earlier = (granted_exactly q l o).0 first

  later : Granted q m p
  later = (granted_exactly q m p).0 second

  -- a list that begins another stands at the start of its buffer
  kept : Begins (listed o.answers) (listed p.answers) → take (used o) (answers_after q m) ≡ listed o.answers
  kept (followed_by zs e) =
      let rest : List ℕ = drop (used p) m.answers in
      ap (take (used o)) (buffer_after q m p second ∙ ap (λ (ws : List ℕ). ws ++ rest) e ∙ append_assoc (listed o.answers) zs rest) ∙ take-append_seam (listed o.answers) (zs ++ rest)

  own : take (used o) (answers_after q l) ≡ listed o.answers
  own = ap (take (used o)) (buffer_after q l o first) ∙ take-append_seam (listed o.answers) (drop (used o) l.answers)

  module _ (more : NoLess (loan_of l) (loan_of m)) where
    begins : Begins (listed o.answers) (listed p.answers)
    begins = rw (earlier.outcome, later.outcome) (Promises.more-lent-same_words edition_one (asked q) (loan_of l) (loan_of m) more)

    pub list-kept : take (used o) (answers_after q m) ≡ take (used o) (answers_after q l)
    list-kept = kept begins ∙ sym own

    pub done_repeated : end_number o.end ≡ 0 → run_told q m ≡ run_told q l
    done_repeated d =
        let done : (ran edition_one (asked q) (loan_of l)).end ≡ Done = rw earlier.outcome at (done_by_number o.end d) in
        let same : p ≡ o = later.outcome ∙ Promises.done_stays_done edition_one (asked q) (loan_of l) (loan_of m) more done ∙ sym earlier.outcome in
        second ∙ ap gives same ∙ sym first

-- ---- the room

pub room_neutral : (q : Posed) (l : Lending) (room : List ℕ) (o p : Outcome) → run_told q l ≡ gives o → run_told q (in_room room l) ≡ gives p → p ≡ o
room_neutral q l room o p first second = ((granted_exactly q (in_room room l) p).0 second).outcome ∙ sym ((granted_exactly q l o).0 first).outcome

pub contents_neutral : (q : Posed) (l : Lending) (room : List ℕ) → length room ≡ length l.room → run_told q (in_room room l) ≡ run_told q l
contents_neutral q l room e = rw e

-- ---- enough

pub enough_lent : (q : Posed) (l : Lending) (o : Outcome) → run_told q l ≡ gives o → (least : Loan) × ((more : Loan) → NoLess least more → end_number (ran edition_one (asked q) more).end ≡ 0)
unfolding edition_one
enough_lent q l o gave =
    let good = ((granted_exactly q l o).0 gave).good.good in
    let enough = Promises.enough_is_done edition_one (asked q) good (omega (arith, good.unknowns)) in
    (enough.0, λ more h. rw (enough.1 more h))
