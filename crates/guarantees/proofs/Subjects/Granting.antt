-- When a run is granted, and what it then is: the tests of its limits, its question and its room, and the search. What a call gives back is its outcome's.
use Rattle.std.specs.Prelude.{ℕ, ◌+◌, ◌*◌, ◌≤◌, ◌≡◌, refl, cond, List, ◌↔◌, ltb, length, Err, Ok}
use Rattle.std.proofs.Common.{ap, arith, ltb-false, le-ltb, Ok}
use Rattle.room.specs.Layout.{HEADER, SPARE_ROWS}
use Rattle.terms.specs.Bounds.{edition_one, edition_one_proper}
use Rattle.terms.specs.Lists.{cases}
use Rattle.terms.specs.Formed.{Question}
use Rattle.checks.specs.Check.{check_question, after_check, Checked}
use Rattle.checks.specs.Lent.{Asked, check_question-asked, good_check_question}
use Rattle.terms.specs.Reading.{question_of}
use Rattle.terms.specs.declared.refusal.Cause.TheVariants.{Buffer}
use Rattle.terms.specs.declared.refusal.Refusal.{Refusal}
use Rattle.search.specs.declared.ends.End.{End}
use Rattle.search.specs.declared.ends.End.TheVariants.{Done, Steps, Depth, Names, Size, Space}
use Rattle.search.specs.Ends.{end_number}
use Rattle.search.specs.RunLimits.{most_steps, most_depth, most_size}
use Rattle.search.specs.Run.{Outcome, ran}
use Rattle.results.specs.Loans.{loan, needed, ending}
use Rattle.results.specs.Result.{Told, refuses, gives, told, told_within, result}
use Rattle.results.specs.declared.ran.Ending.{Ending}
use Rattle.guarantees.specs.Calls.{Posed, asked, Lending, loan_of, run_told}
use Rattle.guarantees.specs.Notions.{Granted}
use Rattle.guarantees.proofs.Subjects.{impossible}

-- words pass the check exactly if they ask a good question
asked_fine : {e : ℕ} {ws : List ℕ} (g : Question) → Asked edition_one e ws g → check_question edition_one g.unknowns g.arities e ws ≡ Ok tt
asked_fine g a = rw (a.count, a.worded) at (good_check_question edition_one_proper g a.good)

pub asked_exactly : (q : Posed) → (check_question edition_one q.unknowns q.arities q.equations q.words ≡ Ok tt) ↔ Asked edition_one q.equations q.words (asked q)
unfolding question_of
asked_exactly q = (check_question-asked edition_one_proper q.unknowns q.arities q.equations q.words, asked_fine (asked q))

-- ---- a granted run

refused-not-given : {P : Type 0} {r : Refusal} {o : Outcome} → refuses r ≡ gives o → P
refused-not-given e = impossible (cc)

granted : (q : Posed) (l : Lending) (o : Outcome) → run_told q l ≡ gives o → Granted q l o
unfolding told told_within after_check loan needed
granted q l o e =
    cases (ltb most_steps l.steps) (λ t. refused-not-given (rw t at e))
    (λ s. cases (ltb most_depth l.depth) (λ t. refused-not-given (rw (s, t) at e))
    (λ d. cases (ltb most_size l.size) (λ t. refused-not-given (rw (s, d, t) at e))
    (λ z. asking (ltb-false _ _ s) (ltb-false _ _ d) (ltb-false _ _ z) (check_question edition_one q.unknowns q.arities q.equations q.words) refl (rw (s, d, z) at e))))
  where
    found : Told
    found = gives (ran edition_one (asked q) (loan_of l))

    tested : Told
    tested = cond (ltb (length l.room) ((l.depth + SPARE_ROWS) * (l.size + HEADER))) (refuses (record { cause = Buffer; place = (l.depth + SPARE_ROWS) * (l.size + HEADER) })) found

    asking : l.steps ≤ most_steps → l.depth ≤ most_depth → l.size ≤ most_size → (c : Checked) → check_question edition_one q.unknowns q.arities q.equations q.words ≡ c
        → after_check c refuses tested ≡ gives o → Granted q l o
    asking s d z (Err r) c y = refused-not-given y
    asking s d z (Ok _) c y =
        cases (ltb (length l.room) ((l.depth + SPARE_ROWS) * (l.size + HEADER))) (λ t. refused-not-given (rw t at y))
        (λ f. let x : found ≡ gives o = rw f at y in record { steps = s; depth = d; size = z; good = (asked_exactly q).0 c; room = ltb-false _ _ f; outcome = cc })

grants : (q : Posed) (l : Lending) (o : Outcome) → Granted q l o → run_told q l ≡ gives o
unfolding told told_within after_check loan needed
grants q l o g =
    rw (le-ltb most_steps _ g.steps, le-ltb most_depth _ g.depth, le-ltb most_size _ g.size, (asked_exactly q).1 g.good, le-ltb _ _ g.room, g.outcome) refl

pub granted_exactly : (q : Posed) (l : Lending) (o : Outcome) → (run_told q l ≡ gives o) ↔ Granted q l o
granted_exactly q l o = (granted q l o, grants q l o)

-- ---- what a call gives back

pub ended_exactly : (q : Posed) (l : Lending) (e : Ending) → (result (run_told q l) ≡ Ok e) ↔ ((o : Outcome) × (run_told q l ≡ gives o) × (ending o ≡ e))
unfolding result
ended_exactly q l e = (go (run_told q l) refl, λ h. rw h.1 (ap Ok h.2))
  where
    go : (t : Told) → run_told q l ≡ t → result t ≡ Ok e → (o : Outcome) × (run_told q l ≡ gives o) × (ending o ≡ e)
    go (refuses r) s x = impossible (cc)
    go (gives o) s x = (o, s, cc)

pub done_by_number : (e : End) → end_number e ≡ 0 → e ≡ Done
done_by_number Done z = refl
done_by_number Steps z = absurd (omega arith)
done_by_number Depth z = absurd (omega arith)
done_by_number Names z = absurd (omega arith)
done_by_number Size z = absurd (omega arith)
done_by_number Space z = absurd (omega arith)
