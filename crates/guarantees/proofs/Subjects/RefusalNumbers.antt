-- Which numbers of SPECIFICATION 6.2 and 7 an entry may refuse with, and a run may end with.
use Rattle.std.specs.Prelude.{ℕ, suc, zero, ◌+◌, ◌≡◌, refl, Bool, true, false, cond, Err, List, [], ◌∷◌, ◌++◌, ◌⊎◌, eqb, leb, ltb, length, Result, Ok, None, Option, Some}
use Rattle.std.proofs.lemmas.Bool.{false≢true}
use Rattle.std.proofs.Common.{inl, inr, Option, Some, None}
use Rattle.terms.specs.Bounds.{edition_one}
use Rattle.terms.specs.Lists.{here, there, cases, Any-left}
use Rattle.terms.specs.Kind.{kind}
use Rattle.checks.specs.Check.{follows, follow, after, checked, above, check_terms, check_question, check_row, check_answers, after_check, Checked, Follow}
use Rattle.terms.specs.Refusal.{number}
use Rattle.terms.specs.declared.kind.Kind.{Kind}
use Rattle.terms.specs.declared.kind.Kind.TheVariants.{Empty, Member, Unknown, Functor, Nothing}
use Rattle.terms.specs.declared.refusal.Cause.{Cause}
use Rattle.terms.specs.declared.refusal.Cause.TheVariants.{Byte, Number, Limit, Undeclared, Arguments, Nesting, Buffer, WordsStop, WordsMeaningless, WordsUndeclared, WordsLeft}
use Rattle.terms.specs.declared.refusal.Refusal.{Refusal}
use Rattle.search.specs.declared.ends.End.{End}
use Rattle.search.specs.declared.ends.End.TheVariants.{Done, Steps, Depth, Names, Size, Space}
use Rattle.search.specs.declared.limits.Limits.{Limits}
use Rattle.search.specs.Ends.{end_number, end_of}
use Rattle.search.specs.RunLimits.{lent}
use Rattle.search.specs.Run.{Outcome, ran}
use Rattle.promises.proofs.Promises
use Rattle.numerals.specs.TextReading.{Reading, and_then}
use Rattle.term_reader.specs.ReadingPlaces.{Placed, goes_on, stops}
use Rattle.reader.specs.LentBuffers.{question_into, answer}
use Rattle.question_reader.specs.Questions as reader
use Rattle.results.specs.declared.read.Counts.{Counts}
use Rattle.reader.specs.LentBuffers as lent
use Rattle.question_reader.specs.WholePlaces.{question_placed}
use Rattle.word_writer.specs.Depths.{First}
use Rattle.writer.specs.Written.{tested, question_written, list_written, check_list}
use Rattle.equality.specs.Answering.{equality_after, equal_answer, solving_after, solves_answer}
use Rattle.results.specs.Loans.{needed, loan}
use Rattle.results.specs.Result.{Told, refuses, gives, told, told_within}
use Rattle.guarantees.specs.Calls.{Posed, asked, Lending, loan_of, run_told, question_told, list_told, solves_told, text_told}
use Rattle.guarantees.specs.Notions.{OneOf}
use Rattle.guarantees.proofs.Subjects.{impossible}
use Rattle.guarantees.proofs.Subjects.Granting.{granted_exactly}
use Rattle.guarantees.proofs.Subjects.GrantedList.{past_the_check}

-- ---- of the checks

-- a check that is fine, or a refusal of one of these numbers
pub data Numbered (ns : List ℕ) : Checked → Type 0 where
  passed : Numbered ns (Ok tt)
  told_as : {r : Refusal} → OneOf ns (number r.cause) → Numbered ns (Err r)

data Faults : Follow → Type 0 where
  no_fault : {n : ℕ} → Faults (Ok n)
  fault : {cause : Cause} → number cause ≡ 8 → Faults (Err cause)

follow_faults : (arities : List ℕ) (n : ℕ) (k : Kind) → Faults (follows arities n k)
unfolding follows
follow_faults arities n Empty = no_fault
follow_faults arities n Member = no_fault
follow_faults arities n (Unknown i) = cases (ltb i n) (λ t. rw t no_fault) (λ f. rw f (fault refl))
follow_faults arities n (Functor k) = cases (ltb k (length arities)) (λ t. rw t no_fault) (λ f. rw f (fault refl))
follow_faults arities n Nothing = fault refl

after_numbered : {f : Follow} (place : ℕ) {on : ℕ → Checked} → Faults f → ((m : ℕ) → Numbered (8 ∷ []) (on m)) → Numbered (8 ∷ []) (after f place on)
unfolding after
after_numbered place (no_fault {n = n}) h = h n
after_numbered place (fault e) h = told_as (here e)

walk_numbered : (arities : List ℕ) (n : ℕ) (ws : List ℕ) (place answers bindings terms : ℕ) → Numbered (8 ∷ []) (checked edition_one arities n ws place answers bindings terms)
unfolding checked follow
walk_numbered arities n [] place answers bindings terms = cases (eqb (answers + bindings + terms) 0) (λ t. rw t passed) (λ f. rw f (told_as (here refl)))
walk_numbered arities n (w ∷ ws) place answers bindings (suc terms) =
    after_numbered place (follow_faults arities n (kind edition_one w)) (λ m. walk_numbered arities n ws (place + 1) answers bindings (terms + m))
walk_numbered arities n (w ∷ ws) place answers (suc bindings) zero =
    cases (ltb w n) (λ t. rw t (walk_numbered arities n ws (place + 1) answers bindings 1)) (λ f. rw f (told_as (here refl)))
walk_numbered arities n (w ∷ ws) place (suc answers) zero zero = walk_numbered arities n ws (place + 1) answers w 0
walk_numbered arities n (w ∷ ws) place zero zero zero = told_as (here refl)

above_numbered : (b : Bool) (place : ℕ) {c : Checked} → Numbered (3 ∷ 8 ∷ []) c → Numbered (3 ∷ 8 ∷ []) (above b place c)
unfolding above
above_numbered true place h = told_as (here refl)
above_numbered false place h = h

-- with 3 in front
three_too : {c : Checked} → Numbered (8 ∷ []) c → Numbered (3 ∷ 8 ∷ []) c
three_too passed = passed
three_too (told_as h) = told_as (there h)

terms_numbered : (arities : List ℕ) (n terms : ℕ) (ws : List ℕ) → Numbered (3 ∷ 8 ∷ []) (check_terms edition_one arities n terms ws)
unfolding check_terms
terms_numbered arities n terms ws = above_numbered _ _ (three_too (walk_numbered arities n ws 0 0 0 terms))

pub question_numbered : (n : ℕ) (arities : List ℕ) (e : ℕ) (ws : List ℕ) → Numbered (3 ∷ 8 ∷ []) (check_question edition_one n arities e ws)
unfolding check_question
question_numbered n arities e ws = above_numbered _ _ (terms_numbered arities n _ ws)

row_numbered : (arities : List ℕ) (terms : ℕ) (ws : List ℕ) → Numbered (3 ∷ 8 ∷ []) (check_row edition_one arities terms ws)
unfolding check_row
row_numbered arities terms ws = above_numbered _ _ (terms_numbered arities 0 terms ws)

list_numbered : (end : Option End) (visited : ℕ) (arities : List ℕ) (answers : ℕ) (ws : List ℕ) → Numbered (3 ∷ 8 ∷ []) (check_list edition_one end visited arities answers ws)
unfolding check_list check_answers
list_numbered None visited arities answers ws = told_as (here refl)
list_numbered (Some end) visited arities answers ws = above_numbered _ _ (above_numbered _ _ (three_too (walk_numbered arities _ ws 0 answers 0 0)))

-- ---- of the entries

-- with the numbers of later tests behind
or_later : {ns : List ℕ} (ms : List ℕ) {s r : Refusal} → OneOf ns (number s.cause) → s ≡ r → OneOf (ns ++ ms) (number r.cause)
or_later ms h e = Any-left ms (rw e at h)

pub run_numbers : (q : Posed) (l : Lending) (r : Refusal) → run_told q l ≡ refuses r → OneOf (3 ∷ 8 ∷ 7 ∷ []) (number r.cause)
unfolding told told_within after_check
run_numbers q l r e = go (lent l.steps l.depth l.size) e
  where
    -- what the room is tested for
    tested-room : Limits → Told
    tested-room limits =
        cond (ltb (length l.room) (needed limits)) (refuses (record { cause = Buffer; place = needed limits })) (gives (ran edition_one (asked q) (loan limits (length l.answers))))

    short : (limits : Limits) → tested-room limits ≡ refuses r → number r.cause ≡ 7
    short limits e =
        cases (ltb (length l.room) (needed limits))
        (λ t. let x : refuses (record { cause = Buffer; place = needed limits }) ≡ refuses r = rw t at e in
        let z : record { cause = Buffer; place = needed limits } ≡ r = cc in
        rw (← z))
        (λ f. let x : gives _ ≡ refuses r = rw f at e in impossible (cc))

    asking : (limits : Limits) (c : Checked) → Numbered (3 ∷ 8 ∷ []) c → after_check c refuses (tested-room limits) ≡ refuses r → OneOf (3 ∷ 8 ∷ 7 ∷ []) (number r.cause)
    asking limits (Err s) (told_as h) e = let same : s ≡ r = cc in or_later (7 ∷ []) h same
    asking limits (Ok _) h e = there (there (here (short limits e)))

    go : (x : Option Limits) → told_within q.unknowns q.arities q.equations q.words (length l.answers) (length l.room) x ≡ refuses r → OneOf (3 ∷ 8 ∷ 7 ∷ []) (number r.cause)
    go None e = let z : record { cause = Limit; place = 0 } ≡ r = cc in rw (← z) (here refl)
    go (Some limits) e = asking limits _ (question_numbered q.unknowns q.arities q.equations q.words) e

written-numbers : {c : Checked} → Numbered (3 ∷ 8 ∷ []) c → (deep : First) (room : ℕ) (text : List ℕ) {r : Refusal} → tested c deep room text ≡ Err r
    → OneOf (3 ∷ 8 ∷ 6 ∷ 7 ∷ []) (number r.cause)
unfolding tested
written-numbers (told_as {r = s} h) deep room text {r} e = let same : s ≡ r = cc in or_later (6 ∷ 7 ∷ []) h same
written-numbers passed deep room text {r} e = go (past_the_check deep room text e)
  where
    go : (number r.cause ≡ 6) ⊎ (number r.cause ≡ 7) → OneOf (3 ∷ 8 ∷ 6 ∷ 7 ∷ []) (number r.cause)
    go (inl six) = there (there (here six))
    go (inr seven) = there (there (there (here seven)))

pub question-numbers : (q : Posed) (buffer : List ℕ) (r : Refusal) → question_told q buffer ≡ Err r → OneOf (3 ∷ 8 ∷ 6 ∷ 7 ∷ []) (number r.cause)
unfolding question_written
question-numbers q buffer r e = written-numbers (question_numbered q.unknowns q.arities q.equations q.words) _ _ _ e

pub list-numbers : (arities : List ℕ) (end visited answers : ℕ) (words buffer : List ℕ) (r : Refusal) → list_told arities end visited answers words buffer ≡ Err r
    → OneOf (3 ∷ 8 ∷ 6 ∷ 7 ∷ []) (number r.cause)
unfolding list_written
list-numbers arities end visited answers words buffer r e = written-numbers (list_numbered (end_of end) visited arities answers words) _ _ _ e

pub equal-numbers : (arities ws : List ℕ) (r : Refusal) → equal_answer edition_one arities ws ≡ Err r → OneOf (3 ∷ 8 ∷ []) (number r.cause)
unfolding equal_answer equality_after
equal-numbers arities ws r e = go _ (row_numbered arities 2 ws) _ e
  where
    go : (c : Checked) → Numbered (3 ∷ 8 ∷ []) c → (test : Bool) → equality_after c test ≡ Err r → OneOf (3 ∷ 8 ∷ []) (number r.cause)
    go (Err s) (told_as h) test e = let same : s ≡ r = cc in or_later [] h same
    go (Ok _) h test e = impossible (cc)

pub solves_numbers : (q : Posed) (ws : List ℕ) (r : Refusal) → solves_told q ws ≡ Err r
    → OneOf (3 ∷ 8 ∷ []) (number r.cause)
unfolding solves_answer solving_after
solves_numbers q ws r e = go _ (question_numbered q.unknowns q.arities q.equations q.words) _ (row_numbered q.arities q.unknowns ws) _ e
  where
    go : (c : Checked) → Numbered (3 ∷ 8 ∷ []) c → (d : Checked) → Numbered (3 ∷ 8 ∷ []) d → (test : Bool) → solving_after c d test ≡ Err r → OneOf (3 ∷ 8 ∷ []) (number r.cause)
    go (Err s) (told_as h) d k test e = let same : s ≡ r = cc in or_later [] h same
    go (Ok _) h (Err s) (told_as k) test e = let same : s ≡ r = cc in or_later [] k same
    go (Ok _) h (Ok _) k test e = impossible (cc)

-- ---- of texts

of_text : (cause : Cause) → leb (number cause) 6 ≡ true → OneOf (1 ∷ 2 ∷ 3 ∷ 4 ∷ 5 ∷ 6 ∷ 7 ∷ []) (number cause)
of_text Byte e = here refl
of_text Number e = there (here refl)
of_text Limit e = there (there (here refl))
of_text Undeclared e = there (there (there (here refl)))
of_text Arguments e = there (there (there (there (here refl))))
of_text Nesting e = there (there (there (there (there (here refl)))))
of_text Buffer e = absurd (false≢true e)
of_text WordsStop e = absurd (false≢true e)
of_text WordsMeaningless e = absurd (false≢true e)
of_text WordsUndeclared e = absurd (false≢true e)
of_text WordsLeft e = absurd (false≢true e)

pub text_numbers : (text arities words : List ℕ) (r : Refusal) → answer (text_told text arities words) ≡ Err r → OneOf (1 ∷ 2 ∷ 3 ∷ 4 ∷ 5 ∷ 6 ∷ 7 ∷ []) (number r.cause)
unfolding answer question_into lent.fitted and_then
text_numbers text arities words r e = go (question_placed edition_one text) e
  where
    seven : (place : ℕ) → ◌≡◌ {A = Result Counts Refusal} (Err (record { cause = Buffer; place = place })) (Err r) → OneOf (1 ∷ 2 ∷ 3 ∷ 4 ∷ 5 ∷ 6 ∷ 7 ∷ []) (number r.cause)
    seven place e = let z : record { cause = Buffer; place = place } ≡ r = cc in rw (← z) (there (there (there (there (there (there (here refl)))))))

    go : {P : reader.Asked → Type 0} {low : ℕ} {x : Reading reader.Asked} → Placed text low P x → answer (and_then x (lent.fitted (length arities) (length words))) ≡ Err r
        → OneOf (1 ∷ 2 ∷ 3 ∷ 4 ∷ 5 ∷ 6 ∷ 7 ∷ []) (number r.cause)
    go (stops cause p small h) e = let z : record { cause = cause; place = p } ≡ r = cc in rw (← z) (of_text cause small)
    go (goes_on q {a} l h x) e =
        cases (ltb (length arities) (length a.head.arities)) (λ t. seven _ (rw t at e))
        (λ f. cases (ltb (length words) (length a.words)) (λ t. seven _ (rw (f, t) at e))
        (λ g. let x : ◌≡◌ {A = Result Counts Refusal} (Ok _) (Err r) = rw (f, g) at e in impossible (cc)))

-- ---- of ends

pub end-numbers : (q : Posed) (l : Lending) (o : Outcome) → run_told q l ≡ gives o → OneOf (0 ∷ 20 ∷ 21 ∷ 22 ∷ 23 ∷ []) (end_number o.end)
end-numbers q l o gave = go o.end refl
  where
    go : (e : End) → o.end ≡ e → OneOf (0 ∷ 20 ∷ 21 ∷ 22 ∷ 23 ∷ []) (end_number o.end)
    go Done e = rw e (here refl)
    go Steps e = rw e (there (here refl))
    go Depth e = rw e (there (there (here refl)))
    go Size e = rw e (there (there (there (here refl))))
    go Space e = rw e (there (there (there (there (here refl)))))
    go Names e =
        let g = (granted_exactly q l o).0 gave in
        absurd (Promises.names_suffice_in_edition_one (asked q) (loan_of l) g.good.good (rw g.outcome at e))
