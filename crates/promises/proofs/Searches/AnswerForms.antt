-- The form of answers: every listed answer is the words of bindings in solved form, formed over the question's functors and no more than twice its
-- unknowns. What holds of each answer node of a search holds of each answer that a run lists.
use Rattle.std.specs.Prelude.{ℕ, ◌+◌, ◌≤◌, List, [], ◌∷◌}
use Rattle.std.proofs.Common.{arith}
use Rattle.terms.specs.Bounds.{Bounds}
use Rattle.terms.specs.Lists.{All, none as All-none, both, All-map, All-both, All-append}
use Rattle.terms.specs.Formed.{Equation, Question}
use Rattle.terms.specs.Answers.{Binding, answer_words}
use Rattle.search.specs.Run.{Loan, Outcome, Visit, Verdict, stops, overflows, goes_on, Answer, silent, states, answer_by, visit, dead_visit, visits, root, found, verdict, spend, after, scan, ran}
use Rattle.promises.specs.Wording.{InForm, AnswersInForm, words_of}
use Rattle.terms.specs.Laws.Substitution.{formed_wider}
use Rattle.search.specs.State.{Entry}
use Rattle.invariants.proofs.Orderly.{Orderly}
use Rattle.promises.specs.Searches.Visiting.{visits_each}
use Rattle.promises.proofs.Searches.Naming.{names_within}
use Rattle.invariants.proofs.Tree.{FormedQuestion, orderly_children, root_orderly}

-- ---- what a run lists

-- an answer, if there is one, that has P
pub data Stating (P : List Binding → Type 0) : Answer → Type 0 where
  stating_nothing : Stating P silent
  stating : {bs : List Binding} → P bs → Stating P (states bs)

found_each : (b : Bounds) {P : List Binding → Type 0} {Q : List ℕ → Type 0} → ((bs : List Binding) → P bs → Q (answer_words b bs)) → {a : Answer} → Stating P a → All Q (found b a)
unfolding found
found_each b f stating_nothing = All-none
found_each b f (stating {bs = bs} p) = both (f bs p) All-none

after_each : {Q : List ℕ → Type 0} (k : Verdict) {ws : List (List ℕ)} (o : Outcome) → All Q ws → All Q o.answers → All Q (after k ws o).answers
unfolding after
after_each (stops e) o h k = All-none
after_each overflows o h k = All-none
after_each goes_on o h k = All-append h k

pub scan_each : (b : Bounds) {P : List Binding → Type 0} {Q : List ℕ → Type 0} → ((bs : List Binding) → P bs → Q (answer_words b bs)) → {vs : List Visit}
    → All (λ v. Stating P v.answer) vs → (l : Loan) → All Q (scan b l vs).answers
unfolding scan
scan_each b f All-none l = All-none
scan_each b f (both {x = v} h hs) l = after_each (verdict b l v) _ (found_each b f h) (scan_each b f hs (spend b l v))

-- ---- their form

in_form_up : {arities : List ℕ} {n m : ℕ} → n ≤ m → {a : Answer} → Stating (InForm arities n) a → Stating (InForm arities m) a
in_form_up l stating_nothing = stating_nothing
in_form_up l (stating f) =
    stating (record { solved = f.solved; formed = All-map (λ m h. record { name = omega arith; value = formed_wider l h.value }) f.formed })

answer_in_form : {arities : List ℕ} (es : List Equation) (ps : List Entry) (bs : List Binding) {n : ℕ} → InForm arities n bs → Stating (InForm arities n) (answer_by es ps bs)
unfolding answer_by
answer_in_form [] [] bs f = stating f
answer_in_form [] (p ∷ ps) bs f = stating_nothing
answer_in_form (e ∷ es) ps bs f = stating_nothing

visits_in_form : (q : Question) → FormedQuestion q → (n : ℕ) → All (λ v. Stating (InForm q.arities v.next) v.answer) (visits n 0 (root q))
unfolding visit dead_visit
visits_in_form q h n =
    visits_each (Orderly q.arities) (λ v. Stating (InForm q.arities v.next) v.answer) orderly_children (λ d. stating_nothing)
    (λ d st o. answer_in_form st.pending st.pile st.bindings (record { solved = o.solved; formed = o.bindings })) n 0 (root q) (root_orderly q h)

pub answers_in_form : (b : Bounds) (q : Question) (l : Loan) → FormedQuestion q → All (AnswersInForm b q.arities (q.unknowns + q.unknowns)) (ran b q l).answers
unfolding ran
answers_in_form b q l h =
    scan_each b (λ bs f. words_of bs f)
    (All-map (λ v k. in_form_up k.0 k.1) (All-both (names_within q h (l.depth + 2)) (visits_in_form q h (l.depth + 2)))) l
