-- The list of a granted run: it fits the words lent for it, no more nodes are visited than steps are lent, the buffer begins with it and is as it was after
-- it, it is read back from its words and their count, and `write_answers` finds nothing in it to refuse but its nesting.
use Rattle.std.specs.Prelude.{ℕ, ◌≤◌, ◌≡◌, refl, List, [], ◌∷◌, ◌++◌, map, ◌⊎◌, eqb, ltb, length, drop, Err, Ok, Some}
use Rattle.std.proofs.Common.{ap, ap₂, sym, ◌∙◌, inl, inr, arith, zero-add, length-append}
use Rattle.std.proofs.lemmas.List.{length-map}
use borrow.Author.Tests.{eqb-false, le-ltb}
use Rattle.room.specs.Room.{put-eq}
use Rattle.terms.specs.Bounds.{edition_one, edition_one_proper, PATH_UNKNOWNS}
use Rattle.terms.specs.Lists.{All, none, both, cases}
use Rattle.terms.specs.Formed.{Question}
use Rattle.terms.specs.Answers.{Binding, answer_words, listed, listed_append}
use Rattle.checks.specs.Check.{above}
use Rattle.checks.specs.Lent.{Table, Answered, answered-check_answers, answers_back}
use Rattle.terms.specs.Listing.{Bound, list_words, answers_of}
use Rattle.terms.specs.Reading.{question_of}
use Rattle.terms.specs.Refusal.{number}
use Rattle.terms.specs.declared.refusal.Cause.TheVariants.{Nesting, Buffer}
use Rattle.terms.specs.declared.refusal.Refusal.{Refusal}
use Rattle.search.specs.declared.ends.End.{End}
use Rattle.search.specs.declared.ends.End.TheVariants.{Done, Steps, Depth, Names, Size, Space}
use Rattle.search.specs.Ends.{end_number, end_of}
use Rattle.search.specs.RunLimits.{most_steps}
use Rattle.search.specs.Run.{Loan, Outcome, Visit, Verdict, stops, overflows, goes_on, found, found_size, ends, verdict, spend, after, scan, ran}
use Rattle.answers.specs.Fits.{States}
use Rattle.search.specs.Verdicts.{Judged, counted}
use Rattle.search.proofs.Verdicts.{judged}
use Rattle.word_writer.specs.Pen.{counted as as_counted}
use Rattle.word_writer.specs.Depths.{First, all_within, first_at}
use Rattle.writer.specs.Written.{check_list, tested, nested, fitted, list_written}
use Rattle.results.specs.Result.{gives, words_told}
use Rattle.guarantees.specs.Calls.{Posed, Lending, loan_of, run_told, answers_after, used, list_told}
use Rattle.guarantees.specs.Notions.{Granted}
use Rattle.guarantees.proofs.Subjects.{impossible}
use Rattle.guarantees.proofs.Subjects.Granting.{granted_exactly}
use Rattle.guarantees.proofs.Subjects.AnswersTrue.{answers_stated}

-- ---- within what was lent

record Within (l : Loan) (o : Outcome) : Type 0 where
  visited : o.visited ≤ l.steps
  words : length (listed o.answers) ≤ l.space

-- a node whose answer doesn't fit is counted, so a step was left
step_left : (l : Loan) (v : Visit) → verdict edition_one l v ≡ overflows → 1 ≤ l.steps
unfolding verdict ends
step_left l v e =
    cases (eqb l.steps 0)
    (λ t. let stopped : stops Steps ≡ overflows = rw t at e in impossible (cc))
    (λ f. let some : l.steps ≡ 0 → ⊥ = eqb-false _ _ f in omega arith)

scan-within : (vs : List Visit) (l : Loan) → Within l (scan edition_one l vs)
unfolding scan after listed spend found_size
scan-within [] l = omega arith
scan-within (v ∷ vs) l = go (verdict edition_one l v) refl (judged edition_one l v) (scan-within vs (spend edition_one l v))
  where
    ws : List (List ℕ)
    ws = found edition_one v.answer

    rest : Outcome
    rest = scan edition_one (spend edition_one l v) vs

    go : (k : Verdict) → verdict edition_one l v ≡ k → Judged edition_one l v k → Within (spend edition_one l v) rest → Within l (after k ws rest)
    go (stops e) q j h = omega arith
    go overflows q j h = record { visited = step_left l v q; words = omega arith }
    go goes_on q (counted a) h = record {
      visited = omega (arith, a.steps, h.visited);
      words = rw (listed_append ws rest.answers) (omega (arith, a.space, h.words, length-append (listed ws) (listed rest.answers)));
    }

-- ---- read back

-- the bindings that each answer states, in order
record Bindings (arities : List ℕ) (answers : List (List ℕ)) : Type 0 where
  each : List (List Binding)
  words : map (answer_words edition_one) each ≡ answers
  formed : All (All (Bound arities PATH_UNKNOWNS)) each

bindings_of : {q : Question} {answers : List (List ℕ)} → All (States edition_one q) answers → Bindings q.arities answers
unfolding edition_one
bindings_of none = record { each = []; words = refl; formed = none }
bindings_of (both s ss) =
    let rest = bindings_of ss in
    record { each = s.bindings ∷ rest.each; words = ap₂ (λ x xs. x ∷ xs) (sym s.words) rest.words; formed = both s.formed rest.formed }

list-answered : {arities : List ℕ} {answers : List (List ℕ)} (bs : Bindings arities answers) → Answered edition_one arities (length answers) (listed answers) bs.each
unfolding edition_one list_words
list-answered bs = record {
  count = sym (length-map bs.each (answer_words edition_one)) ∙ ap length bs.words;
  formed = bs.formed;
  worded = ap listed bs.words;
}

-- ---- what is refused once the words are fine

pub end_by_number : (e : End) → end_of (end_number e) ≡ Some e
end_by_number Done = refl
end_by_number Steps = refl
end_by_number Depth = refl
end_by_number Names = refl
end_by_number Size = refl
end_by_number Space = refl

pub past_the_check : (deep : First) (room : ℕ) (text : List ℕ) {r : Refusal} → nested deep room text ≡ Err r → (number r.cause ≡ 6) ⊎ (number r.cause ≡ 7)
unfolding nested fitted
past_the_check (first_at p) room text {r} e = let z : record { cause = Nesting; place = p } ≡ r = cc in inl (rw (← z))
past_the_check all_within room text {r} e =
    cases (ltb room (length text))
    (λ t. let x : Err (record { cause = Buffer; place = as_counted (length text) }) ≡ Err r = rw t at e in
    let z : record { cause = Buffer; place = as_counted (length text) } ≡ r = cc in
    inr (rw (← z)))
    (λ f. let x : Ok (length text) ≡ Err r = rw f at e in impossible (cc))

module _ (q : Posed) (l : Lending) (o : Outcome) (gave : run_told q l ≡ gives o) where
  granted : Granted q l o
  granted = (granted_exactly q l o).0 gave

  within : Within (loan_of l) o
  unfolding ran
  within = rw granted.outcome (scan-within _ (loan_of l))

  pub list-fits : used o ≤ length l.answers
  list-fits = within.words

  pub steps_suffice : o.visited ≤ l.steps
  steps_suffice = within.visited

  pub buffer_after : answers_after q l ≡ listed o.answers ++ drop (used o) l.answers
  unfolding words_told
  buffer_after = rw gave (put-eq l.answers 0 (listed o.answers) (omega (arith, list-fits)) ∙ rw zero-add)

  table : Table edition_one q.arities
  unfolding question_of
  table = record { functors = granted.good.good.functors; arities_within = granted.good.good.arities }

  bindings : Bindings q.arities o.answers
  unfolding question_of
  bindings = bindings_of (answers_stated q l o gave)

  pub list-read-back : map (answer_words edition_one) (answers_of edition_one q.arities (length o.answers) (listed o.answers)) ≡ o.answers
  list-read-back = rw (answers_back edition_one_proper table (list-answered bindings)) bindings.words

  pub list_fine : check_list edition_one (end_of (end_number o.end)) o.visited q.arities (length o.answers) (listed o.answers) ≡ Ok tt
  unfolding check_list above
  list_fine =
      rw (end_by_number o.end, le-ltb most_steps o.visited (omega (arith, steps_suffice, granted.steps)))
      (answered-check_answers edition_one_proper table (list-answered bindings))

  pub list-taken : (buffer : List ℕ) (r : Refusal) → list_told q.arities (end_number o.end) o.visited (length o.answers) (listed o.answers) buffer ≡ Err r
      → (number r.cause ≡ 6) ⊎ (number r.cause ≡ 7)
  unfolding list_written tested
  list-taken buffer r e = past_the_check _ (length buffer) _ (rw list_fine at e)
