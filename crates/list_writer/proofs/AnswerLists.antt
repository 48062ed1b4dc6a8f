-- The entry that writes answer lists: each of its answers, and what the buffer holds then.
use Rattle.std.specs.Prelude.{Err, None, Ok, Result, Some}
use Prim.Native.Nat.{ℕ, ◌<◌, ◌≤◌}
use native.Mathlib.Omega.{arith}
use mathlib.Core.Path.{◌≡◌, refl, sym, ap, ◌∙◌}
use mathlib.Core.Bool.{Bool, true, false}
use mathlib.Core.List.{List}
use lib.Dec.{ltb}
use lib.ListN.{length}
use borrow.Author.Tests.{lt-ltb, le-ltb}
use Rattle.search.specs.Ends.{end_of, end_word}
use Rattle.search.specs.RunLimits.{most_steps}
use Rattle.search.specs.declared.ends.End.{End}
use Rattle.terms.specs.Answers.{Binding}
use Rattle.terms.specs.Bounds.{edition_one, edition_one_proper}
use Rattle.checks.specs.Check.{refused, above, check_answers, Checked}
use Rattle.checks.specs.Checked.{never_fine}
use Rattle.terms.specs.Kind.{Worded}
use Rattle.checks.specs.Lent.{table_worded, check_answers-answered}
use Rattle.terms.specs.Listing.{answers_of}
use Rattle.terms.specs.declared.refusal.Cause.TheVariants.{Limit}
use Rattle.terms.specs.declared.refusal.Refusal.{Refusal}
use Rattle.text.specs.AnswerText.{list_text}
use Rattle.word_writer.specs.Depths.{First}
use Rattle.lines.specs.ListLines.{list_lines}
use Rattle.word_writer.specs.Pen.{most}
use Rattle.word_writer.specs.WordByWord.{Walk, ended}
use Rattle.writer.specs.Written.{nested, tested, held, measured, too_deep_in_list, check_list, text_of_list, list_written, Held, untouched, written}
use Rattle.writer.proofs.WrittenAnswer.{measured-nested, written_held}
use Rattle.list_writer.proofs.Listings.{list_over}
use Rattle.writer.proofs.QuestionWalk.{settled}

-- ---- the check of a list's numbers and words

module _ (visited : ℕ) (k : Checked) where
  pub visited_above : most_steps < visited → refused Limit 0 ≡ above (ltb most_steps visited) 0 k
  unfolding above
  visited_above h = rw (lt-ltb most_steps visited h)

  pub visited_within : visited ≤ most_steps → {r : Checked} → r ≡ k → r ≡ above (ltb most_steps visited) 0 k
  unfolding above
  visited_within h e = rw (le-ltb most_steps visited h) e

above_fine : (c : Bool) {k : Checked} → above c 0 k ≡ Ok tt → k ≡ Ok tt
unfolding above
above_fine true e = never_fine e
above_fine false e = e

-- what the buffer holds by the answer
held_by : (first : First) (n : ℕ) (text : List ℕ) {r : Result ℕ Refusal} {x : Walk} {before after : List ℕ} → Held r x before after → x ≡ settled first (ended n text) → r ≡ nested first (length before) text
    → after ≡ held r text before
unfolding held
held_by first n text untouched e f = refl
held_by first n text (written {length = m} p) e f = written_held first n text m (sym f) (rw e at p)

module _ (arities : List ℕ) (end visited answers : ℕ) (ws before : List ℕ) where
  abbrev list : List (List Binding)
  list = answers_of edition_one arities answers ws

  -- what `write_answers` owes
  abbrev Owes : Result ℕ Refusal → List ℕ → Type 0
  Owes r after = (r ≡ list_written edition_one arities end visited answers ws (length before)) × (after ≡ held r (text_of_list (end_of end) visited list) before)

  pub list_nowhere : end_of end ≡ None → Owes (Err (record { cause = Limit; place = 0 })) before
  unfolding list_written tested held check_list
  list_nowhere e = (rw e, refl)

  module _ (ending : End) (is : end_of end ≡ Some ending) where
    pub list-refused : (refusal : Refusal) → above (ltb most_steps visited) 0 (check_answers edition_one arities answers ws) ≡ Err refusal → Owes (Err refusal) before
    unfolding list_written tested held check_list
    list-refused refusal e = (rw (is, e), refl)

    module _ (short : length before < most) (fine : above (ltb most_steps visited) 0 (check_answers edition_one arities answers ws) ≡ Ok tt) where
      -- the lines of checked words are the text of the list
      lines_are : list_lines edition_one (end_word ending) arities visited answers ws ≡ settled (too_deep_in_list edition_one list) (ended (length ws) (list_text (end_word ending) visited list))
      lines_are =
          let a = check_answers-answered edition_one_proper arities answers ws (above_fine (ltb most_steps visited) fine) in
          let worded : Worded edition_one arities edition_one.path_unknowns = table_worded edition_one_proper a.0 (omega arith) in
          let over = list_over worded (end_word ending) visited list a.1.formed in
          rw (a.1.count, a.1.worded) at over

      pub list-checked : {r : Result ℕ Refusal} {after : List ℕ} → r ≡ measured (list_lines edition_one (end_word ending) arities visited answers ws) (length before)
          → Held r (list_lines edition_one (end_word ending) arities visited answers ws) before after → Owes r after
      unfolding list_written tested check_list text_of_list
      list-checked {r} {after} e h =
          let first = too_deep_in_list edition_one list in
          let text = list_text (end_word ending) visited list in
          let right : r ≡ nested first (length before) text = e ∙ ap (λ x. measured x (length before)) lines_are ∙ measured-nested first (length ws) text (length before) short in
          (rw (is, fine) right, rw is (held_by first (length ws) text h lines_are right))
