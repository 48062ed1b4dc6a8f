-- From what writing comes to, to what is answered and held: 6, then 7, then the text from the buffer's start.
use Rattle.std.specs.Prelude.{Err, Ok, Result}
use Prim.Native.Nat.{ℕ, ◌≤◌, ◌<◌, min}
use native.Mathlib.Nat.{zero-add}
use native.Mathlib.Omega.{arith}
use mathlib.Core.Path.{◌≡◌, refl, sym, ap, ◌∙◌}
use mathlib.Core.List.{List, ◌++◌}
use lib.Dec.{ltb}
use lib.ListN.{length, drop}
use lib.Seq.{sets-eq}
use borrow.Author.Tests.{lt-ltb, le-ltb, ltb-true, ltb-false}
use Rattle.terms.specs.Bounds.{edition_one, edition_one_proper}
use Rattle.checks.specs.Check.{check_question}
use Rattle.terms.specs.Kind.{Worded}
use Rattle.checks.specs.Lent.{check_question-asked}
use Rattle.terms.specs.Lists.{cases}
use Rattle.terms.specs.Formed.{Question}
use Rattle.terms.specs.Reading.{question_of}
use Rattle.terms.specs.declared.refusal.Cause.TheVariants.{Nesting, Buffer}
use Rattle.terms.specs.declared.refusal.Refusal.{Refusal}
use Rattle.text.specs.Text.{question_text}
use Rattle.word_writer.specs.Depths.{First, all_within, first_at}
use Rattle.lines.specs.Lines.{question_lines}
use Rattle.word_writer.specs.Pen.{most, counted}
use Rattle.word_writer.specs.WordByWord.{Walk, ended, Passed, was_ended, was_too_deep}
use Rattle.writer.specs.Written.{fitted, nested, tested, held, too_deep_in, question_written, answered, measured}
use Rattle.word_writer.specs.declared.put.Passage.{Passage}
use Rattle.word_writer.specs.declared.put.TooDeep.{TooDeep}
use Rattle.writer.proofs.QuestionWalk.{settled, question-over}

-- measuring tells what is to be answered
pub passed_measured : {text last : List ℕ} {x : Walk} {r : Result Passage TooDeep} (room : ℕ) → Passed text 0 x r last → answered r room ≡ measured x room
unfolding measured
passed_measured room (was_ended {passage = p} {bytes = bytes} w) =
    ap (λ n. answered (Ok (record { word = p.word; at = n })) room) (w.reached ∙ ap counted (zero-add (length bytes)))
passed_measured room was_too_deep = refl

-- a text that fits stands whole at the buffer's start
passed_whole : {before after text : List ℕ} {n : ℕ} {r : Result Passage TooDeep} → length text ≤ length before → Passed before 0 (ended n text) r after → after ≡ text ++ drop (length text) before
passed_whole {before} {text = text} h (was_ended w) = w.stored ∙ sets-eq text before 0 (omega arith) ∙ ap (λ k. text ++ drop k before) (zero-add (length text))

module _ (first : First) (n : ℕ) (text : List ℕ) where
  -- 6, then 7
  pub measured-nested : (room : ℕ) → room < most → measured (settled first (ended n text)) room ≡ nested first room text
  unfolding measured settled nested fitted answered counted
  measured-nested room h = go first
    where
      go : (first : First) → measured (settled first (ended n text)) room ≡ nested first room text
      go (first_at p) = refl
      go all_within =
          cases (ltb room (length text))
          (λ t. let l = ltb-true room (length text) t in rw (t, lt-ltb room (min (length text) most) (omega arith)))
          (λ t.
          let l = ltb-false room (length text) t in
          let same : min (length text) most ≡ length text = omega arith in
          rw (same, t))

  -- a text that is answered to be written was written whole
  pub written_held : {before after : List ℕ} {r : Result Passage TooDeep} (m : ℕ) → nested first (length before) text ≡ Ok m → Passed before 0 (settled first (ended n text)) r after
      → after ≡ held (Ok m) text before
  unfolding settled nested fitted held
  written_held {before} {after} {r} m e passed = go first e passed
    where
      go : (first : First) → nested first (length before) text ≡ Ok m → Passed before 0 (settled first (ended n text)) r after → after ≡ held (Ok m) text before
      go (first_at p) e q = let z : ◌≡◌ {A = ℕ} 0 1 = cc in absurd (omega arith)
      go all_within e q =
          cases (ltb (length before) (length text))
          (λ t. let f : Err (record { cause = Buffer; place = counted (length text) }) ≡ Ok m = rw t at e in let z : ◌≡◌ {A = ℕ} 0 1 = cc in absurd (omega arith))
          (λ t. passed_whole (ltb-false (length before) (length text) t) q)

-- ---- the arms of `answer`

module _ (passage : Result Passage TooDeep) (room : ℕ) where
  pub answered_short : {p : Passage} → passage ≡ Ok p → room < p.at → Err (record { cause = Buffer; place = p.at }) ≡ answered passage room
  unfolding answered
  answered_short {p} e h = rw (e, lt-ltb room p.at h)

  pub answered_long : {p : Passage} → passage ≡ Ok p → p.at ≤ room → Ok p.at ≡ answered passage room
  unfolding answered
  answered_long {p} e h = rw (e, le-ltb room p.at h)

  pub answered-deep : {d : TooDeep} → passage ≡ Err d → Err (record { cause = Nesting; place = d.word }) ≡ answered passage room
  unfolding answered
  answered-deep e = rw e

-- ---- questions

module _ (unknowns : ℕ) (arities : List ℕ) (equations : ℕ) (ws : List ℕ) where
  abbrev question : Question
  question = question_of edition_one unknowns arities ws

  -- the lines of checked words are the text of the question
  question_lines_are : check_question edition_one unknowns arities equations ws ≡ Ok tt
      → question_lines edition_one unknowns arities equations ws ≡ settled (too_deep_in edition_one question) (ended (length ws) (question_text question))
  unfolding question_of
  question_lines_are fine =
      let asked = check_question-asked edition_one_proper unknowns arities equations ws fine in
      let worded : Worded edition_one arities unknowns = record {
        proper = edition_one_proper;
        functors = omega (arith, asked.good.functors, edition_one_proper.room_for_functors);
        unknowns = omega (arith, asked.good.unknowns, edition_one_proper.room_on_a_path, edition_one_proper.room_for_unknowns);
      } in
      let over = question-over question worded asked.good.formed in
      rw (asked.count, asked.worded) at over

  module _ (before : List ℕ) (short : length before < most) where
    pub refused_unchecked : (refusal : Refusal) → check_question edition_one unknowns arities equations ws ≡ Err refusal
        → (Err refusal ≡ question_written edition_one unknowns arities equations ws (length before)) × (before ≡ held (Err refusal) (question_text question) before)
    unfolding question_written tested held
    refused_unchecked refusal e = (rw e, refl)

    module _ (fine : check_question edition_one unknowns arities equations ws ≡ Ok tt) {r : Result ℕ Refusal} (is : r ≡ measured (question_lines edition_one unknowns arities equations ws) (length before)) where
      right : r ≡ nested (too_deep_in edition_one question) (length before) (question_text question)
      right = is ∙ ap (λ x. measured x (length before)) (question_lines_are fine) ∙ measured-nested (too_deep_in edition_one question) (length ws) (question_text question) (length before) short

      answer-right : r ≡ question_written edition_one unknowns arities equations ws (length before)
      unfolding question_written tested
      answer-right = right ∙ rw fine

      pub refused-measured : (refusal : Refusal) → r ≡ Err refusal
          → (Err refusal ≡ question_written edition_one unknowns arities equations ws (length before)) × (before ≡ held (Err refusal) (question_text question) before)
      unfolding held
      refused-measured refusal e = (sym e ∙ answer-right, refl)

      pub written-measured : (m : ℕ) → r ≡ Ok m → {s : Result Passage TooDeep} {after : List ℕ} → Passed before 0 (question_lines edition_one unknowns arities equations ws) s after
          → (Ok m ≡ question_written edition_one unknowns arities equations ws (length before)) × (after ≡ held (Ok m) (question_text question) before)
      written-measured m e {s} {after} p = (
        sym e ∙ answer-right,
        written_held (too_deep_in edition_one question) (length ws) (question_text question) m (sym right ∙ e) (rw (question_lines_are fine) at p),
      )
