-- Refused calls: each leaves the buffers lent to it as they were.
use Rattle.std.specs.Prelude.{ℕ, ◌≡◌, refl, List, Err}
use Rattle.std.proofs.Common.{ap, ◌∙◌, Err}
use Rattle.room.specs.Room.{put-nil}
use Rattle.terms.specs.declared.refusal.Refusal.{Refusal}
use Rattle.numerals.specs.TextReading.{Reading, read, refused}
use Rattle.reader.specs.LentBuffers.{answer, laid}
use Rattle.question_reader.specs.Questions as reader
use Rattle.writer.specs.Written.{held}
use Rattle.results.specs.Result.{Told, refuses, gives, result, words_told}
use Rattle.guarantees.specs.Calls.{Posed, Lending, run_told, answers_after, question_told, question_after, list_told, list_after, text_told, arities_after, words_after}
use Rattle.guarantees.proofs.Subjects.{impossible}

pub text_refused : (text arities words : List ℕ) (r : Refusal) → answer (text_told text arities words) ≡ Err r
    → (arities_after text arities words ≡ arities) × (words_after text arities words ≡ words)
unfolding answer laid
text_refused text arities words r e = go (text_told text arities words) refl e
  where
    go : (x : Reading reader.Asked) → text_told text arities words ≡ x → answer x ≡ Err r → (arities_after text arities words ≡ arities) × (words_after text arities words ≡ words)
    go (read p a) s e = impossible (cc)
    go (refused s) t e = (rw t, rw t)

pub question-refused : (q : Posed) (buffer : List ℕ) (r : Refusal) → question_told q buffer ≡ Err r → question_after q buffer ≡ buffer
unfolding held
question-refused q buffer r e = rw e

pub list-refused : (arities : List ℕ) (end visited answers : ℕ) (words buffer : List ℕ) (r : Refusal) → list_told arities end visited answers words buffer ≡ Err r
    → list_after arities end visited answers words buffer ≡ buffer
unfolding held
list-refused arities end visited answers words buffer r e = rw e

pub run_refused : (q : Posed) (l : Lending) (r : Refusal) → result (run_told q l) ≡ Err r → (run_told q l ≡ refuses r) × (answers_after q l ≡ l.answers)
unfolding result words_told
run_refused q l r e = go (run_told q l) refl e
  where
    go : (t : Told) → run_told q l ≡ t → result t ≡ Err r → (run_told q l ≡ refuses r) × (answers_after q l ≡ l.answers)
    go (gives o) s e = impossible (cc)
    go (refuses s) t e = let same : s ≡ r = cc in (t ∙ ap refuses same, rw t (put-nil l.answers 0))
