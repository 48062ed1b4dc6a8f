-- What a call of C gives that lends buffers to be read from or written to: the reply to the entry's answer, and the buffers as the entry leaves them.
use Rattle.std.specs.Prelude.{ℕ, ◌≡◌, refl, List, [], ◌∷◌, length, Result}
use Rattle.terms.specs.declared.refusal.Refusal.{Refusal}
use Rattle.numerals.specs.TextReading.{Reading, read}
use Rattle.question_reader.specs.Questions.{Asked}
use Rattle.results.specs.declared.read.Counts.{Counts}
use Rattle.terms.specs.declared.refusal.Refusal.{Refusal}
use Rattle.reader.specs.LentBuffers.{ReadGives, answer}
use Rattle.writer.specs.Written.{held}
use Rattle.c_replies.specs.Replies.{Replied, granted, of_question, of_written}

-- ---- by what the entry reads or writes; of each number, of the place and of each buffer what it is before and after

pub record ReadReplied (x : Reading Asked) (back : ℕ) (numbers numbers_after : List ℕ) (place place_after : ℕ) (arities arities_after words words_after : List ℕ) : Type 0 where
  pub reply : Replied (of_question (answer x)) back numbers numbers_after place place_after
  pub gives : ReadGives x (answer x) arities arities_after words words_after

pub record WriteReplied (w : Result ℕ Refusal) (text : List ℕ) (back : ℕ) (numbers numbers_after : List ℕ) (place place_after : ℕ) (buffer buffer_after : List ℕ) : Type 0 where
  pub reply : Replied (of_written w) back numbers numbers_after place place_after
  pub holds : buffer_after ≡ held w text buffer

-- ---- so a call gives it that hands on the entry's answer

module _ {back : ℕ} {numbers numbers_after : List ℕ} {place place_after : ℕ} where
  pub read_replied : {x : Reading Asked} {question : Result Counts Refusal} {arities arities_after words words_after : List ℕ} → ReadGives x question arities arities_after words words_after
      → Replied (of_question question) back numbers numbers_after place place_after → ReadReplied x back numbers numbers_after place place_after arities arities_after words words_after
  read_replied g h = record { reply = rw g.told_back at h; gives = rw g.told_back at g }

  pub write_replied : {w written : Result ℕ Refusal} {text buffer buffer_after : List ℕ} → written ≡ w → buffer_after ≡ held written text buffer
      → Replied (of_written written) back numbers numbers_after place place_after → WriteReplied w text back numbers numbers_after place place_after buffer buffer_after
  write_replied e g h = record { reply = rw e at h; holds = rw e at g }

-- ---- a granted reading tells each number in its place

pub read_granted : (p : ℕ) (q : Asked) → of_question (answer (read p q)) ≡ granted (q.head.unknowns ∷ length q.head.arities ∷ q.head.equations ∷ length q.words ∷ [])
unfolding answer
read_granted p q = refl
