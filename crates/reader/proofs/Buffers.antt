-- The entry's answer and its buffers: a question that fits is laid out, and a refusal leaves both buffers alone.
use Prim.Native.Nat.{ℕ, ◌≤◌, ◌<◌}
use mathlib.Core.Path.{◌≡◌, sym, ◌∙◌}
use mathlib.Core.List.{List, ◌++◌}
use borrow.Author.Tests.{lt-ltb, le-ltb}
use lib.ListN.{length, drop}
use Rattle.terms.specs.Bounds.{Bounds, edition_one}
use Rattle.terms.specs.declared.refusal.Cause.TheVariants.{Buffer}
use Rattle.terms.specs.declared.refusal.Refusal.{Refusal}
use Rattle.numerals.specs.TextReading.{read, refused, then-read, then-refused}
use Rattle.question_reader.specs.Questions.{Asked, question, of_question, Counted}
use Rattle.reader.specs.LentBuffers.{fitted, question_into, answer, laid, arities_of, words_of, ReadGives}
use Rattle.results.specs.declared.read.Counts.{Counts}
use Rattle.std.proofs.Common.{Result, Ok, Err}

-- what the entry gives, of a text s and buffers that held ns and ws: its answer, and what they hold now
abbrev pub Gives : Bounds → List ℕ → List ℕ → List ℕ → Result Counts Refusal → List ℕ → List ℕ → Type 0
Gives b s ns ws r ns_after ws_after = ReadGives (question_into b (length ns) (length ws) s) r ns ns_after ws ws_after

module _ (b : Bounds) (s ns ws : List ℕ) where
  refuse : (f : Refusal) → question_into b (length ns) (length ws) s ≡ refused f → Gives b s ns ws (Err f) ns ws
  unfolding answer laid
  refuse f e = record { told_back = rw e; arities_laid = rw e; words_laid = rw e }

  pub gives_refusal : (f : Refusal) → question b s ≡ refused f → Gives b s ns ws (Err f) ns ws
  unfolding question_into
  gives_refusal f e = refuse f (then-refused _ e)

  module _ (p : ℕ) (q : Asked) (e : question b s ≡ read p q) where
    pub few_arities : length ns < length (arities_of q) → Gives b s ns ws (Err (record { cause = Buffer; place = length (arities_of q) })) ns ws
    unfolding question_into fitted
    few_arities h = refuse _ (then-read _ e ∙ rw (lt-ltb (length ns) (length (arities_of q)) h))

    module _ (h : length (arities_of q) ≤ length ns) where
      pub few_words : length ws < length (words_of q) → Gives b s ns ws (Err (record { cause = Buffer; place = length (words_of q) })) ns ws
      unfolding question_into fitted
      few_words k = refuse _ (then-read _ e ∙ rw (le-ltb (length ns) (length (arities_of q)) h, lt-ltb (length ws) (length (words_of q)) k))

      pub gives_question : length (words_of q) ≤ length ws
          → Gives b s ns ws (Ok (record { unknowns = q.head.unknowns; functors = length (arities_of q); equations = q.head.equations; words = length (words_of q) }))
          (arities_of q ++ drop (length (arities_of q)) ns) (words_of q ++ drop (length (words_of q)) ws)
      unfolding question_into fitted answer laid
      gives_question k =
          let z : question_into b (length ns) (length ws) s ≡ read p q = then-read _ e ∙ rw (le-ltb (length ns) (length (arities_of q)) h, le-ltb (length ws) (length (words_of q)) k) in
          record { told_back = rw z; arities_laid = rw z; words_laid = rw z }

-- ---- as the code has it: the text was read into a table and a row of words, which are laid out

module _ (s ns ws : List ℕ) where
  pub whole-refused : (f : Refusal) → refused f ≡ question edition_one s → Gives edition_one s ns ws (Err f) ns ws
  whole-refused f e = gives_refusal edition_one s ns ws f (sym e)

  module _ (table held : List ℕ) (c : Counts) (e : of_question (length s) (Ok c) table held ≡ question edition_one s) (C : Counted (Ok c) table held) where
    is_it : question edition_one s ≡ read (length s) (record { head = record { unknowns = c.unknowns; arities = table; equations = c.equations }; words = held })
    is_it = sym e

    pub table_too_long : length ns < c.functors → Gives edition_one s ns ws (Err (record { cause = Buffer; place = c.functors })) ns ws
    table_too_long h = rw (← C.0) at (few_arities edition_one s ns ws _ _ is_it (rw C.0 at h))

    pub held_too_long : c.functors ≤ length ns → length ws < c.words → Gives edition_one s ns ws (Err (record { cause = Buffer; place = c.words })) ns ws
    held_too_long f h = rw (← C.1) at (few_words edition_one s ns ws _ _ is_it (rw C.0 at f) (rw C.1 at h))

    pub all_laid : c.functors ≤ length ns → c.words ≤ length ws
        → Gives edition_one s ns ws (Ok c) (table ++ drop c.functors ns) (held ++ drop c.words ws)
    all_laid f h = rw (← C.0, ← C.1) at (gives_question edition_one s ns ws _ _ is_it (rw C.0 at f) (rw C.1 at h))
