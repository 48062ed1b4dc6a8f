-- What one stage hands to the next: a question that was read stands in the words that are run, and the words that a run used are its list.
use Prim.Native.Nat.{ℕ, ◌≤◌}
use mathlib.Core.Path.{◌≡◌, refl, ◌∙◌}
use mathlib.Core.List.{List, ◌++◌}
use Rattle.std.proofs.Common.{Result, Ok, Err}
use native.Mathlib.Omega.{arith}
use lib.ListN.{length, take, drop, length-append}
use lib.Seq.{take-append_seam}
use Rattle.terms.specs.Answers.{listed}
use Rattle.terms.specs.declared.refusal.Refusal.{Refusal}
use Rattle.numerals.specs.TextReading.{Reading, read}
use Rattle.numerals.specs.TextReading as reading
use Rattle.question_reader.specs.Questions.{Asked}
use Rattle.results.specs.declared.read.Counts.{Counts}
use Rattle.std.proofs.Common.{Result, Ok, Err}
use Rattle.reader.specs.LentBuffers.{ReadGives, answer, laid}
use Rattle.results.specs.Loans.{ending}
use Rattle.results.specs.declared.ran.Ending.{Ending}
use Rattle.results.specs.Result.{RunGives, Told, refuses, gives, told, result}
use Rattle.guarantees.proofs.Promised.{buffer_after}
use Rattle.printing.specs.Solved.{STEPS, DEPTH, SIZE, refused, of_list, of_run, of_words, of_reading}

within : (xs ys : List ℕ) → length xs ≤ length (xs ++ ys)
within xs ys = omega (arith, length-append xs ys)

-- ---- from reading to running

-- a question was read: its arities and its words are within their buffers, and what is found for the text is found for them
pub record Taken (x : Reading Asked) (c : Counts) (ns ws : List ℕ) : Type 0 where
  pub functors : c.functors ≤ length ns
  pub count : c.words ≤ length ws
  pub runs : of_reading x ≡ of_words c.unknowns (take c.functors ns) c.equations (take c.words ws)

module _ {ns ns_after ws ws_after : List ℕ} where
  pub question-taken : {x : Reading Asked} {back : Result Counts Refusal} {c : Counts} → ReadGives x back ns ns_after ws ws_after → back ≡ Ok c → Taken x c ns_after ws_after
  unfolding answer laid of_reading
  question-taken {x} {back} {c} g is = go x g
    where
      go : (x : Reading Asked) → ReadGives x back ns ns_after ws ws_after → Taken x c ns_after ws_after
      go (reading.refused r) g = let e = g.told_back in let z : ◌≡◌ {A = ℕ} 0 1 = cc in absurd (omega arith)
      go (read p q) g =
          let e = g.told_back in
          let arities = q.head.arities in
          let words = q.words in
          let same : c ≡ record { unknowns = q.head.unknowns; functors = length arities; equations = q.head.equations; words = length words } = cc in
          rw (same, g.arities_laid, g.words_laid) (record {
            functors = within arities (drop (length arities) ns);
            count = within words (drop (length words) ws);
            runs = rw (take-append_seam arities (drop (length arities) ns), take-append_seam words (drop (length words) ws)) refl;
          })

  pub text_refused : {x : Reading Asked} {back : Result Counts Refusal} {r : Refusal} → ReadGives x back ns ns_after ws ws_after → back ≡ Err r → of_reading x ≡ refused r
  unfolding answer of_reading
  text_refused {x} {back} {r} g is = go x g.told_back
    where
      go : (x : Reading Asked) → back ≡ answer x → of_reading x ≡ refused r
      go (reading.refused s) e = cc
      go (read p q) e = let z : ◌≡◌ {A = ℕ} 0 1 = cc in absurd (omega arith)

-- ---- from running to writing

module _ (u : ℕ) (arities : List ℕ) (n : ℕ) (ws : List ℕ) {a answers l room : List ℕ} {back : Result Ending Refusal}
    (g : RunGives (told u arities n ws STEPS DEPTH SIZE (length a) (length l)) back a answers l room) where
  abbrev told_here : Told
  told_here = told u arities n ws STEPS DEPTH SIZE (length a) (length l)

  -- a run ended: the words that it used are within their buffer, and are its list
  pub run_ended : {e : Ending} → back ≡ Ok e → (e.counts.words ≤ length answers) × (of_run arities told_here ≡ of_list arities e (take e.counts.words answers))
  unfolding result ending of_run
  run_ended {e} is = go told_here refl g.told_back
    where
      go : (t : Told) → told_here ≡ t → back ≡ result t → (e.counts.words ≤ length answers) × (of_run arities t ≡ of_list arities e (take e.counts.words answers))
      go (refuses r) s b = let z : ◌≡◌ {A = ℕ} 0 1 = cc in absurd (omega arith)
      go (gives o) s b =
          let list = listed o.answers in
          let same : e ≡ ending o = cc in
          let held : answers ≡ list ++ drop (length list) a =
          g.begins
          ∙ buffer_after (record { unknowns = u; arities = arities; equations = n; words = ws }) (record { steps = STEPS; depth = DEPTH; size = SIZE; answers = a; room = l }) o s in
          rw (same, held) (within list (drop (length list) a), rw (take-append_seam list (drop (length list) a)) refl)

  pub run_refused : {r : Refusal} → back ≡ Err r → of_run arities told_here ≡ refused r
  unfolding result of_run
  run_refused {r} is = go told_here g.told_back
    where
      go : (t : Told) → back ≡ result t → of_run arities t ≡ refused r
      go (refuses s) b = cc
      go (gives o) b = let z : ◌≡◌ {A = ℕ} 0 1 = cc in absurd (omega arith)
