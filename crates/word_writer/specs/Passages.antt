-- Laws of passages: bytes before and after, one passage after another, and what a loop over passages still owes.
use Rattle.std.specs.Prelude.{ℕ, ◌≤◌, ◌≡◌, refl, List, [], length, Result, Ok, Err}
use Rattle.std.proofs.Common.{arith, sym, ap, ◌∙◌}
use Rattle.word_writer.specs.Pen.{most, Wrote}
use Rattle.word_writer.specs.WordByWord.{Walk, ended, too_deep, prepend, then, Passed, was_ended, was_too_deep}
use Rattle.word_writer.specs.declared.put.Passage.{Passage}
use Rattle.word_writer.specs.declared.put.TooDeep.{TooDeep}
use Rattle.word_writer.specs.Writing.{wrote_nothing, wrote_then, length_wrote, next-most}

pub passed_as : {text₀ text : List ℕ} {at : ℕ} {x y : Walk} {r : Result Passage TooDeep} → x ≡ y → Passed text₀ at x r text → Passed text₀ at y r text
passed_as e p = rw e at p

-- a passage after bytes
pub passed_after : {text₀ us text₁ : List ℕ} {at at₁ : ℕ} → Wrote text₀ at us text₁ at₁
    → {x : Walk} {r : Result Passage TooDeep} {text : List ℕ} → Passed text₁ at₁ x r text → Passed text₀ at (prepend us x) r text
unfolding prepend
passed_after w (was_ended v) = was_ended (wrote_then w v)
passed_after w was_too_deep = was_too_deep

-- what a passage tells by its answer
pub record Ended (text₀ : List ℕ) (at : ℕ) (x : Walk) (p : Passage) (text : List ℕ) : Type 0 where
  pub bytes : List ℕ
  pub is : x ≡ ended p.word bytes
  pub wrote : Wrote text₀ at bytes text p.at

pub passed_to : {text₀ text : List ℕ} {at : ℕ} {x : Walk} {r : Result Passage TooDeep} {p : Passage} → Passed text₀ at x r text → r ≡ Ok p → Ended text₀ at x p text
passed_to {p = p} (was_ended {passage = q} {bytes = bytes} w) e =
    let same : q ≡ p = cc in
    record { bytes = bytes; is = ap (λ q. ended q.word bytes) same; wrote = rw same at w }
passed_to was_too_deep e = let z : ◌≡◌ {A = ℕ} 0 1 = cc in absurd (omega arith)

pub passed_deep : {text₀ text : List ℕ} {at : ℕ} {x : Walk} {r : Result Passage TooDeep} {d : TooDeep} → Passed text₀ at x r text → r ≡ Err d → x ≡ too_deep d.word
passed_deep (was_ended w) e = let z : ◌≡◌ {A = ℕ} 0 1 = cc in absurd (omega arith)
passed_deep {d = d} (was_too_deep {too = q}) e = let same : q ≡ d = cc in ap (λ q. too_deep q.word) same

module _ {text₀ text₁ : List ℕ} {at : ℕ} {x : Walk} {r : Result Passage TooDeep} (first : Passed text₀ at x r text₁) (on : ℕ → Walk) where
  -- one passage after another
  pub passed_then : {p : Passage} → r ≡ Ok p → {s : Result Passage TooDeep} {text : List ℕ} → Passed text₁ p.at (on p.word) s text → Passed text₀ at (then x on) s text
  unfolding then
  passed_then e q = let f = passed_to first e in passed_as (sym (ap (λ y. then y on) f.is)) (passed_after f.wrote q)

  pub passed_stop : {d : TooDeep} → r ≡ Err d → Passed text₀ at (then x on) (Err d) text₁
  unfolding then
  passed_stop e = passed_as (sym (ap (λ y. then y on) (passed_deep first e))) was_too_deep

-- ---- a loop: what passes over the walk that is left passes over the whole

pub record Rest (whole : Walk) (text₀ : List ℕ) (at : ℕ) (left : Walk) (text : List ℕ) (next : ℕ) : Type 0 where
  pub kept : length text ≡ length text₀
  pub short : length text ≤ most
  pub reach : next ≤ most
  pub passes : (r : Result Passage TooDeep) (last : List ℕ) → Passed text next left r last → Passed text₀ at whole r last

pub rest_all : (whole : Walk) (text : List ℕ) (at : ℕ) → length text ≤ most → at ≤ most → Rest whole text at whole text at
rest_all whole text at h k = record { kept = refl; short = h; reach = k; passes = λ r last p. p }

pub rest_as : {whole left same : Walk} {text₀ text : List ℕ} {at next : ℕ} → left ≡ same → Rest whole text₀ at left text next → Rest whole text₀ at same text next
rest_as e s = rw e at s

-- nothing is left
pub rest_none : {whole : Walk} {text₀ text : List ℕ} {at : ℕ} {p : Passage} → Rest whole text₀ at (ended p.word []) text p.at → Passed text₀ at whole (Ok p) text
rest_none {text = text} {p = p} s = s.passes (Ok p) text (was_ended (wrote_nothing s.short s.reach))

pub rest_wrote : {whole left : Walk} {text₀ text us text' : List ℕ} {at next next' : ℕ} → Rest whole text₀ at (prepend us left) text next → Wrote text next us text' next'
    → Rest whole text₀ at left text' next'
rest_wrote s w = record {
  kept = length_wrote w ∙ s.kept;
  short = omega (arith, length_wrote w, s.short);
  reach = next-most w;
  passes = λ r last p. s.passes r last (passed_after w p);
}

module _ {whole x : Walk} {text₀ text text' : List ℕ} {at next : ℕ} {r : Result Passage TooDeep} (on : ℕ → Walk) (s : Rest whole text₀ at (then x on) text next) (turn : Passed text next x r text') where
  pub rest_then : {p : Passage} → r ≡ Ok p → Rest whole text₀ at (on p.word) text' p.at
  unfolding then
  rest_then e = let f = passed_to turn e in rest_wrote (rest_as (ap (λ y. then y on) f.is) s) f.wrote

  pub rest-stop : {d : TooDeep} → r ≡ Err d → Passed text₀ at whole (Err d) text'
  unfolding then
  rest-stop {d} e = s.passes (Err d) text' (passed_stop turn on e)
