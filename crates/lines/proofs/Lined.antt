-- Numbers with commas, lines with terms, and the turns of loops.
use Prim.Native.Nat.{ℕ, suc, ◌+◌, ◌-◌, ◌≤◌, ◌<◌}
use native.Mathlib.Numerals.{add-one}
use native.Mathlib.Omega.{arith}
use mathlib.Core.Path.{◌≡◌, refl, sym}
use borrow.Author.Tests.{lt-ltb, le-ltb}
use mathlib.Core.List.{List, [], ◌∷◌, ◌++◌}
use lib.ListN.{length, get_or, drop, drop_of_length-le}
use lib.Seq.{drop-cons}
use Rattle.terms.specs.Bounds.{Bounds}
use Rattle.text.specs.Text.{decimal, numbers, further_numbers, line}
use Rattle.lines.specs.Lines.{term_line, repeat}
use Rattle.lines.specs.ListLines.{number_then}
use Rattle.word_writer.specs.Pen.{most, Wrote}
use Rattle.word_writer.specs.WordByWord.{then, Walk, ended, term_at, Passed, was_ended}
use Rattle.word_writer.specs.declared.put.Passage.{Passage}
use Rattle.word_writer.specs.declared.put.TooDeep.{TooDeep}
use Rattle.std.specs.Prelude.{Result, Ok, Err}
use Rattle.word_writer.specs.Passages.{passed_as, passed_after, passed_then, passed_stop}
use Rattle.word_writer.specs.Writing.{wrote_nothing}

module _ (ns : List ℕ) where
  pub numbers_none : length ns ≡ 0 → [] ≡ numbers ns
  unfolding numbers
  numbers_none e = go ns e
    where
      go : (ns : List ℕ) → length ns ≡ 0 → [] ≡ numbers ns
      go [] e = refl
      go (n ∷ ns) e = absurd (omega arith)

  pub numbers-some : (n : ℕ) (ms : List ℕ) → ns ≡ n ∷ ms → decimal n ++ further_numbers ms ≡ numbers ns
  unfolding numbers
  numbers-some n ms e = rw e

  pub further-some : (i : ℕ) → i < length ns → further_numbers (drop i ns) ≡ (44 ∷ []) ++ (decimal (get_or ns i 0) ++ further_numbers (drop (i + 1) ns))
  unfolding further_numbers
  further-some i h = rw (drop-cons ns i 0 h, add-one)

  pub further_none : (i : ℕ) → length ns ≤ i → further_numbers (drop i ns) ≡ []
  unfolding further_numbers
  further_none i h = rw (drop_of_length-le ns h)

module _ (b : Bounds) (arities ws key : List ℕ) (p₀ : ℕ) {text₀ text₁ text₂ : List ℕ} {at at₁ : ℕ} {r : Result Passage TooDeep}
    (w : Wrote text₀ at key text₁ at₁) (term : Passed text₁ at₁ (term_at b arities ws p₀) r text₂) where
  pub lined : {p : Passage} {next : ℕ} {text : List ℕ} → r ≡ Ok p → Wrote text₂ p.at (10 ∷ []) text next → Passed text₀ at (term_line b arities ws key p₀) (Ok (record { word = p.word; at = next })) text
  unfolding term_line
  lined {p = p} {next = next} e v = passed_after w (passed_then term (λ q. ended q (10 ∷ [])) e (was_ended {passage = record { word = p.word; at = next }} v))

  pub lined_deep : {d : TooDeep} → r ≡ Err d → Passed text₀ at (term_line b arities ws key p₀) (Err d) text₂
  unfolding term_line
  lined_deep e = passed_after w (passed_stop term (λ q. ended q (10 ∷ [])) e)

-- a line with a word's number, and what comes after the word
module _ (ws key : List ℕ) (on : ℕ → ℕ → Walk) (p : ℕ) where
  pub numbered : p < length ws → (n m : ℕ) → n ≡ get_or ws p 0 → m ≡ get_or ws p 0 → {text₀ text₁ : List ℕ} {at at₁ : ℕ} → Wrote text₀ at (line key (decimal n)) text₁ at₁
      → {r : Result Passage TooDeep} {text : List ℕ} → Passed text₁ at₁ (on m (p + 1)) r text → Passed text₀ at (number_then ws key on p) r text
  unfolding number_then
  numbered h n m e f w q = passed_as (rw (lt-ltb p (length ws) h, e, f)) (passed_after w q)

  pub numbered_not : length ws ≤ p → {text : List ℕ} {at : ℕ} → length text ≤ most → at ≤ most → Passed text at (number_then ws key on p) (Ok (record { word = p; at = at })) text
  unfolding number_then
  numbered_not h {at = at} s r = passed_as (sym (rw (le-ltb p (length ws) h))) (was_ended {passage = record { word = p; at = at }} (wrote_nothing s r))

module _ (thing : ℕ → Walk) (count : ℕ) where
  pub repeat_all : (p : ℕ) → repeat thing count p ≡ repeat thing (count - 0) p
  repeat_all p = let z : count - 0 ≡ count = omega arith in rw z

  -- so many are done, and one more is due; or none is
  pub repeat-some : (done p : ℕ) → done < count → repeat thing (count - done) p ≡ then (thing p) (repeat thing (count - (done + 1)))
  unfolding repeat
  repeat-some done p h = let z : count - done ≡ suc (count - (done + 1)) = omega arith in rw z

  pub repeat_none : (done p : ℕ) → count ≤ done → repeat thing (count - done) p ≡ ended p []
  unfolding repeat
  repeat_none done p h = let z : count - done ≡ 0 = omega arith in rw z
