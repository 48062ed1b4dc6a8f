-- The walk over the words of a term, turn by turn: what passes over the words that are left passes over the term.
use Prim.Native.Nat.{ℕ, ◌+◌, ◌≤◌, ◌<◌}
use native.Mathlib.Numerals.{add-one}
use native.Mathlib.Omega.{arith}
use mathlib.Core.Path.{◌≡◌, refl, sym, ap, ◌∙◌}
use mathlib.Core.Bool.{true, false}
use mathlib.Core.List.{List, [], ◌∷◌}
use lib.ListN.{length, get_or, drop, drop_of_length-le}
use lib.Seq.{drop-cons}
use Rattle.terms.specs.Bounds.{edition_one, NESTING}
use Rattle.word_writer.specs.Pen.{most, Wrote}
use Rattle.std.specs.Option.{is_some}
use Rattle.std.specs.Prelude.{Option, Some, None, Result, Ok, Err}
use Rattle.word_writer.specs.declared.bracket.Bracket.{Bracket}
use Rattle.word_writer.specs.OpenBrackets.{innermost}
use Rattle.word_writer.specs.WordByWord as walk
use Rattle.word_writer.specs.WordByWord.{Writes, writes, deep, symbol, word, ended, prepend, onward, term_at, Stepped, went_on, was_deep, Passed, was_ended, was_too_deep}
use Rattle.word_writer.specs.declared.begin.Symbol.{Symbol}
use Rattle.word_writer.specs.declared.put.Passage.{Passage}
use Rattle.word_writer.specs.declared.put.TooDeep.{TooDeep}
use Rattle.word_writer.specs.Passages.{passed_as, passed_after}
use Rattle.word_writer.specs.Writing.{wrote_nothing, length_wrote, next-most}

-- ---- what a step tells

pub record Went (text₀ : List ℕ) (at : ℕ) (x : Writes) (next : ℕ) (bs : List Bracket) (text : List ℕ) : Type 0 where
  pub bytes : List ℕ
  pub is : x ≡ writes bytes bs
  pub wrote : Wrote text₀ at bytes text next

pub went : {text₀ text : List ℕ} {bs : List Bracket} {at : ℕ} {x : Writes} {r : Option ℕ} {next : ℕ} → Stepped text₀ at x r bs text → r ≡ Some next → Went text₀ at x next bs text
went {next = next} (went_on {bytes = bytes} {next = n} w) e =
    let same : n ≡ next = cc in
    record { bytes = bytes; is = refl; wrote = rw same at w }
went was_deep e = let z : ◌≡◌ {A = ℕ} 0 1 = cc in absurd (omega arith)

pub deep_is : {text₀ text : List ℕ} {bs : List Bracket} {at : ℕ} {x : Writes} {r : Option ℕ} → Stepped text₀ at x r bs text → r ≡ None → x ≡ deep
deep_is (went_on w) e = let z : ◌≡◌ {A = ℕ} 0 1 = cc in absurd (omega arith)
deep_is was_deep e = refl

-- ---- the turns of the walk

-- what passes over the words that are left passes over the term
pub record Left (arities words : List ℕ) (from : ℕ) (text₀ : List ℕ) (at : ℕ) (text : List ℕ) (bs : List Bracket) (next p : ℕ) : Type 0 where
  pub kept : length text ≡ length text₀
  pub short : length text ≤ most
  pub reach : next ≤ most
  pub passes : (r : Result Passage TooDeep) (last : List ℕ) → Passed text next (walk.walk edition_one arities p (drop p words) bs) r last
      → Passed text₀ at (term_at edition_one arities words from) r last

pub all_left : (arities words : List ℕ) (from : ℕ) (text : List ℕ) (at : ℕ) → length text ≤ most → at ≤ most → Left arities words from text at text [] at from
unfolding term_at
all_left arities words from text at s r = record { kept = refl; short = s; reach = r; passes = λ r last p. p }

module _ {arities words text₀ text : List ℕ} {bs : List Bracket} {from at before p : ℕ} (left : Left arities words from text₀ at text bs before p) where
  -- the words stop
  pub left_none : length words ≤ p → {q : ℕ} → q ≡ p → Passed text₀ at (term_at edition_one arities words from) (Ok (record { word = q; at = before })) text
  unfolding walk.walk
  left_none h e =
      rw e
      (left.passes (Ok (record { word = p; at = before })) text
      (passed_as (rw (drop_of_length-le words h)) (was_ended {passage = record { word = p; at = before }} (wrote_nothing left.short left.reach))))

  module _ (more : p < length words) (s : Symbol) (e : s ≡ symbol edition_one arities (get_or words p 0)) where
    here : walk.walk edition_one arities p (drop p words) bs ≡ walk.next (word NESTING s bs) p (walk.walk edition_one arities (p + 1) (drop (p + 1) words))
    unfolding walk.walk edition_one
    here = rw (drop-cons words p 0 more, e, add-one)

    pub left-deep : {bs' : List Bracket} {text' : List ℕ} {r : Option ℕ} → Stepped text before (word NESTING s bs) r bs' text' → r ≡ None
        → Passed text₀ at (term_at edition_one arities words from) (Err (record { word = p })) text'
    unfolding walk.next
    left-deep {text' = text'} step f = left.passes (Err (record { word = p })) text' (passed_as (sym (here ∙ rw (deep_is step f))) was_too_deep)

    module _ {bs' : List Bracket} {text' : List ℕ} {r : Option ℕ} (next : ℕ) (step : Stepped text before (word NESTING s bs) r bs' text') (f : r ≡ Some next) where
      on : Went text before (word NESTING s bs) next bs' text'
      on = went step f

      then : walk.walk edition_one arities p (drop p words) bs ≡ prepend on.bytes (onward (p + 1) (walk.walk edition_one arities (p + 1) (drop (p + 1) words)) bs')
      unfolding walk.next
      then = here ∙ rw on.is

      pub left_ended : is_some (innermost bs') ≡ false → Passed text₀ at (term_at edition_one arities words from) (Ok (record { word = p + 1; at = next })) text'
      unfolding onward innermost
      left_ended z =
          left.passes (Ok (record { word = p + 1; at = next })) text'
          (passed_as (sym (then ∙ ap (prepend on.bytes) (none bs' z)))
          (passed_after on.wrote (was_ended {passage = record { word = p + 1; at = next }} (wrote_nothing (omega (arith, length_wrote on.wrote, left.short)) (next-most on.wrote)))))
        where
          none : (bs : List Bracket) → is_some (innermost bs) ≡ false → onward (p + 1) (walk.walk edition_one arities (p + 1) (drop (p + 1) words)) bs ≡ ended (p + 1) []
          none [] z = refl
          none (b ∷ bs) z = let f : ◌≡◌ {A = ℕ} 0 1 = cc in absurd (omega arith)

      pub left-more : is_some (innermost bs') ≡ true → Left arities words from text₀ at text' bs' next (p + 1)
      unfolding onward innermost
      left-more n = record {
        kept = length_wrote on.wrote ∙ left.kept;
        short = omega (arith, length_wrote on.wrote, left.short);
        reach = next-most on.wrote;
        passes = λ r last q. left.passes r last (passed_as (sym (then ∙ ap (prepend on.bytes) (still bs' n))) (passed_after on.wrote q));
      }
        where
          still : (bs : List Bracket) → is_some (innermost bs) ≡ true
              → onward (p + 1) (walk.walk edition_one arities (p + 1) (drop (p + 1) words)) bs ≡ walk.walk edition_one arities (p + 1) (drop (p + 1) words) bs
          still [] n = let f : ◌≡◌ {A = ℕ} 0 1 = cc in absurd (omega arith)
          still (b ∷ bs) n = refl
