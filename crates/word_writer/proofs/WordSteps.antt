-- What a word's step owes, arm by arm: brackets opened, closed, and what is due changed.
use Prim.Native.Nat.{ℕ, zero, suc, ◌-◌, ◌≤◌, ◌<◌}
use native.Mathlib.Omega.{arith}
use mathlib.Core.Path.{◌≡◌, refl, ◌∙◌}
use mathlib.Core.Bool.{Bool, true, false}
use mathlib.Core.List.{List, [], ◌∷◌, ◌++◌}
use lib.ListN.{length, drop}
use lib.Dec.{ltb}
use borrow.Author.Tests.{lt-ltb, le-ltb}
use Rattle.text.specs.Text.{unknown_name, functor_name, decimal}
use Rattle.word_writer.specs.Pen.{Wrote}
use Rattle.word_writer.specs.OpenBrackets.{closing, closed, innermost}
use Rattle.word_writer.specs.declared.bracket.Bracket.{Bracket}
use Rattle.word_writer.specs.declared.bracket.Bracket.TheVariants.{Member, Rest, Tail, Arguments}
use Rattle.word_writer.specs.WordByWord.{Writes, writes, after, opens, begins, continues, word, Stepped, went_on, was_deep}
use Rattle.word_writer.specs.declared.begin.Symbol.{Symbol}
use Rattle.word_writer.specs.declared.begin.Symbol.TheVariants.{Empty, Adding, Unknown, Functor}
use Rattle.std.specs.Prelude.{Option, Some, None}
use Rattle.word_writer.specs.Writing.{wrote_then}
use Rattle.word_writer.proofs.Stack.{innermost_is}

module _ {text₀ text : List ℕ} {bs : List Bracket} {at : ℕ} {r : Option ℕ} where
  pub stepped_as : {x y : Writes} → x ≡ y → Stepped text₀ at x r bs text → Stepped text₀ at y r bs text
  stepped_as e s = rw e at s

-- a step after bytes
pub stepped_after : {text₀ us text₁ : List ℕ} {at at₁ : ℕ} → Wrote text₀ at us text₁ at₁
    → {x : Writes} {r : Option ℕ} {bs : List Bracket} {text : List ℕ} → Stepped text₁ at₁ x r bs text → Stepped text₀ at (after us x) r bs text
unfolding after
stepped_after w (went_on v) = went_on (wrote_then w v)
stepped_after w was_deep = was_deep

pub after-opens : (us : List ℕ) (limit : ℕ) (vs : List ℕ) (due : Bracket) (bs : List Bracket) → after us (opens limit vs due bs) ≡ opens limit (us ++ vs) due bs
unfolding after opens
after-opens us limit vs due bs = go (ltb (length bs) limit) refl
  where
    go : (t : Bool) → ltb (length bs) limit ≡ t → after us (opens limit vs due bs) ≡ opens limit (us ++ vs) due bs
    go true e = rw e
    go false e = rw e

-- ---- a bracket opened

module _ {text₀ : List ℕ} {at : ℕ} (limit byte : ℕ) (due : Bracket) (bs : List Bracket) where
  pub opened : {text : List ℕ} {next : ℕ} → length bs < limit → Wrote text₀ at (byte ∷ []) text next → Stepped text₀ at (opens limit (byte ∷ []) due bs) (Some next) (due ∷ bs) text
  unfolding opens
  opened h w = rw (lt-ltb (length bs) limit h) (went_on w)

  pub opened_not : {text : List ℕ} → limit ≤ length bs → Stepped text₀ at (opens limit (byte ∷ []) due bs) None bs text
  unfolding opens
  opened_not h = rw (le-ltb (length bs) limit h) was_deep

-- ---- a term begun

module _ {text₀ text₁ text : List ℕ} {at at₁ next : ℕ} (limit : ℕ) (s : Symbol) (bs : List Bracket) where
  -- what is owed where bytes are written and the term is finished
  finished : {us : List ℕ} {after : List Bracket} → begins limit s bs ≡ writes (us ++ closing bs) (closed bs)
      → Wrote text₀ at us text₁ at₁ → Wrote text₁ at₁ (closing bs) text next → after ≡ closed bs → Stepped text₀ at (begins limit s bs) (Some next) after text
  finished e w c f = rw (f, e) (went_on (wrote_then w c))

  module _ {after : List Bracket} (c : Wrote text₁ at₁ (closing bs) text next) (f : after ≡ closed bs) where
    pub begun_empty : s ≡ Empty → Wrote text₀ at (123 ∷ 125 ∷ []) text₁ at₁ → Stepped text₀ at (begins limit s bs) (Some next) after text
    unfolding begins
    begun_empty e w = finished (rw e) w c f

    pub begun_unknown : (i : ℕ) → s ≡ Unknown i → Wrote text₀ at (120 ∷ decimal i) text₁ at₁ → Stepped text₀ at (begins limit s bs) (Some next) after text
    unfolding begins unknown_name
    begun_unknown i e w = finished (rw e) w c f

    pub begun_constant : (k n : ℕ) → s ≡ Functor k n → n ≡ 0 → Wrote text₀ at (102 ∷ decimal k) text₁ at₁ → Stepped text₀ at (begins limit s bs) (Some next) after text
    unfolding begins functor_name
    begun_constant k n e z w = finished (rw (e, z)) w c f

module _ {text₀ text : List ℕ} {after : List Bracket} {at : ℕ} {r : Option ℕ} (limit : ℕ) (s : Symbol) (bs : List Bracket) where
  pub begun_adding : s ≡ Adding → Stepped text₀ at (opens limit (123 ∷ []) Member bs) r after text → Stepped text₀ at (begins limit s bs) r after text
  unfolding begins
  begun_adding e o = stepped_as (rw e) o

  pub begun_arguments : (k n : ℕ) → s ≡ Functor k n → (n ≡ 0 → ⊥) → {text₁ : List ℕ} {at₁ : ℕ} → Wrote text₀ at (102 ∷ decimal k) text₁ at₁
      → Stepped text₁ at₁ (opens limit (40 ∷ []) (Arguments (n - 1)) bs) r after text → Stepped text₀ at (begins limit s bs) r after text
  unfolding begins functor_name
  begun_arguments k zero e z w o = absurd (z refl)
  begun_arguments k (suc n) e z w o =
      let d : suc n - 1 ≡ n = omega arith in
      stepped_as (after-opens (102 ∷ decimal k) limit (40 ∷ []) (Arguments n) bs ∙ rw e) (stepped_after w (rw d at o))

-- ---- the rest of a set

module _ {text₀ text : List ℕ} {at : ℕ} (limit : ℕ) (s : Symbol) (bs : List Bracket) where
  pub continued_empty : {next : ℕ} {after : List Bracket} → s ≡ Empty → Wrote text₀ at (closing (Tail ∷ bs)) text next → after ≡ closed (Tail ∷ bs)
      → Stepped text₀ at (continues limit s bs) (Some next) after text
  unfolding continues
  continued_empty e w f = rw (f, e) (went_on w)

  pub continued_adding : {next : ℕ} → s ≡ Adding → Wrote text₀ at (44 ∷ []) text next → Stepped text₀ at (continues limit s bs) (Some next) (Member ∷ bs) text
  unfolding continues
  continued_adding e w = rw e (went_on w)

  module _ {r : Option ℕ} {after' : List Bracket} (b : Stepped text₀ at (after (124 ∷ []) (begins limit s (Tail ∷ bs))) r after' text) where
    pub continued_unknown : (i : ℕ) → s ≡ Unknown i → Stepped text₀ at (continues limit s bs) r after' text
    unfolding continues
    continued_unknown i e = stepped_as (rw e) b

    pub continued_functor : (k n : ℕ) → s ≡ Functor k n → Stepped text₀ at (continues limit s bs) r after' text
    unfolding continues
    continued_functor k n e = stepped_as (rw e) b

-- ---- any word

module _ {text₀ text : List ℕ} {after : List Bracket} {at : ℕ} {r : Option ℕ} (limit : ℕ) (s : Symbol) where
  pub word-rest : (bs : List Bracket) → innermost bs ≡ Some Rest → Stepped text₀ at (continues limit s (drop 1 bs)) r after text → Stepped text₀ at (word limit s bs) r after text
  unfolding word
  word-rest bs e b = stepped_as (rw (innermost_is bs e)) b

  pub word_first : (bs : List Bracket) → innermost bs ≡ None → Stepped text₀ at (begins limit s bs) r after text → Stepped text₀ at (word limit s bs) r after text
  unfolding word innermost
  word_first [] e b = b
  word_first (due ∷ bs) e b = let z : ◌≡◌ {A = ℕ} 0 1 = cc in absurd (omega arith)

  pub word_other : (bs : List Bracket) {due : Bracket} → innermost bs ≡ Some due → (due ≡ Rest → ⊥) → Stepped text₀ at (begins limit s bs) r after text → Stepped text₀ at (word limit s bs) r after text
  unfolding word innermost
  word_other [] e n b = b
  word_other (Member ∷ bs) e n b = b
  word_other (Rest ∷ bs) {due} e n b = let f : due ≡ Rest = cc in absurd (n f)
  word_other (Tail ∷ bs) e n b = b
  word_other (Arguments m ∷ bs) e n b = b
