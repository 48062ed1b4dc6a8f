-- Walks over words with a counter of terms still due: each word lowers it by one and raises it by the terms that follow. One law, `past`, carries every
-- such walk over a whole term. Here is the walk to the end of terms; the check, the members and occurrence have theirs in files of their own.
use Rattle.std.specs.Prelude.{ℕ, zero, suc, ◌+◌, ◌<◌, ◌≤◌, ◌^◌, ◌≡◌, refl, List, [], ◌∷◌}
use Rattle.std.proofs.Common.{ap, arith}
use Rattle.std.proofs.Math.ListN.{length}
use Rattle.terms.specs.Bounds.{Bounds}
use Rattle.terms.specs.Kind.{takes}
use Rattle.terms.specs.Lists.{All, none, both, All-append}
use Rattle.terms.specs.Term.{Term, Terms, words, words*}
use Rattle.terms.specs.Formed.{Formed, Formed*, formed_unknown, formed_empty, formed_with, formed_functor, formed_none, formed_more}

-- how many words the first terms take, so many as are due; all, where words stop before that
unfoldable pub span : Bounds → List ℕ → List ℕ → (due : ℕ) → ℕ
span b arities [] due = 0
span b arities (w ∷ ws) zero = 0
span b arities (w ∷ ws) (suc due) = suc (span b arities ws (due + takes b arities w))

-- a place to start from, in words so few that no counter of terms overflows
pub record Starts (ws : List ℕ) (from : ℕ) : Type 0 where
  pub inside : from ≤ length ws
  pub few : length ws < 2 ^ 32

-- ---- one law for all walks

-- a word that may stand in a formed term
pub data Stands (b : Bounds) (arities : List ℕ) (n : ℕ) : ℕ → Type 0 where
  stands_empty : Stands b arities n 0
  stands_member : Stands b arities n 1
  stands_unknown : {i : ℕ} → i < n → Stands b arities n (b.first_unknown + i)
  stands_functor : {k : ℕ} → k < length arities → Stands b arities n (b.first_functor + k)

mutual
  unfolding words

  pub words_stand : {b : Bounds} {arities : List ℕ} {n : ℕ} {t : Term} → Formed arities n t → All (Stands b arities n) (words b t)
  words_stand (formed_unknown h) = both (stands_unknown h) none
  words_stand formed_empty = both stands_empty none
  words_stand (formed_with f g) = both stands_member (All-append (words_stand f) (words_stand g))
  words_stand (formed_functor h e f) = both (stands_functor h) (words-stand* f)

  pub words-stand* : {b : Bounds} {arities : List ℕ} {n : ℕ} {ts : Terms} → Formed* arities n ts → All (Stands b arities n) (words* b ts)
  words-stand* formed_none = none
  words-stand* (formed_more f g) = All-append (words_stand f) (words-stand* g)

-- ---- where terms end

pub span-le : (b : Bounds) (arities ws : List ℕ) (d : ℕ) → span b arities ws d ≤ length ws
unfolding span
span-le b arities [] d = omega arith
span-le b arities (w ∷ ws) zero = omega arith
span-le b arities (w ∷ ws) (suc d) = omega (arith, span-le b arities ws (d + takes b arities w))

-- more terms are due than there are words
pub span_short : (b : Bounds) (arities ws : List ℕ) (d : ℕ) → length ws < d → span b arities ws d ≡ length ws
unfolding span
span_short b arities [] d h = refl
span_short b arities (w ∷ ws) zero h = absurd (omega arith)
span_short b arities (w ∷ ws) (suc d) h = ap suc (span_short b arities ws (d + takes b arities w) (omega arith))

pub span-zero : (b : Bounds) (arities ws : List ℕ) → span b arities ws 0 ≡ 0
unfolding span
span-zero b arities [] = refl
span-zero b arities (w ∷ ws) = refl
