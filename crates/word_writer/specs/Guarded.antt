-- A walk that stops at the first bracket too deep: its laws, and what each kind of word does in a walk.
use Prim.Native.Nat.{ℕ, suc, ◌+◌, ◌<◌}
use Rattle.std.proofs.Math.Nat.{add-zero}
use native.Mathlib.Omega.{arith}
use Rattle.std.specs.Prelude.{◌≡◌, ltb, get_or}
use Rattle.std.proofs.Math.Path.{refl, ap}
use mathlib.Core.List.{List, [], ◌∷◌, ◌++◌, append_assoc}
use Rattle.std.proofs.Math.ListN.{length}
use Rattle.std.proofs.Common.{lt-ltb, le-ltb, ltb-true, ltb-false}
use Rattle.terms.specs.Lists.{cases}
use Rattle.terms.specs.Bounds.{Bounds, Proper}
use Rattle.terms.specs.Kind.{kind, kind_unknown, kind_functor}
use Rattle.text.specs.Text.{choose}
use Rattle.word_writer.specs.declared.bracket.Bracket.{Bracket}
use Rattle.word_writer.specs.WordByWord.{Writes, writes, deep, after, opens, symbol_of, symbol, Walk, ended, too_deep, prepend, onward, next}
use Rattle.word_writer.specs.declared.begin.Symbol.TheVariants.{Empty, Adding, Unknown, Functor}

-- ---- a walk that stops at the first bracket too deep, and goes on where there is none

unfoldable pub guard : ℕ → ℕ → List ℕ → Walk → Walk
guard limit p [] k = k
guard limit p (d ∷ ds) k = choose (ltb limit d) (λ _. too_deep p) (λ _. guard limit (p + 1) ds k)

module _ (limit : ℕ) where
  pub guard-append : (p : ℕ) (ds es : List ℕ) (k : Walk) → guard limit p (ds ++ es) k ≡ guard limit p ds (guard limit (p + length ds) es k)
  unfolding guard
  guard-append p [] es k = rw add-zero
  guard-append p (d ∷ ds) es k =
      let z : p + 1 + length ds ≡ p + suc (length ds) = omega arith in
      cases (ltb limit d) (λ t. rw t) (λ t. rw (t, guard-append (p + 1) ds es k, z))

  pub guard-prepend : (p : ℕ) (us ds : List ℕ) (k : Walk) → prepend us (guard limit p ds k) ≡ guard limit p ds (prepend us k)
  unfolding guard prepend
  guard-prepend p us [] k = refl
  guard-prepend p us (d ∷ ds) k = cases (ltb limit d) (λ t. rw t) (λ t. rw (t, guard-prepend (p + 1) us ds k))

  pub guard_none : (p : ℕ) (k : Walk) → guard limit p (0 ∷ []) k ≡ k
  unfolding guard
  guard_none p k = rw (le-ltb limit 0 (omega arith))

pub prepend-append : (us vs : List ℕ) (k : Walk) → prepend (us ++ vs) k ≡ prepend us (prepend vs k)
unfolding prepend
prepend-append us vs (ended p ws) = rw append_assoc
prepend-append us vs (too_deep p) = refl

pub prepend-nothing : (k : Walk) → prepend [] k ≡ k
unfolding prepend
prepend-nothing (ended p ws) = refl
prepend-nothing (too_deep p) = refl

-- ---- words and steps

module _ {b : Bounds} (arities : List ℕ) (proper : Proper b) where
  pub symbol_empty : symbol b arities 0 ≡ Empty
  unfolding symbol symbol_of kind
  symbol_empty = refl

  pub symbol_adding : symbol b arities 1 ≡ Adding
  unfolding symbol symbol_of kind
  symbol_adding = refl

  pub symbol_unknown : (i : ℕ) → i < b.unknown_words → symbol b arities (b.first_unknown + i) ≡ Unknown i
  unfolding symbol symbol_of
  symbol_unknown i h = ap (symbol_of arities) (kind_unknown proper i h)

  pub symbol_functor : (k : ℕ) → k < b.functor_words → symbol b arities (b.first_functor + k) ≡ Functor k (get_or arities k 0)
  unfolding symbol symbol_of
  symbol_functor k h = ap (symbol_of arities) (kind_functor proper k h)

pub next-after : (us : List ℕ) (x : Writes) (p : ℕ) (go : List Bracket → Walk) → next (after us x) p go ≡ prepend us (next x p go)
unfolding next after prepend
next-after us (writes vs bs) p go = prepend-append us vs (onward (p + 1) go bs)
next-after us deep p go = refl

pub next-opens : (limit : ℕ) (bytes : List ℕ) (due : Bracket) (bs : List Bracket) (p : ℕ) (go : List Bracket → Walk)
    → next (opens limit bytes due bs) p go ≡ guard limit p (suc (length bs) ∷ []) (prepend bytes (go (due ∷ bs)))
unfolding next opens guard onward
next-opens limit bytes due bs p go =
    cases (ltb (length bs) limit)
    (λ t. rw (t, le-ltb limit (suc (length bs)) (ltb-true _ _ t)))
    (λ t. let h = ltb-false (length bs) limit t in rw (t, lt-ltb limit (suc (length bs)) (omega arith)))
