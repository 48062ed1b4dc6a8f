-- A list of words in which each word x is replaced by the words ws. On prefix words this is substitution: x is an unknown's
-- word, and ws are the words of its value.
--
-- In order: the definitions; one step; two sources joined; how long the result is; nothing to replace, before and after;
-- lists without x; the words before the first x. Not here: as much of the result as fits a capacity (`Fitting`).
use Rattle.std.specs.Prelude.{◌≡◌, Bool, true, false, cond, length, take, get_or, eqb}
use Rattle.std.proofs.Math.Path.{refl}
use Rattle.std.proofs.Common.{sym, ap, eq-eqb, ne_eqb, eqb-true}
use Rattle.std.proofs.lemmas.Bool.{false≢true, eqb-false}
use mathlib.Core.List.{List, [], ◌∷◌, ◌++◌, append_assoc}
use Prim.Native.Nat.{ℕ, zero, suc, ◌+◌, ◌*◌, ◌≤◌, ◌<◌}
use native.Mathlib.Omega.{arith}
use Rattle.std.proofs.Math.Nat.{zero-mul, suc-mul}
use Rattle.std.proofs.Math.ListN.{length-append}
use Rattle.room.specs.Cases.{cases}

-- what stands for the word w
unfoldable pub image : ℕ → List ℕ → ℕ → List ℕ
image x ws w = cond (eqb w x) ws (w ∷ [])

unfoldable pub replaced : ℕ → List ℕ → List ℕ → List ℕ
replaced x ws [] = []
replaced x ws (w ∷ s) = image x ws w ++ replaced x ws s

-- how many words x there are
unfoldable pub count : ℕ → List ℕ → ℕ
count x [] = 0
count x (w ∷ s) = cond (eqb w x) (suc (count x s)) (count x s)

-- x is none of the words
unfoldable pub clear : ℕ → List ℕ → Bool
clear x [] = true
clear x (w ∷ s) = cond (eqb w x) false (clear x s)

-- the words before the first x
unfoldable pub before : ℕ → List ℕ → List ℕ
before x [] = []
before x (w ∷ s) = cond (eqb w x) [] (w ∷ before x s)

pub count-append : (x : ℕ) (s t : List ℕ) → count x (s ++ t) ≡ count x s + count x t
unfolding count
count-append x [] t = omega arith
count-append x (w ∷ s) t =
    cases (eqb w x) (λ e. rw e (omega (arith, count-append x s t))) (λ e. rw e (omega (arith, count-append x s t)))

module _ (x : ℕ) (ws : List ℕ) where
  -- ---- one step

  pub image_same : (w : ℕ) → w ≡ x → image x ws w ≡ ws
  unfolding image
  image_same w e = rw (eq-eqb w x e)

  pub image_other : (w : ℕ) → (w ≡ x → ⊥) → image x ws w ≡ w ∷ []
  unfolding image
  image_other w e = rw (ne_eqb w x e)

  pub replaced-nil : replaced x ws [] ≡ []
  unfolding replaced
  replaced-nil = refl

  pub replaced-cons : (w : ℕ) (s : List ℕ) → replaced x ws (w ∷ s) ≡ image x ws w ++ replaced x ws s
  unfolding replaced
  replaced-cons w s = refl

  -- ---- two sources joined

  pub replaced-append : (s t : List ℕ) → replaced x ws (s ++ t) ≡ replaced x ws s ++ replaced x ws t
  unfolding replaced
  replaced-append [] t = refl
  replaced-append (w ∷ s) t = rw (replaced-append s t) (sym (append_assoc (image x ws w) (replaced x ws s) (replaced x ws t)))

  -- ---- how long the result is

  -- each x goes, and as many words as ws has come for it
  pub length-replaced : (s : List ℕ) → length (replaced x ws s) + count x s ≡ length s + count x s * length ws
  unfolding replaced image count
  length-replaced [] = omega (arith, zero-mul (length ws))
  length-replaced (w ∷ s) =
      cases (eqb w x)
      (λ e. rw e (omega (arith, length-append ws (replaced x ws s), length-replaced s, suc-mul (count x s) (length ws))))
      (λ e. rw e (omega (arith, length-replaced s)))

  -- nothing gets shorter where ws has a word
  pub length-le-replaced : (s : List ℕ) → 1 ≤ length ws → length s ≤ length (replaced x ws s)
  unfolding replaced image
  length-le-replaced [] h = omega arith
  length-le-replaced (w ∷ s) h =
      cases (eqb w x)
      (λ e. rw e (omega (arith, length-append ws (replaced x ws s), length-le-replaced s h)))
      (λ e. rw e (omega (arith, length-le-replaced s h)))

  -- ---- nothing to replace, and nothing left to replace

  pub replaced_none : (s : List ℕ) → count x s ≡ 0 → replaced x ws s ≡ s
  unfolding replaced image count
  replaced_none [] h = refl
  replaced_none (w ∷ s) h =
      cases (eqb w x)
      (λ e. let f : suc (count x s) ≡ 0 = rw e at h in absurd (omega arith))
      (λ e. rw e (ap (λ (r : List ℕ). w ∷ r) (replaced_none s (rw e at h))))

  pub count-replaced : (s : List ℕ) → count x ws ≡ 0 → count x (replaced x ws s) ≡ 0
  unfolding replaced image count
  count-replaced [] h = refl
  count-replaced (w ∷ s) h =
      cases (eqb w x)
      (λ e. rw e (omega (arith, count-append x ws (replaced x ws s), count-replaced s h)))
      (λ e. rw (e, e) (count-replaced s h))

  pub replaced-before : (s : List ℕ) → replaced x ws (before x s) ≡ before x s
  unfolding before
  replaced-before [] = replaced-nil
  replaced-before (w ∷ s) =
      cases (eqb w x) (λ e. rw e replaced-nil)
      (λ e. rw (e, replaced-cons, image_other w (eqb-false w x e)) (ap (λ (r : List ℕ). w ∷ r) (replaced-before s)))

module _ (x : ℕ) where
  -- ---- lists without x

  pub clear-nil : clear x [] ≡ true
  unfolding clear
  clear-nil = refl

  pub clear_other : (w : ℕ) (s : List ℕ) → (w ≡ x → ⊥) → clear x (w ∷ s) ≡ clear x s
  unfolding clear
  clear_other w s e = rw (ne_eqb w x e)

  -- there is an x at place i
  pub clear-not : (s : List ℕ) (i : ℕ) → i < length s → get_or s i 0 ≡ x → clear x s ≡ false
  unfolding clear
  clear-not [] i h e = absurd (omega arith)
  clear-not (w ∷ s) zero h e = rw (eq-eqb w x e)
  clear-not (w ∷ s) (suc i) h e = cases (eqb w x) (λ q. rw q) (λ q. rw q (clear-not s i (omega arith) e))

  -- ---- the words before the first x

  pub before_same : (w : ℕ) (s : List ℕ) → w ≡ x → before x (w ∷ s) ≡ []
  unfolding before
  before_same w s e = rw (eq-eqb w x e)

  -- a part without x is passed
  pub before-append : (s t : List ℕ) → clear x s ≡ true → before x (s ++ t) ≡ s ++ before x t
  unfolding clear before
  before-append [] t h = refl
  before-append (w ∷ s) t h =
      cases (eqb w x)
      (λ e. absurd (false≢true (rw e at h)))
      (λ e. rw e (ap (λ (r : List ℕ). w ∷ r) (before-append s t (rw e at h))))

  pub length_before : (s : List ℕ) → length (before x s) ≤ length s
  unfolding before
  length_before [] = omega arith
  length_before (w ∷ s) = cases (eqb w x) (λ e. rw e (omega arith)) (λ e. rw e (omega (arith, length_before s)))

  pub take-before : (s : List ℕ) → take (length (before x s)) s ≡ before x s
  unfolding before
  take-before [] = refl
  take-before (w ∷ s) = cases (eqb w x) (λ e. rw e) (λ e. rw e (ap (λ (r : List ℕ). w ∷ r) (take-before s)))

  -- where they end before the list does, an x stands
  pub get_or-before : (s : List ℕ) → length (before x s) < length s → get_or s (length (before x s)) 0 ≡ x
  unfolding before
  get_or-before [] h = absurd (omega arith)
  get_or-before (w ∷ s) h =
      cases (eqb w x) (λ e. rw e (eqb-true w x e))
      (λ e. let f : suc (length (before x s)) < suc (length s) = rw e at h in rw e (get_or-before s (omega arith)))
