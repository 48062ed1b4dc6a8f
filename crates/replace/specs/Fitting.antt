-- As much of a replacement as fits a capacity: the images of the first words, up to the first that does not fit.
--
-- In order: the definitions; it is within the capacity, and begins the whole; all of it fits; the first word does not fit; two
-- sources joined; what is told of a result, what follows from that, and a result in two parts.
-- Not here: laws of the whole (`Replaced`).
use Rattle.std.specs.Prelude.{◌≡◌, cond, take, leb, Option, Some, None}
use Rattle.std.proofs.Math.Path.{refl, ap}
use Rattle.std.proofs.Common.{sym}
use mathlib.Core.List.{List, [], ◌∷◌, ◌++◌, append_assoc}
use Prim.Native.Nat.{ℕ, ◌+◌, ◌-◌, ◌≤◌, ◌<◌}
use native.Mathlib.Omega.{arith}
use Rattle.std.proofs.Math.ListN.{length, length-append}
use Rattle.std.proofs.Math.Seq.{take-append-add}
use borrow.Author.Tests.{le-leb, lt-leb, leb-true, leb-false}
use Rattle.room.specs.Replaced.{image, replaced}
use Rattle.room.specs.Cases.{cases}

unfoldable pub fitting : ℕ → List ℕ → ℕ → List ℕ → List ℕ
fitting x ws capacity [] = []
fitting x ws capacity (w ∷ s) =
    cond (leb (length (image x ws w)) capacity) (image x ws w ++ fitting x ws (capacity - length (image x ws w)) s) []

-- Some length of a result that fits the capacity, else None
unfoldable pub told : ℕ → List ℕ → Option ℕ
told capacity out = cond (leb (length out) capacity) (Some (length out)) None

-- what is told of the whole where n words were written before
unfoldable pub further : ℕ → Option ℕ → Option ℕ
further n (Some k) = Some (n + k)
further n None = None

module _ (x : ℕ) (ws : List ℕ) where
  pub length-fitting : (capacity : ℕ) (s : List ℕ) → length (fitting x ws capacity s) ≤ capacity
  unfolding fitting
  length-fitting capacity [] = omega arith
  length-fitting capacity (w ∷ s) =
      let n : ℕ = length (image x ws w) in
      cases (leb n capacity)
      (λ e.
      rw e (omega (arith, length-append (image x ws w) (fitting x ws (capacity - n) s), length-fitting (capacity - n) s, leb-true n capacity e)))
      (λ e. rw e (omega arith))

  pub take-fitting : (capacity : ℕ) (s : List ℕ) → take (length (fitting x ws capacity s)) (replaced x ws s) ≡ fitting x ws capacity s
  unfolding replaced fitting
  take-fitting capacity [] = refl
  take-fitting capacity (w ∷ s) =
      let u : List ℕ = image x ws w in
      let v : List ℕ = fitting x ws (capacity - length u) s in
      cases (leb (length u) capacity)
      (λ e. rw (e, length-append u v, take-append-add) (ap (λ (r : List ℕ). u ++ r) (take-fitting (capacity - length u) s)))
      (λ e. rw e)

  -- ---- all of it fits

  pub fitting-all : (capacity : ℕ) (s : List ℕ) → length (replaced x ws s) ≤ capacity → fitting x ws capacity s ≡ replaced x ws s
  unfolding replaced fitting
  fitting-all capacity [] h = refl
  fitting-all capacity (w ∷ s) h =
      let e = length-append (image x ws w) (replaced x ws s) in
      rw (le-leb (length (image x ws w)) capacity (omega arith), fitting-all (capacity - length (image x ws w)) s (omega arith))

  -- ---- the first word does not fit

  pub fitting_none : (capacity w : ℕ) (s : List ℕ) → capacity < length (image x ws w) → fitting x ws capacity (w ∷ s) ≡ []
  unfolding fitting
  fitting_none capacity w s h = rw (lt-leb (length (image x ws w)) capacity h)

  -- ---- two sources joined

  pub fitting-append : (capacity : ℕ) (s t : List ℕ) → length (replaced x ws s) ≤ capacity
      → fitting x ws capacity (s ++ t) ≡ replaced x ws s ++ fitting x ws (capacity - length (replaced x ws s)) t
  unfolding replaced fitting
  fitting-append capacity [] t h = ap (λ (c : ℕ). fitting x ws c t) (omega arith)
  fitting-append capacity (w ∷ s) t h =
      let u : List ℕ = image x ws w in
      let v : List ℕ = replaced x ws s in
      let e = length-append u v in
      let left : capacity - length u - length v ≡ capacity - length (u ++ v) = omega arith in
      rw (le-leb (length u) capacity (omega arith), fitting-append (capacity - length u) s t (omega arith), left)
      (sym (append_assoc u v (fitting x ws (capacity - length (u ++ v)) t)))

  pub fitting-append_full : (capacity : ℕ) (s t : List ℕ) → capacity < length (replaced x ws s)
      → fitting x ws capacity (s ++ t) ≡ fitting x ws capacity s
  unfolding replaced fitting
  fitting-append_full capacity [] t h = absurd (omega arith)
  fitting-append_full capacity (w ∷ s) t h =
      let u : List ℕ = image x ws w in
      cases (leb (length u) capacity)
      (λ e.
      let f = leb-true (length u) capacity e in
      rw e (ap (λ (r : List ℕ). u ++ r) (fitting-append_full (capacity - length u) s t (omega (arith, length-append u (replaced x ws s))))))
      (λ e. rw e)

-- ---- what is told

pub told_of_le : (capacity : ℕ) (out : List ℕ) → length out ≤ capacity → told capacity out ≡ Some (length out)
unfolding told
told_of_le capacity out h = rw (le-leb (length out) capacity h)

pub told_of_lt : (capacity : ℕ) (out : List ℕ) → capacity < length out → told capacity out ≡ None
unfolding told
told_of_lt capacity out h = rw (lt-leb (length out) capacity h)

pub told-done : (capacity n : ℕ) (out : List ℕ) → told capacity out ≡ Some n → (length out ≤ capacity) × (length out ≡ n)
unfolding told
told-done capacity n out e =
    cases (leb (length out) capacity)
    (λ t. let f : Some (length out) ≡ Some n = simp t at e in let g : length out ≡ n = cc in (leb-true (length out) capacity t, g))
    (λ t. let f : ◌≡◌ {A = Option ℕ} None (Some n) = simp t at e in let g : ◌≡◌ {A = ℕ} 0 1 = cc in absurd (omega arith))

pub told_full : (capacity : ℕ) (out : List ℕ) → told capacity out ≡ None → capacity < length out
unfolding told
told_full capacity out e =
    cases (leb (length out) capacity)
    (λ t. let f : ◌≡◌ {A = Option ℕ} (Some (length out)) None = simp t at e in let g : ◌≡◌ {A = ℕ} 0 1 = cc in absurd (omega arith))
    (λ t. leb-false (length out) capacity t)

-- ---- a result in two parts, the second written after the first

pub told-append : (capacity : ℕ) (a b : List ℕ) → length a ≤ capacity → told capacity (a ++ b) ≡ further (length a) (told (capacity - length a) b)
unfolding further
told-append capacity a b h =
    let e = length-append a b in
    cases (leb (length b) (capacity - length a))
    (λ t.
    let f = leb-true (length b) (capacity - length a) t in
    rw (told_of_le capacity (a ++ b) (omega arith), told_of_le (capacity - length a) b f, e))
    (λ t.
    let f = leb-false (length b) (capacity - length a) t in
    rw (told_of_lt capacity (a ++ b) (omega arith), told_of_lt (capacity - length a) b f))
