-- Two kernels compared: by their words, and then by as many arguments as follow those, one after the other.
use Prim.Native.Nat.{ℕ, zero, suc, ◌+◌, ◌-◌, ◌<◌, ◌≤◌}
use Rattle.std.specs.Prelude.{◌≡◌, List, true, false, ◌&&◌, get_or, drop}
use Rattle.std.proofs.Math.Path.{ap, sym}
use Rattle.std.proofs.Common.{◌∙◌, arith}
use Rattle.std.proofs.Math.Numerals.{sub-one}
use Rattle.std.proofs.Math.ListN.{length}
use borrow.Author.Tests.{eq-eqb, ne_eqb}
use Rattle.terms.specs.Laws.Flat.{size_positive}
use Rattle.terms.specs.Kind.{takes, takes_empty}
use Rattle.terms.proofs.KindLaws.{takes_functor}
use Rattle.terms.specs.Reading.{top, taken}
use Rattle.terms.specs.Term.{Term, Terms, functor, empty, more, size, size*}
use Rattle.terms.specs.Bounds.{MEMBER}
use Rattle.laws.specs.Equal.{equal, equal*, equal*-more, kernels_equal, is_empty, is_this_functor, tests}
use Rattle.laws.specs.Values.{value, value*}
use Rattle.term_places.specs.Places.{terms_from, tree, end, Held, values, valued, Placed, Known}
use Rattle.term_places.specs.Standing.{View, sees_empty, sees_member, sees_unknown, sees_functor, view, standing}

-- the words of the first m of a stack
unfoldable pub extent : ℕ → List Term → ℕ
extent m ts = size* (taken m ts)

-- the first m terms at a place with the values put in
unfoldable pub arguments : Held → ℕ → ℕ → Terms
arguments h x m = value* (values h) (taken m (terms_from h.bounds h.arities h.words x))

-- how many follow the word at a place
unfoldable pub following : Held → ℕ → ℕ
following h p = takes h.bounds h.arities (get_or h.words p 0)

-- m arguments of the kernel at p are left, and the next stands at x
pub record Left (h : Held) (p x m : ℕ) : Type 0 where
  pub within : x + extent m (terms_from h.bounds h.arities h.words x) ≤ length h.words
  pub smaller : size* (arguments h x m) < size (valued h p)

-- a kernel: the empty set, or a functor with its arguments
pub data Kernel (h : Held) (p : ℕ) : Type 0 where
  kernel_empty : get_or h.words p 0 ≡ 0 → valued h p ≡ empty → following h p ≡ 0 → Kernel h p
  kernel_functor : {k : ℕ} → get_or h.words p 0 ≡ h.bounds.first_functor + k → valued h p ≡ functor k (arguments h (p + 1) (following h p)) → Kernel h p

module _ {h : Held} (placed : Placed h) where
  pub more-arguments : (x m : ℕ) → x < length h.words
      → arguments h x (suc m) ≡ more (valued h x) (arguments h (end h.bounds h.arities h.words x) m)
  unfolding arguments taken value valued tree
  more-arguments x m l = ap (λ ts. more (valued h x) (value* (values h) (taken m ts))) (ap (drop 1) (standing placed.terms x l).on)

  pub next_inside : {p x m : ℕ} → Left h p x m → 0 < m → x < length h.words
  unfolding extent taken size
  next_inside {m = zero} l z = absurd (omega arith)
  next_inside {x = x} {m = suc m} l z = omega (arith, l.within, size_positive (top (terms_from h.bounds h.arities h.words x)))

  pub left-next : {p x m : ℕ} → Left h p x m → 0 < m → Left h p (end h.bounds h.arities h.words x) (m - 1)
  unfolding extent taken size end tree
  left-next {m = zero} l z = absurd (omega arith)
  left-next {p} {x} {m = suc m} l z =
      let i = next_inside l z in
      let d = ap (λ ts. size* (taken m (drop 1 ts))) (standing placed.terms x i).on in
      let e = ap size* (more-arguments x m i) in
      rw sub-one (record { within = omega (arith, l.within, d); smaller = omega (arith, l.smaller, e) })

  pub argument_smaller : {p x m : ℕ} → Left h p x m → 0 < m → size (valued h x) < size (valued h p)
  unfolding size
  argument_smaller {m = zero} l z = absurd (omega arith)
  argument_smaller {p} {x} {m = suc m} l z = omega (arith, l.smaller, ap size* (more-arguments x m (next_inside l z)))

  pub equal_next : {x y m : ℕ} → x < length h.words → y < length h.words → 0 < m
      → equal* (arguments h x m) (arguments h y m)
      ≡ (equal (valued h x) (valued h y) && equal* (arguments h (end h.bounds h.arities h.words x) (m - 1)) (arguments h (end h.bounds h.arities h.words y) (m - 1)))
  equal_next {m = zero} i j z = absurd (omega arith)
  equal_next {x} {y} {m = suc m} i j z = rw (sub-one, more-arguments x m i, more-arguments y m j) (equal*-more _ _ _ _)

  pub equal_none : (x y : ℕ) {m : ℕ} → m ≡ 0 → equal* (arguments h x m) (arguments h y m) ≡ true
  unfolding arguments taken value tests
  equal_none x y e = rw e

  -- ---- the two words

  by_view : {p : ℕ} → Known h p → (get_or h.words p 0 ≡ MEMBER → ⊥) → View h.bounds h.arities (length h.starts) h.words p → Kernel h p
  unfolding valued value arguments following taken
  by_view known c (sees_empty e s) = kernel_empty e (rw s) (rw (e, takes_empty placed.terms.limits.proper h.arities))
  by_view known c (sees_member e a b s) = absurd (c e)
  by_view known c (sees_unknown {i = i} e l s) = absurd (known.no_unknown i l e)
  by_view known c (sees_functor {k = k} e l s) = kernel_functor e (rw (s, e, takes_functor placed.terms.limits.proper h.arities k (omega (arith, placed.terms.limits.functors))))

  pub kernel_at : {p : ℕ} → Known h p → (get_or h.words p 0 ≡ MEMBER → ⊥) → Kernel h p
  kernel_at {p} known c = by_view known c (view placed.terms p known.inside)

  kernel-size : {p : ℕ} → Kernel h p → size* (arguments h (p + 1) (following h p)) < size (valued h p)
  unfolding size arguments value taken
  kernel-size (kernel_empty e s f) = rw (s, f) (omega arith)
  kernel-size (kernel_functor e s) = rw s (omega arith)

  pub left-first : {p : ℕ} → Known h p → (get_or h.words p 0 ≡ MEMBER → ⊥) → Left h p (p + 1) (following h p)
  unfolding extent size taken end following
  left-first {p} known c = record { within = go (view placed.terms p known.inside); smaller = kernel-size (kernel_at known c) }
    where
      go : View h.bounds h.arities (length h.starts) h.words p → p + 1 + extent (following h p) (terms_from h.bounds h.arities h.words (p + 1)) ≤ length h.words
      go (sees_empty e s) = rw (e, takes_empty placed.terms.limits.proper h.arities) (omega (arith, known.inside))
      go (sees_member e a b s) = absurd (c e)
      go (sees_unknown {i = i} e l s) = absurd (known.no_unknown i l e)
      go (sees_functor {k = k} e l s) =
          let w = rw s at (standing placed.terms p known.inside).within in
          rw (e, takes_functor placed.terms.limits.proper h.arities k (omega (arith, placed.terms.limits.functors))) (omega arith)

  pub words_differ : {p q : ℕ} → Kernel h p → Kernel h q → (get_or h.words p 0 ≡ get_or h.words q 0 → ⊥) → kernels_equal (valued h p) (valued h q) ≡ false
  unfolding kernels_equal is_empty is_this_functor
  words_differ (kernel_empty e s f) (kernel_empty d t g) n = absurd (n (e ∙ sym d))
  words_differ (kernel_empty e s f) (kernel_functor d t) n = rw (s, t)
  words_differ (kernel_functor e s) (kernel_empty d t g) n = rw (s, t)
  words_differ (kernel_functor {k = k} e s) (kernel_functor {k = j} d t) n = rw (s, t, ne_eqb k j (λ z. n (omega arith)))

  positive : 0 < h.bounds.first_functor
  positive = omega (arith, placed.terms.limits.proper.functors_after_marks)

  pub words_agree : {p q : ℕ} → Kernel h p → Kernel h q → get_or h.words p 0 ≡ get_or h.words q 0
      → kernels_equal (valued h p) (valued h q) ≡ equal* (arguments h (p + 1) (following h p)) (arguments h (q + 1) (following h p))
  unfolding kernels_equal is_empty is_this_functor following
  words_agree {p} {q} (kernel_empty e s f) (kernel_empty d t g) n = rw (s, t) (sym (equal_none (p + 1) (q + 1) f))
  words_agree (kernel_empty e s f) (kernel_functor d t) n = absurd (omega (arith, positive))
  words_agree (kernel_functor e s) (kernel_empty d t g) n = absurd (omega (arith, positive))
  words_agree {p} {q} (kernel_functor {k = k} e s) (kernel_functor {k = j} d t) n =
      let f : following h q ≡ following h p = ap (takes h.bounds h.arities) (sym n) in
      rw (s, t, f, eq-eqb k j (omega arith))
