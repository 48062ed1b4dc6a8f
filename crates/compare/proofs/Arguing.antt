-- Two kernels are compared: what holds on the way along their arguments (`Arguing`), how each turn goes on, and what is told at the end.
use Prim.Native.Nat.{ℕ, ◌+◌, ◌-◌, ◌<◌}
use mathlib.Core.Path.{◌≡◌, ap, ap₂, sym, ◌∙◌}
use mathlib.Core.List.{List}
use mathlib.Core.Bool.{Bool, true, false, ◌&&◌}
use native.Mathlib.Omega.{arith}
use lib.ListN.{length, get_or}
use Rattle.terms.specs.Kind.{takes}
use Rattle.terms.specs.Term.{size}
use Rattle.laws.specs.Equal.{equal, equal*, kernels_equal}
use Rattle.term_places.specs.Places.{Held, valued, Placed, resolved, end}
use Rattle.term_places.specs.Classes.{Told, Comparing, ComparingKernels, Same}
use Rattle.term_places.specs.Opened.{resolving}
use Rattle.term_places.specs.Arguments.{arguments, following, Left, kernel_at, words_differ, words_agree, left-first, left-next, next_inside, argument_smaller, equal_next, equal_none}
use Rattle.term_places.specs.Since.{Since, since_start, since_told, told_since}

pub record Arguing (h : Held) (before labels : List ℕ) (p q x y m : ℕ) : Type 0 where
  pub placed : Placed h
  pub since : Since h before labels
  pub so_far : kernels_equal (valued h p) (valued h q) ≡ equal* (arguments h x m) (arguments h y m)
  pub left : Left h p x m
  pub right : Left h q y m

module _ {h : Held} {labels : List ℕ} {p q : ℕ} (c : ComparingKernels h labels p q) where
  pub arguing_differ : (get_or h.words p 0 ≡ get_or h.words q 0 → ⊥) → Told h labels labels (kernels_equal (valued h p) (valued h q)) false
  arguing_differ n =
      let a = c.comparing in
      told_since (since_start a.classes) (sym (words_differ a.placed (kernel_at a.placed a.left c.left_closed) (kernel_at a.placed a.right c.right_closed) n))

  pub arguing_start : {m : ℕ} → get_or h.words p 0 ≡ get_or h.words q 0 → m ≡ takes h.bounds h.arities (get_or h.words p 0) → Arguing h labels labels p q (p + 1) (q + 1) m
  unfolding following
  arguing_start e n =
      let a = c.comparing in
      let f : following h q ≡ following h p = ap (takes h.bounds h.arities) (sym e) in
      rw n
      (record {
        placed = a.placed;
        since = since_start a.classes;
        so_far = words_agree a.placed (kernel_at a.placed a.left c.left_closed) (kernel_at a.placed a.right c.right_closed) e;
        left = left-first a.placed a.left c.left_closed;
        right = rw f at (left-first a.placed a.right c.right_closed);
      })

module _ {h : Held} {before labels : List ℕ} {p q x y m : ℕ} (w : Arguing h before labels p q x y m) where
  pub arguing_end : m ≡ 0 → Told h before labels (kernels_equal (valued h p) (valued h q)) true
  arguing_end z = told_since w.since (sym (w.so_far ∙ equal_none w.placed x y z))

  module _ (z : 0 < m) where
    pub left_inside : x < length h.words
    left_inside = next_inside w.placed w.left z

    pub right_inside : y < length h.words
    right_inside = next_inside w.placed w.right z

    pub arguing_asks : Comparing h labels (resolved h.bounds h.words h.starts x) (resolved h.bounds h.words h.starts y)
    arguing_asks =
        record {
          placed = w.placed;
          classes = w.since.classes;
          left = (resolving w.placed x left_inside).known;
          right = (resolving w.placed y right_inside).known;
        }

    pub arguing_falls : size (valued h (resolved h.bounds h.words h.starts x)) + size (valued h (resolved h.bounds h.words h.starts y))
        < size (valued h p) + size (valued h q)
    arguing_falls =
        rw ((resolving w.placed x left_inside).same, (resolving w.placed y right_inside).same)
        (omega (arith, argument_smaller w.placed w.left z, argument_smaller w.placed w.right z))

    module _ {after : List ℕ} {r : Bool} (s : Same h labels after (resolved h.bounds h.words h.starts x) (resolved h.bounds h.words h.starts y) r) where
      by_first : kernels_equal (valued h p) (valued h q)
          ≡ (r && equal* (arguments h (end h.bounds h.arities h.words x) (m - 1)) (arguments h (end h.bounds h.arities h.words y) (m - 1)))
      by_first =
          w.so_far ∙ equal_next w.placed left_inside right_inside z
          ∙ ap (λ b. b && equal* (arguments h (end h.bounds h.arities h.words x) (m - 1)) (arguments h (end h.bounds h.arities h.words y) (m - 1)))
          (sym (s.told.told ∙ ap₂ equal (resolving w.placed x left_inside).same (resolving w.placed y right_inside).same))

      pub arguing_no : r ≡ false → Told h before after (kernels_equal (valued h p) (valued h q)) false
      arguing_no f = told_since (since_told w.since s.told) (sym (by_first ∙ rw f))

      pub arguing_on : {k : ℕ} → r ≡ true → k ≡ m - 1 → Arguing h before after p q (end h.bounds h.arities h.words x) (end h.bounds h.arities h.words y) k
      arguing_on t e =
          rw e
          (record {
            placed = w.placed;
            since = since_told w.since s.told;
            so_far = by_first ∙ rw t;
            left = left-next w.placed w.left z;
            right = left-next w.placed w.right z;
          })
