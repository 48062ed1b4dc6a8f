-- Two terms compared, from what is told of their kernels, of the left one's members, and of the right one's; and two places, whose labels then become one.
use Prim.Native.Nat.{ℕ, ◌+◌, ◌≤◌}
use mathlib.Core.Path.{◌≡◌, refl, ap, sym, ◌∙◌}
use mathlib.Core.List.{List}
use mathlib.Core.Bool.{Bool, true, false, ◌&&◌, false≢true}
use native.Mathlib.Omega.{arith}
use lib.ListN.{get_or}
use Rattle.terms.specs.Term.{Term, unknown, empty, with, functor, members, kernel, size}
use Rattle.terms.specs.Lists.{false_unless}
use Rattle.laws.specs.Equal.{equal, equal_is, each_in, kernels_equal}
use Rattle.term_places.specs.Places.{Held, valued, KernelOf}
use Rattle.term_places.specs.Classes.{BothSettled, Settled, Told, some_equals, each_equalled, Comparing, ComparingKernels, Compared, relabelled, Same, EachMeets}
use Rattle.term_places.specs.Relabelled.{one_class, one_label, still_together}
use Rattle.term_places.specs.Since.{Since, since_start, since_told, told_since}

-- the sentence of SPECIFICATION 2.2
by_parts : (t u : Term) → equal t u ≡ (kernels_equal (kernel t) (kernel u) && each_in (members t) (members u) && each_equalled (members t) (members u))
unfolding each_equalled some_equals
by_parts t u = equal_is t u

kernel-not_larger : (t : Term) → size (kernel t) ≤ size t
unfolding kernel size
kernel-not_larger (unknown i) = omega arith
kernel-not_larger empty = omega arith
kernel-not_larger (with m r) = omega (arith, kernel-not_larger r)
kernel-not_larger (functor k ts) = omega arith

pub kernels_fall : {h : Held} {p q k l : ℕ} → KernelOf h p k → KernelOf h q l → size (valued h k) + size (valued h l) ≤ size (valued h p) + size (valued h q)
kernels_fall {h} {p} {q} kp kq =
    omega (arith, ap size kp.kernel, ap size kq.kernel, kernel-not_larger (valued h p), kernel-not_larger (valued h q))

module _ {h : Held} {labels : List ℕ} {p q k l : ℕ} (c : Comparing h labels p q) (kp : KernelOf h p k) (kq : KernelOf h q l) where
  pub compare_kernels : ComparingKernels h labels k l
  compare_kernels =
      record {
        comparing = record { placed = c.placed; classes = c.classes; left = kp.known; right = kq.known };
        left_closed = kp.closed;
        right_closed = kq.closed;
      }

  module _ {second : List ℕ} {r : Bool} (t : Told h labels second (kernels_equal (valued h k) (valued h l)) r) where
    kernels_told : r ≡ kernels_equal (kernel (valued h p)) (kernel (valued h q))
    kernels_told = t.told ∙ rw (kp.kernel, kq.kernel)

    pub kernels_no : r ≡ false → Told h labels second (equal (valued h p) (valued h q)) false
    kernels_no f = told_since (since_told (since_start c.classes) t) (sym (by_parts (valued h p) (valued h q) ∙ rw (← kernels_told, f)))

    pub compare_members : Comparing h second p q
    compare_members = record { placed = c.placed; classes = t.classes; left = c.left; right = c.right }

    module _ {third : List ℕ} {s : Bool} (yes : r ≡ true) (m : EachMeets h second third p q s) where
      since_both : Since h labels third
      since_both = since_told (since_told (since_start c.classes) t) m.told

      pub members_no : s ≡ false → Told h labels third (equal (valued h p) (valued h q)) false
      members_no f = told_since since_both (sym (by_parts (valued h p) (valued h q) ∙ rw (← kernels_told, yes, ← m.told.told, f)))

      pub compare_back : s ≡ true → Compared h third p q
      compare_back f = record { comparing = record { placed = c.placed; classes = m.told.classes; left = c.left; right = c.right }; joined = m.joined f }

      pub compared : {v : Bool} → s ≡ true → v ≡ each_equalled (members (valued h p)) (members (valued h q)) → Told h labels third (equal (valued h p) (valued h q)) v
      compared f e = told_since since_both (e ∙ sym (by_parts (valued h p) (valued h q) ∙ rw (← kernels_told, yes, ← m.told.told, f)))

-- ---- two places

module _ {h : Held} {labels : List ℕ} {p q : ℕ} (c : Comparing h labels p q) where
  pub same_label : get_or labels p 0 ≡ get_or labels q 0 → Same h labels labels p q true
  same_label e = record { told = told_since (since_start c.classes) (sym (c.classes.alike p q c.left.inside c.right.inside e)); joined = λ t. e }

  pub settled_apart : {settled : List ℕ} {r : Bool} → Settled h settled labels → BothSettled settled p q r → r ≡ true → (get_or labels p 0 ≡ get_or labels q 0 → ⊥) → Same h labels labels p q false
  settled_apart d b y n =
      let e = false_unless (equal (valued h p) (valued h q)) (λ f. n (d.joined p q c.left.inside c.right.inside (b.left y) (b.right y) f)) in
      record { told = told_since (since_start c.classes) (sym e); joined = λ t. absurd (false≢true t) }

  module _ {after : List ℕ} {r : Bool} (t : Told h labels after (equal (valued h p) (valued h q)) r) where
    pub not_same : r ≡ false → Same h labels after p q false
    not_same f = record { told = told_since (since_told (since_start c.classes) t) (sym f ∙ t.told); joined = λ y. absurd (false≢true y) }

    pub now_same : r ≡ true → {last : List ℕ} → last ≡ relabelled (get_or after p 0) (get_or after q 0) after → Same h labels last p q true
    now_same y {last} e =
        let f : equal (valued h p) (valued h q) ≡ true = sym t.told ∙ y in
        let s = since_told (since_start c.classes) t in
        let i = c.left.inside in
        let j = c.right.inside in
        rw e
        (record {
          told =
              told_since
              (since_told {truth = true} s (record { told = refl; classes = one_class t.classes i j f; coarser = still_together t.classes i j }))
              (sym f);
          joined = λ z. one_label t.classes i j;
        })
