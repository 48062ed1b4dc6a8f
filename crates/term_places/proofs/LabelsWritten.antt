-- Labels written one after the other from the first: at each place passed stands what is to stand there, and the others are as they were.
use Prim.Native.Nat.{ℕ, ◌+◌, ◌<◌, ◌≤◌}
use mathlib.Core.Path.{◌≡◌, refl, sym, ◌∙◌}
use mathlib.Core.List.{List, map}
use mathlib.Core.Logic.{◌⊎◌, inl, inr}
use native.Mathlib.Omega.{arith}
use native.Mathlib.Nat.{eq-or-lt_of_le}
use lib.ListN.{length, get_or, set, length-set, length-map}
use lib.Seq.{get_or-set_same, get_or-set_other, ext_get_or}
use borrow.Author.Tests.{eq-eqb, ne_eqb}
use Rattle.term_places.specs.Classes.{EachItsOwn, relabel, relabelled}
use Rattle.term_places.specs.Relabelled.{label_of}

pub record Written (due : ℕ → ℕ) (before : List ℕ) (p : ℕ) (l : List ℕ) : Type 0 where
  pub long : length l ≡ length before
  pub done : (i : ℕ) → i < p → i < length before → get_or l i 0 ≡ due i
  pub left : (i : ℕ) → p ≤ i → get_or l i 0 ≡ get_or before i 0

pub written_none : {due : ℕ → ℕ} (l : List ℕ) → Written due l 0 l
written_none l = record { long = refl; done = λ i h k. absurd (omega arith); left = λ i h. refl }

pub written-more : {due : ℕ → ℕ} {before : List ℕ} {p : ℕ} {l : List ℕ} (v : ℕ) → p < length l → v ≡ due p → Written due before p l → Written due before (p + 1) (set l p v)
written-more {due} {before} {p} {l} v h e w =
    record {
      long = length-set l p v ∙ w.long;
      done = λ i b k. at i k (eq-or-lt_of_le (omega arith));
      left = λ i b. get_or-set_other l p i v 0 (λ z. omega arith) ∙ w.left i (omega arith);
    }
  where
    at : (i : ℕ) → i < length before → (i ≡ p) ⊎ (i < p) → get_or (set l p v) i 0 ≡ due i
    at i k (inr b) = get_or-set_other l p i v 0 (λ z. omega arith) ∙ w.done i b k
    at i k (inl z) = rw z (get_or-set_same l p v 0 h ∙ e)

pub all_own : {before l : List ℕ} {p : ℕ} → length l ≤ p → Written (λ i. i) before p l → EachItsOwn l
all_own h w = record { own = λ i b. w.done i (omega arith) (omega (arith, w.long)) }

pub all-relabelled : {before l : List ℕ} {p : ℕ} (old new : ℕ) → length l ≤ p → Written (λ i. relabel old new (get_or before i 0)) before p l → l ≡ relabelled old new before
unfolding relabelled
all-relabelled {before} {l} old new h w =
    ext_get_or 0 l (map (relabel old new) before) (w.long ∙ sym (length-map before (relabel old new)))
    (λ i b. w.done i (omega arith) (omega (arith, w.long)) ∙ sym (label_of (relabel old new) before i (omega (arith, w.long))))

-- ---- one label

pub relabel-yes : (old new label : ℕ) → label ≡ old → relabel old new label ≡ new
unfolding relabel
relabel-yes old new label e = rw (eq-eqb label old e)

pub relabel_no : (old new label : ℕ) → (label ≡ old → ⊥) → relabel old new label ≡ label
unfolding relabel
relabel_no old new label n = rw (ne_eqb label old n)
