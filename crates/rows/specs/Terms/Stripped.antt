-- Where the kernel of a set stands in its words: after the member marks and members. Each mark is followed by one term, the member.
use Prim.Native.Nat.{ℕ, zero, suc, ◌+◌, ◌-◌, ◌<◌, ◌≤◌}
use Rattle.std.specs.Prelude.{◌≡◌, refl, Bool, eqb, length}
use Rattle.std.proofs.Math.Path.{ap}
use Rattle.std.proofs.Common.{◌∙◌, zero-add, drop_of_length-le}
use mathlib.Core.List.{List, [], ◌∷◌, ◌++◌, append_assoc}
use Rattle.std.proofs.Math.Bool.{cond}
use native.Mathlib.Omega.{arith}
use Rattle.std.proofs.Math.ListN.{drop, get_or}
use Rattle.std.proofs.Math.Seq.{drop-cons}
use borrow.Author.Tests.{eq-eqb, ne_eqb}
use Rattle.terms.specs.Bounds.{Bounds, MEMBER}
use Rattle.terms.specs.Kind.{takes, Worded}
use Rattle.terms.specs.Lists.{cases, All_units}
use Rattle.terms.specs.Term.{Term, unknown, empty, with, functor, words, words*, size}
use Rattle.terms.specs.Formed.{Formed, formed_unknown, formed_empty, formed_with, formed_functor}
use Rattle.terms.proofs.Walk.{past}

-- so many terms of a member are due, and a place is reached
unfoldable pub stripped : Bounds → List ℕ → List ℕ → (due place : ℕ) → ℕ
stripped b arities [] due place = place
stripped b arities (w ∷ ws) zero place = cond (eqb w MEMBER) (stripped b arities ws 1 (place + 1)) place
stripped b arities (w ∷ ws) (suc due) place = stripped b arities ws (due + takes b arities w) (place + 1)

abbrev pub kernel_at : Bounds → List ℕ → List ℕ → ℕ
kernel_at b arities ws = stripped b arities ws 0 0

-- the words before the kernel
unfoldable pub kernel_place : Term → ℕ
kernel_place (unknown i) = 0
kernel_place empty = 0
kernel_place (with m r) = suc (size m) + kernel_place r
kernel_place (functor k ts) = 0

module _ (b : Bounds) (arities : List ℕ) where
  pub stripped-within : (ws : List ℕ) (due place : ℕ) → stripped b arities ws due place ≤ place + length ws
  unfolding stripped
  stripped-within [] due place = omega arith
  stripped-within (w ∷ ws) zero place =
      let h = stripped-within ws 1 (place + 1) in
      cases (eqb w MEMBER) (λ t. rw t (omega arith)) (λ f. rw f (omega arith))
  stripped-within (w ∷ ws) (suc due) place = omega (arith, stripped-within ws (due + takes b arities w) (place + 1))

  -- ---- as the code walks

  pub stripped-out : (ws : List ℕ) (due place : ℕ) → length ws ≤ place → stripped b arities (drop place ws) due place ≡ place
  unfolding stripped
  stripped-out ws due place h = rw (drop_of_length-le ws h)

  module _ (ws : List ℕ) (place : ℕ) (h : place < length ws) where
    pub stripped_mark : get_or ws place 0 ≡ MEMBER → stripped b arities (drop place ws) 0 place ≡ stripped b arities (drop (place + 1) ws) 1 (place + 1)
    unfolding stripped
    stripped_mark e =
        let f : suc place ≡ place + 1 = omega arith in
        ap (λ (l : List ℕ). stripped b arities l 0 place) (drop-cons ws place 0 h ∙ ap (λ (k : ℕ). get_or ws place 0 ∷ drop k ws) f)
        ∙ ap (λ (c : Bool). cond c (stripped b arities (drop (place + 1) ws) 1 (place + 1)) place) (eq-eqb (get_or ws place 0) MEMBER e)

    pub stripped-stop : (get_or ws place 0 ≡ MEMBER → ⊥) → stripped b arities (drop place ws) 0 place ≡ place
    unfolding stripped
    stripped-stop e = rw (drop-cons ws place 0 h, ne_eqb (get_or ws place 0) MEMBER e)

    pub stripped_on : (due : ℕ) → 0 < due
        → stripped b arities (drop place ws) due place ≡ stripped b arities (drop (place + 1) ws) (due - 1 + takes b arities (get_or ws place 0)) (place + 1)
    unfolding stripped
    stripped_on zero z = absurd (omega arith)
    stripped_on (suc due) z =
        let e : suc due - 1 ≡ due = omega arith in
        let f : suc place ≡ place + 1 = omega arith in
        rw (e, drop-cons ws place 0 h, f)

module _ {b : Bounds} {arities : List ℕ} {n : ℕ} (worded : Worded b arities n) where
  stops : (w : ℕ) (ws : List ℕ) (place : ℕ) → (w ≡ MEMBER → ⊥) → stripped b arities (w ∷ ws) 0 place ≡ place + 0
  unfolding stripped
  stops w ws place e = rw (ne_eqb w MEMBER e) (omega arith)

  pub stripped_words : {t : Term} → Formed arities n t → (ws : List ℕ) (place : ℕ) → stripped b arities (words b t ++ ws) 0 place ≡ place + kernel_place t
  unfolding stripped words kernel_place
  stripped_words (formed_unknown {i = i} h) ws place = stops (b.first_unknown + i) ws place (λ e. omega (arith, worded.proper.unknowns_after_marks))
  stripped_words formed_empty ws place = omega arith
  stripped_words (formed_with {m = m} {r = r} f g) ws place =
      rw (append_assoc (words b m) (words b r) ws)
      (past worded {P = λ w. Unit {0}} (stripped b arities) (λ w vs d p u. refl) f (All_units (words b m)) (words b r ++ ws) 0 (place + 1)
      ∙ stripped_words g ws (place + 1 + size m)
      ∙ omega arith)
  stripped_words (formed_functor {k = k} {ts = ts} h e f) ws place = stops (b.first_functor + k) (words* b ts ++ ws) place (λ e. omega (arith, worded.proper.functors_after_marks))

  pub kernel_at_words : {t : Term} → Formed arities n t → (ws : List ℕ) → kernel_at b arities (words b t ++ ws) ≡ kernel_place t
  kernel_at_words {t} f ws = stripped_words f ws 0 ∙ zero-add (kernel_place t)
