-- Whether and where an unknown occurs in a term: absent, only as the tail, or elsewhere. Over trees, and as a walk over words; they agree.
use Rattle.std.specs.Prelude.{ℕ, zero, suc, ◌+◌, ◌<◌, ◌≡◌, Bool, true, false, cond, ◌||◌, ◌&&◌, not, eqb}
use Rattle.std.proofs.Math.Path.{refl, ap, sym}
use Rattle.std.proofs.Common.{◌∙◌, arith, add-zero, add-suc, zero-add}
use mathlib.Core.List.{List, [], ◌∷◌, ◌++◌, append_assoc}
use borrow.Author.Tests.{ne_eqb}
use Rattle.terms.specs.Bounds.{Bounds, MEMBER, EMPTY}
use Rattle.terms.specs.Kind.{takes, takes_empty, takes_member, takes_unknown, apart_words, Worded}
use Rattle.terms.proofs.KindLaws.{takes_functor}
use Rattle.terms.specs.Laws.Flat.{eqb_shift}
use Rattle.terms.specs.Lists.{any, cases, cond_or}
use Rattle.terms.specs.Shape.{is_unknown, number}
use Rattle.terms.specs.Term.{Term, Terms, unknown, empty, with, functor, words, words*, occurs, occurs*, count, members, kernel}
use Rattle.terms.specs.Formed.{Formed, Formed*, formed_unknown, formed_empty, formed_with, formed_functor, formed_none, formed_more}
use Rattle.walks.specs.declared.occurrence.Occurrence.{Occurrence}
use Rattle.walks.specs.declared.occurrence.Occurrence.TheVariants.{Absent, Tail, Inside}

-- x in a kernel; a kernel is no member adding
unfoldable pub in_kernel : ℕ → Term → Occurrence
in_kernel x (unknown i) = cond (eqb i x) Tail Absent
in_kernel x empty = Absent
in_kernel x (with m r) = Absent
in_kernel x (functor k ts) = cond (occurs* x ts) Inside Absent

unfoldable pub occurrence : ℕ → Term → Occurrence
occurrence x t = cond (any (occurs x) (members t)) Inside (in_kernel x (kernel t))

-- the word x in the next terms, so many as are due
unfoldable pub in_terms : Bounds → List ℕ → ℕ → List ℕ → (due : ℕ) → Occurrence
in_terms b arities x [] due = Absent
in_terms b arities x (w ∷ ws) zero = Absent
in_terms b arities x (w ∷ ws) (suc due) = cond (eqb w x) Inside (in_terms b arities x ws (due + takes b arities w))

-- the word x in a rest, so many terms being due before it
unfoldable pub in_rest : Bounds → List ℕ → ℕ → List ℕ → (due : ℕ) → Occurrence
in_rest b arities x [] due = Absent
in_rest b arities x (w ∷ ws) (suc due) = cond (eqb w x) Inside (in_rest b arities x ws (due + takes b arities w))
in_rest b arities x (w ∷ ws) zero = cond (eqb w x) Tail (cond (eqb w MEMBER) (in_rest b arities x ws 1) (in_terms b arities x ws (takes b arities w)))

pub no_terms : (b : Bounds) (arities : List ℕ) (x : ℕ) (ws : List ℕ) → in_terms b arities x ws 0 ≡ Absent
unfolding in_terms
no_terms b arities x [] = refl
no_terms b arities x (w ∷ ws) = refl

-- ---- they agree

module _ {b : Bounds} {arities : List ℕ} {n : ℕ} (worded : Worded b arities n) (x : ℕ) (h : x < b.unknown_words) where
  -- F looks for the word of x in terms that are due, and tells Inside where it meets it
  module _ (F : List ℕ → ℕ → Occurrence)
      (step : (w : ℕ) (ws : List ℕ) (d : ℕ) → F (w ∷ ws) (suc d) ≡ cond (eqb w (b.first_unknown + x)) Inside (F ws (d + takes b arities w))) where
    other : (w : ℕ) (ws : List ℕ) (d e : ℕ) → (w ≡ b.first_unknown + x → ⊥) → d + takes b arities w ≡ e → F (w ∷ ws) (suc d) ≡ F ws e
    other w ws d e g t = step w ws d ∙ rw (ne_eqb w (b.first_unknown + x) g, t)

    mutual
      unfolding words occurs count

      seek : {t : Term} → Formed arities n t → (ws : List ℕ) (d : ℕ) → F (words b t ++ ws) (suc d) ≡ cond (occurs x t) Inside (F ws d)
      seek (formed_unknown {i = i} g) ws d =
          step (b.first_unknown + i) ws d ∙ rw (eqb_shift b.first_unknown i x, takes_unknown worded.proper arities i (omega arith), add-zero)
      seek formed_empty ws d = other 0 ws d d (λ e. omega arith) (omega (arith, takes_empty worded.proper arities))
      seek (formed_with {m = m} {r = r} f g) ws d =
          rw (append_assoc (words b m) (words b r) ws, cond_or (occurs x m) (occurs x r) Inside (F ws d), ← (seek g ws d))
          (other 1 (words b m ++ (words b r ++ ws)) d (suc (suc d)) (λ e. omega arith) (omega (arith, takes_member worded.proper arities))
          ∙ seek f (words b r ++ ws) (suc d))
      seek (formed_functor {k = k} {ts = ts} g e f) ws d =
          other (b.first_functor + k) (words* b ts ++ ws) d (d + count ts) (apart_words worded.proper.apart h (omega arith))
          (omega (arith, takes_functor worded.proper arities k (omega arith)))
          ∙ seek* f ws d

      seek* : {ts : Terms} → Formed* arities n ts → (ws : List ℕ) (d : ℕ) → F (words* b ts ++ ws) (d + count ts) ≡ cond (occurs* x ts) Inside (F ws d)
      seek* formed_none ws d = rw add-zero
      seek* (formed_more {t = t} {ts = ts} f g) ws d =
          rw (append_assoc (words b t) (words* b ts) ws, add-suc, cond_or (occurs x t) (occurs* x ts) Inside (F ws d), ← (seek* g ws d))
          (seek f (words* b ts ++ ws) (d + count ts))

  terms_word : (w : ℕ) (ws : List ℕ) (d : ℕ)
      → in_terms b arities (b.first_unknown + x) (w ∷ ws) (suc d) ≡ cond (eqb w (b.first_unknown + x)) Inside (in_terms b arities (b.first_unknown + x) ws (d + takes b arities w))
  unfolding in_terms
  terms_word w ws d = refl

  rest-word : (w : ℕ) (ws : List ℕ) (d : ℕ)
      → in_rest b arities (b.first_unknown + x) (w ∷ ws) (suc d) ≡ cond (eqb w (b.first_unknown + x)) Inside (in_rest b arities (b.first_unknown + x) ws (d + takes b arities w))
  unfolding in_rest
  rest-word w ws d = refl

  pub in_rest-occurrence : {t : Term} → Formed arities n t → (ws : List ℕ) → in_rest b arities (b.first_unknown + x) (words b t ++ ws) 0 ≡ occurrence x t
  unfolding in_rest words occurrence in_kernel members kernel any
  in_rest-occurrence (formed_unknown {i = i} g) ws =
      rw (
        eqb_shift b.first_unknown i x,
        ne_eqb (b.first_unknown + i) MEMBER (λ e. omega arith),
        takes_unknown worded.proper arities i (omega arith),
        no_terms b arities (b.first_unknown + x) ws,
      )
  in_rest-occurrence formed_empty ws =
      rw (ne_eqb EMPTY (b.first_unknown + x) (λ e. omega arith), takes_empty worded.proper arities, no_terms b arities (b.first_unknown + x) ws)
  in_rest-occurrence (formed_with {m = m} {r = r} f g) ws =
      rw (ne_eqb MEMBER (b.first_unknown + x) (λ e. omega arith), append_assoc (words b m) (words b r) ws)
      (seek (in_rest b arities (b.first_unknown + x)) rest-word f (words b r ++ ws) 0
      ∙ ap (cond (occurs x m) Inside) (in_rest-occurrence g ws)
      ∙ sym (cond_or (occurs x m) (any (occurs x) (members r)) Inside (in_kernel x (kernel r))))
  in_rest-occurrence (formed_functor {k = k} {ts = ts} g e f) ws =
      rw (
        ne_eqb (b.first_functor + k) (b.first_unknown + x) (apart_words worded.proper.apart h (omega arith)),
        ne_eqb (b.first_functor + k) MEMBER (λ e. omega arith),
        takes_functor worded.proper arities k (omega arith),
        ← e,
        ← (zero-add (count ts)),
      )
      (seek* (in_terms b arities (b.first_unknown + x)) terms_word f ws 0 ∙ ap (cond (occurs* x ts) Inside) (no_terms b arities (b.first_unknown + x) ws))

-- ---- what each answer tells of occurrence, members and kernel

occurs_members : (x : ℕ) (t : Term) → occurs x t ≡ (any (occurs x) (members t) || occurs x (kernel t))
unfolding occurs members kernel any
occurs_members x (unknown i) = refl
occurs_members x empty = refl
occurs_members x (with m r) = cases (occurs x m) (λ e. rw e) (λ e. rw e (occurs_members x r))
occurs_members x (functor k ts) = refl

by_kernel : (x : ℕ) (t : Term) (c : Bool) → cond c Inside (in_kernel x (kernel t))
    ≡ cond (c || occurs x (kernel t)) (cond (is_unknown (kernel t) && eqb (number (kernel t)) x && not c) Tail Inside) Absent
unfolding in_kernel kernel occurs is_unknown number
by_kernel x (unknown i) true = cases (eqb i x) (λ e. rw e) (λ e. rw e)
by_kernel x (unknown i) false = cases (eqb i x) (λ e. rw e) (λ e. rw e)
by_kernel x empty true = refl
by_kernel x empty false = refl
by_kernel x (with m r) c = by_kernel x r c
by_kernel x (functor k ts) true = refl
by_kernel x (functor k ts) false = refl

pub occurrence_by : (x : ℕ) (t : Term) → occurrence x t
    ≡ cond (occurs x t) (cond (is_unknown (kernel t) && eqb (number (kernel t)) x && not (any (occurs x) (members t))) Tail Inside) Absent
unfolding occurrence
occurrence_by x t = rw (occurs_members x t) (by_kernel x t (any (occurs x) (members t)))
