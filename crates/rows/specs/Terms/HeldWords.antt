-- What is asked of terms, asked of their words: an unknown's word occurs where the unknown does, and to put a term for an unknown is to replace
-- the unknown's word by the term's words. Where it does not occur, there is nothing to replace, and no walk finds it.
use Rattle.std.specs.Prelude.{ℕ, zero, suc, ◌+◌, ◌<◌, ◌≡◌, refl, List, [], ◌∷◌, ◌++◌, Bool, false, ◌||◌, eqb}
use Rattle.std.proofs.Common.{ap, ◌∙◌, append-nil, arith, eqb-true, ne_eqb}
use Rattle.std.proofs.Math.Bool.{or-false}
use Rattle.std.proofs.lemmas.Bool.{eqb-false}
use Rattle.room.specs.Replaced.{replaced, count, replaced_none, replaced-append, replaced-cons, replaced-nil, image_same, image_other}
use Rattle.terms.specs.Bounds.{Bounds, UnknownsFirst, MEMBER, EMPTY}
use Rattle.terms.specs.Kind.{takes}
use Rattle.terms.specs.Lists.{any, or_neither, cases}
use Rattle.terms.specs.Term.{Term, Terms, unknown, empty, with, functor, none, more, words, words*, subst, subst*, occurs, occurs*}
use Rattle.terms.specs.Laws.Flat.{eqb_shift}
use Rattle.walks.specs.declared.occurrence.Occurrence.TheVariants.{Absent}
use Rattle.walks.specs.Occurrence.{in_terms, in_rest}

-- is x one of the words?
unfoldable pub holds : ℕ → List ℕ → Bool
holds x ws = any (λ w. eqb w x) ws

pub holds-append : (x : ℕ) (vs ws : List ℕ) → holds x (vs ++ ws) ≡ (holds x vs || holds x ws)
unfolding holds any
holds-append x [] ws = refl
holds-append x (v ∷ vs) ws = cases (eqb v x) (λ t. rw t) (λ f. rw f (holds-append x vs ws))

-- where it is not, there is nothing to replace
count_absent : (x : ℕ) (ws : List ℕ) → holds x ws ≡ false → count x ws ≡ 0
unfolding holds any count
count_absent x [] h = refl
count_absent x (w ∷ ws) h = let n = or_neither (eqb w x) (holds x ws) h in rw n.0 (count_absent x ws n.1)

pub replaced_absent : (x : ℕ) (vs ws : List ℕ) → holds x ws ≡ false → replaced x vs ws ≡ ws
replaced_absent x vs ws h = replaced_none x vs ws (count_absent x ws h)

-- and no walk finds it
absent_in_terms : (b : Bounds) (arities : List ℕ) (x : ℕ) (ws : List ℕ) (due : ℕ) → holds x ws ≡ false → in_terms b arities x ws due ≡ Absent
unfolding holds any in_terms
absent_in_terms b arities x [] due h = refl
absent_in_terms b arities x (w ∷ ws) zero h = refl
absent_in_terms b arities x (w ∷ ws) (suc due) h =
    let n = or_neither (eqb w x) (holds x ws) h in
    rw n.0 (absent_in_terms b arities x ws (due + takes b arities w) n.1)

pub absent_in_rest : (b : Bounds) (arities : List ℕ) (x : ℕ) (ws : List ℕ) (due : ℕ) → holds x ws ≡ false → in_rest b arities x ws due ≡ Absent
unfolding holds any in_rest
absent_in_rest b arities x [] due h = refl
absent_in_rest b arities x (w ∷ ws) zero h =
    let n = or_neither (eqb w x) (holds x ws) h in
    rw (n.0, absent_in_rest b arities x ws 1 n.1, absent_in_terms b arities x ws (takes b arities w) n.1)
    (cases (eqb w MEMBER) (λ t. rw t) (λ f. rw f))
absent_in_rest b arities x (w ∷ ws) (suc due) h =
    let n = or_neither (eqb w x) (holds x ws) h in
    rw n.0 (absent_in_rest b arities x ws (due + takes b arities w) n.1)

module _ {b : Bounds} (order : UnknownsFirst b) {x : ℕ} (h : x < b.unknown_words) where
  abbrev word : ℕ
  word = b.first_unknown + x

  pub mark_other : (w : ℕ) → w < 2 → eqb w (b.first_unknown + x) ≡ false
  mark_other w l = ne_eqb w (b.first_unknown + x) (λ e. omega (arith, order.after_marks))

  pub functor_other : (k : ℕ) → eqb (b.first_functor + k) (b.first_unknown + x) ≡ false
  functor_other k = ne_eqb (b.first_functor + k) (b.first_unknown + x) (λ e. omega (arith, order.before_functors))

  mutual
    unfolding words occurs holds any

    pub holds_words : (t : Term) → holds (b.first_unknown + x) (words b t) ≡ occurs x t
    holds_words (unknown i) = rw (eqb_shift b.first_unknown i x) (or-false (eqb i x))
    holds_words empty = rw (mark_other 0 (omega arith))
    holds_words (with m r) =
        rw (mark_other 1 (omega arith)) (holds-append (b.first_unknown + x) (words b m) (words b r) ∙ rw (holds_words m, holds_words r))
    holds_words (functor k ts) = rw (functor_other k) (holds-words* ts)

    pub holds-words* : (ts : Terms) → holds (b.first_unknown + x) (words* b ts) ≡ occurs* x ts
    holds-words* none = refl
    holds-words* (more t ts) = holds-append (b.first_unknown + x) (words b t) (words* b ts) ∙ rw (holds_words t, holds-words* ts)

  module _ (s : Term) where
    kept_word : (w : ℕ) → eqb w (b.first_unknown + x) ≡ false → (ws : List ℕ)
        → replaced (b.first_unknown + x) (words b s) (w ∷ ws) ≡ w ∷ replaced (b.first_unknown + x) (words b s) ws
    kept_word w e ws = rw (replaced-cons, image_other (b.first_unknown + x) (words b s) w (eqb-false w (b.first_unknown + x) e))

    mutual
      unfolding words subst

      pub replaced_words : (t : Term) → replaced (b.first_unknown + x) (words b s) (words b t) ≡ words b (subst x s t)
      replaced_words (unknown i) =
          cases (eqb i x)
          (λ e.
          rw (e, replaced-cons, replaced-nil, image_same (b.first_unknown + x) (words b s) (b.first_unknown + i) (ap (λ j. b.first_unknown + j) (eqb-true i x e)))
          (append-nil (words b s)))
          (λ e.
          rw (e, replaced-cons, replaced-nil, image_other (b.first_unknown + x) (words b s) (b.first_unknown + i) (λ q. eqb-false i x e (omega arith))))
      replaced_words empty =
          kept_word EMPTY (mark_other EMPTY (omega arith)) [] ∙ ap (λ ws. EMPTY ∷ ws) (replaced-nil (b.first_unknown + x) (words b s))
      replaced_words (with m r) =
          kept_word MEMBER (mark_other MEMBER (omega arith)) (words b m ++ words b r)
          ∙ ap (λ ws. MEMBER ∷ ws) (replaced-append (b.first_unknown + x) (words b s) (words b m) (words b r) ∙ rw (replaced_words m, replaced_words r))
      replaced_words (functor k ts) =
          kept_word (b.first_functor + k) (functor_other k) (words* b ts) ∙ ap (λ ws. (b.first_functor + k) ∷ ws) (replaced-words* ts)

      pub replaced-words* : (ts : Terms) → replaced (b.first_unknown + x) (words b s) (words* b ts) ≡ words* b (subst* x s ts)
      replaced-words* none = replaced-nil (b.first_unknown + x) (words b s)
      replaced-words* (more t ts) =
          replaced-append (b.first_unknown + x) (words b s) (words b t) (words* b ts) ∙ rw (replaced_words t, replaced-words* ts)
