-- Terms and their words, side by side: a term has as many words as symbols, and substitution in a formed term is flat, each word of the unknown
-- giving way to the words of what is put for it.
use Rattle.std.specs.Prelude.{ℕ, ◌+◌, ◌<◌, ◌≡◌, List, [], ◌∷◌, ◌++◌, map, Bool, true, false, cond, eqb, length}
use Rattle.std.proofs.Math.Path.{refl}
use Rattle.std.proofs.Common.{ap, sym, ◌∙◌, append-nil, arith, length-append, eqb-true, ne_eqb, eq-eqb}
use Rattle.std.proofs.lemmas.Bool.{eqb-false}
use Rattle.room.specs.Replaced.{replaced, image, image_other, replaced-cons, replaced-append}
use Rattle.terms.specs.Bounds.{Bounds}
use Rattle.terms.specs.Kind.{Worded, apart_words}
use Rattle.terms.specs.Lists.{All, cases}
use Rattle.terms.specs.Lists as lists
use Rattle.terms.specs.Formed.{Formed, Formed*, formed_unknown, formed_empty, formed_with, formed_functor, formed_none, formed_more, row}
use Rattle.terms.specs.Term.{Term, Terms, unknown, empty, with, functor, none, more, words, words*, size, size*, subst, subst*}

mutual
  unfolding words size

  pub length_words : (b : Bounds) (t : Term) → length (words b t) ≡ size t
  length_words b (unknown i) = refl
  length_words b empty = refl
  length_words b (with m r) = simp (length-append, length_words b m, length_words b r)
  length_words b (functor k ts) = simp (length-words* b ts)

  pub length-words* : (b : Bounds) (ts : Terms) → length (words* b ts) ≡ size* ts
  length-words* b none = refl
  length-words* b (more t ts) = simp (length-append, length_words b t, length-words* b ts)

pub size_positive : (t : Term) → 0 < size t
unfolding size
size_positive (unknown i) = omega arith
size_positive empty = omega arith
size_positive (with m r) = omega arith
size_positive (functor k ts) = omega arith

-- ---- substitution

pub eqb_shift : (n i x : ℕ) → eqb (n + i) (n + x) ≡ eqb i x
eqb_shift n i x = cases (eqb i x) (λ t. rw t (eq-eqb (n + i) (n + x) (ap (λ k. n + k) (eqb-true i x t)))) (λ t. rw t (ne_eqb (n + i) (n + x) (λ e. eqb-false i x t (omega arith))))

words_cond : (b : Bounds) (c : Bool) (s t : Term) → words b (cond c s t) ≡ cond c (words b s) (words b t)
words_cond b true s t = refl
words_cond b false s t = refl

module _ {b : Bounds} {arities : List ℕ} {n : ℕ} (worded : Worded b arities n) (x : ℕ) (h : x < b.unknown_words) (s : Term) where
  -- a word that is another than that of x stays
  stays : (w : ℕ) (ws : List ℕ) → (w ≡ b.first_unknown + x → ⊥) → replaced (b.first_unknown + x) (words b s) (w ∷ ws) ≡ w ∷ replaced (b.first_unknown + x) (words b s) ws
  stays w ws e = replaced-cons _ _ w ws ∙ ap (λ l. l ++ replaced (b.first_unknown + x) (words b s) ws) (image_other _ _ w e)

  mutual
    unfolding words subst replaced image

    pub words_subst : {t : Term} → Formed arities n t → words b (subst x s t) ≡ replaced (b.first_unknown + x) (words b s) (words b t)
    words_subst (formed_unknown {i = i} l) = rw (eqb_shift b.first_unknown i x, append-nil) (words_cond b (eqb i x) s (unknown i))
    words_subst formed_empty = sym (stays 0 [] (λ e. omega arith))
    words_subst (formed_with {m = m} {r = r} f g) =
        rw (stays 1 (words b m ++ words b r) (λ e. omega arith), replaced-append (b.first_unknown + x) (words b s) (words b m) (words b r), words_subst f, words_subst g)
    words_subst (formed_functor {k = k} {ts = ts} l e f) = rw (stays (b.first_functor + k) (words* b ts) (apart_words worded.proper.apart h (omega arith)), words-subst* f)

    pub words-subst* : {ts : Terms} → Formed* arities n ts → words* b (subst* x s ts) ≡ replaced (b.first_unknown + x) (words b s) (words* b ts)
    words-subst* formed_none = refl
    words-subst* (formed_more {t = t} {ts = ts} f g) = rw (words_subst f, words-subst* g, replaced-append (b.first_unknown + x) (words b s) (words b t) (words* b ts))

  pub row-subst : {ts : List Term} → All (Formed arities n) ts → row b (map (subst x s) ts) ≡ replaced (b.first_unknown + x) (words b s) (row b ts)
  unfolding row replaced
  row-subst lists.none = refl
  row-subst (lists.both {x = t} {xs = ts} f fs) = rw (replaced-append (b.first_unknown + x) (words b s) (words b t) (row b ts), words_subst f, row-subst fs)
