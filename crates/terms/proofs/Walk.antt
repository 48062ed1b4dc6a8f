-- One law for all walks over words with a counter of terms due (specs/Laws/Walk has the walk to the end of terms): they go past a whole term. So terms end
-- where their words do.
use Rattle.std.specs.Prelude.{ℕ, suc, ◌+◌, ◌≡◌, List, ◌∷◌, ◌++◌}
use Rattle.std.proofs.Common.{ap, ◌∙◌, append_assoc, arith, add-zero, zero-add}
use Rattle.std.proofs.Math.Nat.{add-suc}
use Rattle.std.proofs.Math.ListN.{length, length-append}
use Rattle.terms.specs.Bounds.{Bounds}
use Rattle.terms.specs.Kind.{takes, takes_empty, takes_member, takes_unknown, Worded}
use Rattle.terms.proofs.KindLaws.{takes_functor}
use Rattle.terms.specs.Lists.{All, none, both, All-front, All-back}
use Rattle.terms.specs.Term.{Term, Terms, words, words*, size, size*, count}
use Rattle.terms.specs.Formed.{Formed, Formed*, formed_unknown, formed_empty, formed_with, formed_functor, formed_none, formed_more, row}
use Rattle.terms.specs.Laws.Flat.{length_words}
use Rattle.terms.specs.Laws.Walk.{span, Stands, words_stand, span-zero}

-- F walks over words with so many terms due and a place; it goes past the words of P. Then it goes past a term whose words are of P.
module _ {b : Bounds} {arities : List ℕ} {n : ℕ} (worded : Worded b arities n) {R : Type 0} {P : ℕ → Type 0} (F : List ℕ → ℕ → ℕ → R)
    (step : (w : ℕ) (ws : List ℕ) (d p : ℕ) → P w → F (w ∷ ws) (suc d) p ≡ F ws (d + takes b arities w) (p + 1)) where
  -- past one word, e terms being due after it
  pass : (w : ℕ) (ws : List ℕ) (d e p : ℕ) → P w → d + takes b arities w ≡ e → F (w ∷ ws) (suc d) p ≡ F ws e (p + 1)
  pass w ws d e p s t = step w ws d p s ∙ ap (λ k. F ws k (p + 1)) t

  mutual
    unfolding words size count

    pub past : {t : Term} → Formed arities n t → All P (words b t) → (ws : List ℕ) (d p : ℕ) → F (words b t ++ ws) (suc d) p ≡ F ws d (p + size t)
    past (formed_unknown {i = i} h) (both s none) ws d p = pass _ ws d d p s (omega (arith, takes_unknown worded.proper arities i (omega arith)))
    past formed_empty (both s none) ws d p = pass 0 ws d d p s (omega (arith, takes_empty worded.proper arities))
    past (formed_with {m = m} {r = r} f g) (both s ss) ws d p =
        rw (append_assoc (words b m) (words b r) ws)
        (pass 1 (words b m ++ (words b r ++ ws)) d (suc (suc d)) p s (omega (arith, takes_member worded.proper arities))
        ∙ past f (All-front (words b m) (words b r) ss) (words b r ++ ws) (suc d) (p + 1)
        ∙ past g (All-back (words b m) (words b r) ss) ws d (p + 1 + size m)
        ∙ ap (F ws d) (omega arith))
    past (formed_functor {k = k} {ts = ts} h e f) (both s ss) ws d p =
        pass (b.first_functor + k) (words* b ts ++ ws) d (d + count ts) p s (omega (arith, takes_functor worded.proper arities k (omega arith)))
        ∙ past* f ss ws d (p + 1)
        ∙ ap (F ws d) (omega arith)

    pub past* : {ts : Terms} → Formed* arities n ts → All P (words* b ts) → (ws : List ℕ) (d p : ℕ) → F (words* b ts ++ ws) (d + count ts) p ≡ F ws d (p + size* ts)
    past* formed_none ss ws d p = rw (add-zero d, add-zero p)
    past* (formed_more {t = t} {ts = ts} f g) ss ws d p =
        rw (append_assoc (words b t) (words* b ts) ws, add-suc)
        (past f (All-front (words b t) (words* b ts) ss) (words* b ts ++ ws) (d + count ts) p
        ∙ past* g (All-back (words b t) (words* b ts) ss) ws d (p + size t)
        ∙ ap (F ws d) (omega arith))

span-word : {b : Bounds} {arities : List ℕ} {n : ℕ} (w : ℕ) (l : List ℕ) (e p : ℕ) → Stands b arities n w
    → p + span b arities (w ∷ l) (suc e) ≡ p + 1 + span b arities l (e + takes b arities w)
unfolding span
span-word w l e p s = omega arith

module _ {b : Bounds} {arities : List ℕ} {n : ℕ} (worded : Worded b arities n) where
  pub span_term : {t : Term} → Formed arities n t → (ws : List ℕ) (d : ℕ) → span b arities (words b t ++ ws) (suc d) ≡ size t + span b arities ws d
  span_term f ws d = omega (arith, past worded (λ l e p. p + span b arities l e) span-word f (words_stand f) ws d 0)

  pub span-row : {ts : List Term} → All (Formed arities n) ts → (ws : List ℕ) (d : ℕ) → span b arities (row b ts ++ ws) (d + length ts) ≡ length (row b ts) + span b arities ws d
  unfolding row
  span-row none ws d = rw (add-zero d, zero-add)
  span-row (both {x = t} {xs = ts} f fs) ws d =
      rw (append_assoc (words b t) (row b ts) ws, add-suc d (length ts))
      (span_term f (row b ts ++ ws) (d + length ts) ∙ omega (arith, span-row fs ws d, length-append (words b t) (row b ts), length_words b t))

  pub term_ends : {t : Term} → Formed arities n t → (ws : List ℕ) → span b arities (words b t ++ ws) 1 ≡ size t
  term_ends f ws = span_term f ws 0 ∙ omega (arith, span-zero b arities ws)
