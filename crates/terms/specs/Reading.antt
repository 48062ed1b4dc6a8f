-- Words read back to terms, from the right and with a stack: a word takes its arguments off the stack and puts its term on it. A question so read.
-- Then unique reading: the words of formed terms read back to those terms, with whatever words after them.
use Rattle.std.specs.Prelude.{ℕ, zero, suc, ◌+◌, ◌≡◌, get_or, drop}
use Rattle.std.proofs.Math.Path.{refl, ap}
use Rattle.std.proofs.Common.{sym, ◌∙◌, arith}
use mathlib.Core.List.{List, [], ◌∷◌, ◌++◌, append_assoc, append-nil, append_cancel_left}
use Rattle.terms.specs.Bounds.{Bounds, EMPTY, MEMBER}
use Rattle.terms.specs.Kind.{kind, kind_unknown, kind_functor, Worded}
use Rattle.terms.specs.declared.kind.Kind.{Kind}
use Rattle.terms.specs.declared.kind.Kind.TheVariants.{Empty, Member, Unknown, Functor, Nothing}
use Rattle.terms.specs.Lists.{All, none, both}
use Rattle.terms.specs.Term.{Term, Terms, unknown, empty, with, functor, more, words, words*, list, count}
use Rattle.terms.specs.Term as term
use Rattle.terms.specs.Formed.{Formed, Formed*, formed_unknown, formed_empty, formed_with, formed_functor, formed_none, formed_more, row, Equation, Question}

-- the term on top of a stack; an empty stack has the empty set
unfoldable pub top : List Term → Term
top [] = empty
top (t ∷ ts) = t

-- the first n of a stack, as arguments
unfoldable pub taken : ℕ → List Term → Terms
taken zero ts = term.none
taken (suc n) ts = more (top ts) (taken n (drop 1 ts))

unfoldable pub push : List ℕ → Kind → List Term → List Term
push arities Empty ts = empty ∷ ts
push arities Member ts = with (top ts) (top (drop 1 ts)) ∷ drop 2 ts
push arities (Unknown i) ts = unknown i ∷ ts
push arities (Functor k) ts = functor k (taken (get_or arities k 0) ts) ∷ drop (get_or arities k 0) ts
push arities Nothing ts = ts

unfoldable pub read : Bounds → List ℕ → List ℕ → List Term
read b arities [] = []
read b arities (w ∷ ws) = push arities (kind b w) (read b arities ws)

-- terms in pairs, left and right
unfoldable pub paired : List Term → List Equation
paired [] = []
paired (t ∷ []) = []
paired (t ∷ u ∷ ts) = record { left = t; right = u } ∷ paired ts

unfoldable pub question_of : Bounds → (unknowns : ℕ) (arities : List ℕ) → List ℕ → Question
question_of b unknowns arities ws = record { unknowns = unknowns; arities = arities; equations = paired (read b arities ws) }

-- ---- unique reading

taken-list : (ts : Terms) (us : List Term) → taken (count ts) (list ts ++ us) ≡ ts
unfolding taken count list top
taken-list term.none us = refl
taken-list (more t ts) us = ap (more t) (taken-list ts us)

drop-list : (ts : Terms) (us : List Term) → drop (count ts) (list ts ++ us) ≡ us
unfolding count list
drop-list term.none us = refl
drop-list (more t ts) us = drop-list ts us

-- a word in front, its kind and the stack behind it being known
push-word : (b : Bounds) (arities : List ℕ) (w : ℕ) (ws : List ℕ) {k : Kind} {ts : List Term} → kind b w ≡ k → read b arities ws ≡ ts → read b arities (w ∷ ws) ≡ push arities k ts
unfolding read
push-word b arities w ws p q = rw (p, q)

module _ {b : Bounds} {arities : List ℕ} {n : ℕ} (worded : Worded b arities n) where
  mutual
    unfolding words list push kind top

    pub read_words : {t : Term} (ws : List ℕ) → Formed arities n t → read b arities (words b t ++ ws) ≡ t ∷ read b arities ws
    read_words ws (formed_unknown {i = i} h) = push-word b arities (b.first_unknown + i) ws (kind_unknown worded.proper i (omega arith)) refl
    read_words ws formed_empty = push-word b arities EMPTY ws refl refl
    read_words ws (formed_with {m = m} {r = r} f g) =
        rw append_assoc (push-word b arities MEMBER (words b m ++ (words b r ++ ws)) {ts = m ∷ r ∷ read b arities ws} refl (read_words (words b r ++ ws) f ∙ ap (λ us. m ∷ us) (read_words ws g)))
    read_words ws (formed_functor {k = k} {ts = ts} h e f) =
        push-word b arities (b.first_functor + k) (words* b ts ++ ws) (kind_functor worded.proper k (omega arith)) (read-words* ws f)
        ∙ rw (← e, taken-list ts (read b arities ws), drop-list ts (read b arities ws))

    pub read-words* : {ts : Terms} (ws : List ℕ) → Formed* arities n ts → read b arities (words* b ts ++ ws) ≡ list ts ++ read b arities ws
    read-words* ws formed_none = refl
    read-words* ws (formed_more {t = t} {ts = ts} f g) = rw append_assoc (read_words (words* b ts ++ ws) f ∙ ap (λ us. t ∷ us) (read-words* ws g))

  pub read-row : {ts : List Term} (ws : List ℕ) → All (Formed arities n) ts → read b arities (row b ts ++ ws) ≡ ts ++ read b arities ws
  unfolding row
  read-row ws none = refl
  read-row ws (both {x = t} {xs = ts} f fs) = rw append_assoc (read_words (row b ts ++ ws) f ∙ ap (λ us. t ∷ us) (read-row ws fs))

  pub row_read : {ts : List Term} → All (Formed arities n) ts → read b arities (row b ts) ≡ ts
  unfolding read
  row_read {ts} fs = ap (read b arities) (sym (append-nil (row b ts))) ∙ read-row [] fs ∙ append-nil ts

  -- a formed term's words determine it, and the words after them
  pub words_determine : {t u : Term} {vs ws : List ℕ} → Formed arities n t → Formed arities n u → words b t ++ vs ≡ words b u ++ ws → (t ≡ u) × (vs ≡ ws)
  words_determine {t} {u} {vs} {ws} f g e =
      let h : t ∷ read b arities vs ≡ u ∷ read b arities ws = sym (read_words vs f) ∙ ap (read b arities) e ∙ read_words ws g in
      let same : t ≡ u = cc in
      (same, append_cancel_left (words b t) vs ws (e ∙ ap (λ s. words b s ++ ws) (sym same)))

  pub row_determines : {ts us : List Term} → All (Formed arities n) ts → All (Formed arities n) us → row b ts ≡ row b us → ts ≡ us
  row_determines fs gs e = sym (row_read fs) ∙ ap (read b arities) e ∙ row_read gs
