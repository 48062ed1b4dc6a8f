-- The walk over the words of a formed term writes the text of the term, or stops at the first word whose bracket stands too deep.
use Rattle.std.specs.Prelude.{ℕ, suc, ◌+◌, ◌≡◌, List, [], ◌∷◌, ◌++◌, length}
use Rattle.std.proofs.Common.{add-zero, arith, ap, ◌∙◌, append_assoc, append-nil, length-append}
use Rattle.std.proofs.Math.Path.{refl, sym}
use Rattle.terms.specs.Bounds.{Bounds}
use Rattle.terms.specs.Kind.{Worded}
use Rattle.terms.specs.Term.{Term, Terms, unknown, empty, with, functor, none, more, words, words*, size, size*, count}
use Rattle.terms.specs.Formed.{Formed, Formed*, formed_unknown, formed_empty, formed_with, formed_functor, formed_none, formed_more}
use Rattle.text.specs.Text.{text, after_member, arguments, after_argument, unknown_name, functor_name}
use Rattle.word_writer.specs.OpenBrackets.{closing, closed}
use Rattle.word_writer.specs.declared.bracket.Bracket.{Bracket}
use Rattle.word_writer.specs.declared.bracket.Bracket.TheVariants.{Member, Rest, Tail, Arguments}
use Rattle.word_writer.specs.Depths.{depths, rest_depths, argument_depths, further_depths}
use Rattle.word_writer.specs.WordByWord.{writes, opens, begins, continues, word, symbol, Walk, prepend, onward, next, walk}
use Rattle.word_writer.specs.declared.begin.Symbol.{Symbol}
use Rattle.word_writer.specs.declared.begin.Symbol.TheVariants.{Empty, Adding, Unknown, Functor}
use Rattle.word_writer.specs.Guarded.{guard, guard-append, guard-prepend, guard_none, prepend-append, prepend-nothing, symbol_empty, symbol_adding, symbol_unknown, symbol_functor, next-after, next-opens}

mutual
  unfolding depths size

  pub length_depths : (n : ℕ) (t : Term) → length (depths n t) ≡ size t
  length_depths n (unknown i) = refl
  length_depths n empty = refl
  length_depths n (with m r) = simp (length-append, length_depths (suc n) m, length-rest_depths (suc n) r)
  length_depths n (functor k ts) = length_argument_depths n ts

  pub length-rest_depths : (n : ℕ) (t : Term) → length (rest_depths n t) ≡ size t
  length-rest_depths n (unknown i) = refl
  length-rest_depths n empty = refl
  length-rest_depths n (with m r) = simp (length-append, length_depths n m, length-rest_depths n r)
  length-rest_depths n (functor k ts) = length_argument_depths n ts

  pub length_argument_depths : (n : ℕ) (ts : Terms) → length (argument_depths n ts) ≡ suc (size* ts)
  length_argument_depths n none = refl
  length_argument_depths n (more t ts) = simp (length-append, length_depths (suc n) t, length-further_depths (suc n) ts)

  pub length-further_depths : (n : ℕ) (ts : Terms) → length (further_depths n ts) ≡ size* ts
  length-further_depths n none = refl
  length-further_depths n (more t ts) = simp (length-append, length_depths n t, length-further_depths n ts)

-- a term is written, and words follow it
unfoldable pub finish : Bounds → List ℕ → ℕ → List ℕ → List Bracket → Walk
finish b arities p ws bs = prepend (closing bs) (onward p (walk b arities p ws) (closed bs))

-- a walk where a term is due: the innermost bracket waits for no rest
pub data Due : List Bracket → Type 0 where
  due_first : Due []
  due_member : {bs : List Bracket} → Due (Member ∷ bs)
  due_tail : {bs : List Bracket} → Due (Tail ∷ bs)
  due_argument : {n : ℕ} {bs : List Bracket} → Due (Arguments n ∷ bs)

word-due : {bs : List Bracket} (limit : ℕ) (s : Symbol) → Due bs → word limit s bs ≡ begins limit s bs
unfolding word
word-due limit s due_first = refl
word-due limit s due_member = refl
word-due limit s due_tail = refl
word-due limit s due_argument = refl

-- what a part of a walk does: bytes are written and the walk goes on as k, unless a bracket at ds stands too deep
pub record Part (limit : ℕ) (x : Walk) (p : ℕ) (ds us : List ℕ) (k : Walk) : Type 0 where
  pub is : x ≡ guard limit p ds (prepend us k)

module _ {limit p : ℕ} {ds us : List ℕ} {x y : Walk} where
  -- two parts, one after the other
  pub chain : {q : ℕ} {es vs : List ℕ} {k k' : Walk} → Part limit x p ds us y → Part limit y q es vs k → p + length ds ≡ q → k ≡ k' → Part limit x p (ds ++ es) (us ++ vs) k'
  chain {q} {es} {vs} {k} {k'} f g e h = record {
    is = f.is
        ∙ ap (λ y. guard limit p ds (prepend us y)) g.is
        ∙ ap (guard limit p ds) (guard-prepend limit q us es (prepend vs k) ∙ ap (guard limit q es) (sym (prepend-append us vs k)))
        ∙ ap (λ q. guard limit p ds (guard limit q es (prepend (us ++ vs) k))) (sym e)
        ∙ sym (guard-append limit p ds es (prepend (us ++ vs) k))
        ∙ ap (λ k. guard limit p (ds ++ es) (prepend (us ++ vs) k)) h;
  }

  pub from : {w : Walk} → w ≡ x → Part limit x p ds us y → Part limit w p ds us y
  from e f = record { is = e ∙ f.is }

  pub spelt : {vs : List ℕ} → us ≡ vs → Part limit x p ds us y → Part limit x p ds vs y
  spelt e f = rw e at f

  pub on_to : {z : Walk} → y ≡ z → Part limit x p ds us y → Part limit x p ds us z
  on_to e f = rw e at f

  -- bytes before a part
  pub before : (vs : List ℕ) → Part limit x p ds us y → Part limit (prepend vs x) p ds (vs ++ us) y
  before vs f = record { is = ap (prepend vs) f.is ∙ guard-prepend limit p vs ds (prepend us y) ∙ ap (guard limit p ds) (sym (prepend-append vs us y)) }

module _ {b : Bounds} {arities : List ℕ} {n : ℕ} (worded : Worded b arities n) where
  abbrev limit : ℕ
  limit = b.nesting

  -- a word that begins a term, and one where the rest of a set is due
  begun : (w : ℕ) (ws : List ℕ) (p : ℕ) {bs : List Bracket} (s : Symbol) → symbol b arities w ≡ s → Due bs → walk b arities p (w ∷ ws) bs ≡ next (begins limit s bs) p (walk b arities (p + 1) ws)
  unfolding walk
  begun w ws p {bs} s e d = rw (e, word-due limit s d)

  continued : (w : ℕ) (ws : List ℕ) (p : ℕ) (bs : List Bracket) (s : Symbol) → symbol b arities w ≡ s
      → walk b arities p (w ∷ ws) (Rest ∷ bs) ≡ next (continues limit s bs) p (walk b arities (p + 1) ws)
  unfolding walk word
  continued w ws p bs s e = rw e

  -- a word that is a term by itself, and one that opens a bracket
  single : (us ws : List ℕ) (p : ℕ) (bs : List Bracket) → Part limit (next (writes (us ++ closing bs) (closed bs)) p (walk b arities (p + 1) ws)) p (0 ∷ []) us (finish b arities (p + 1) ws bs)
  unfolding next finish
  single us ws p bs = record { is = prepend-append us (closing bs) _ ∙ sym (guard_none limit p _) }

  opening : (us : List ℕ) (due : Bracket) (bs : List Bracket) (p : ℕ) (ws : List ℕ)
      → Part limit (next (opens limit us due bs) p (walk b arities (p + 1) ws)) p (suc (length bs) ∷ []) us (walk b arities (p + 1) ws (due ∷ bs))
  opening us due bs p ws = record { is = next-opens limit us due bs p (walk b arities (p + 1) ws) }

  -- where the rest of a set is due: no tail, and a further member
  no_tail : (ws : List ℕ) (p : ℕ) (bs : List Bracket) → Part limit (next (continues limit Empty bs) p (walk b arities (p + 1) ws)) p (0 ∷ []) (125 ∷ []) (finish b arities (p + 1) ws bs)
  unfolding continues closing closed
  no_tail ws p bs = single (125 ∷ []) ws p bs

  further : (ws : List ℕ) (p : ℕ) (bs : List Bracket) → Part limit (next (continues limit Adding bs) p (walk b arities (p + 1) ws)) p (0 ∷ []) (44 ∷ []) (walk b arities (p + 1) ws (Member ∷ bs))
  unfolding continues next onward
  further ws p bs = record { is = sym (guard_none limit p _) }

  moved : {p q : ℕ} (ws : List ℕ) (bs : List Bracket) → p ≡ q → finish b arities p ws bs ≡ finish b arities q ws bs
  moved ws bs e = ap (λ p. finish b arities p ws bs) e

  finish_member : (p : ℕ) (ws : List ℕ) (bs : List Bracket) → finish b arities p ws (Member ∷ bs) ≡ walk b arities p ws (Rest ∷ bs)
  unfolding finish closing closed onward
  finish_member p ws bs = prepend-nothing _

  finish_tail : (p : ℕ) (ws : List ℕ) (bs : List Bracket) → Part limit (finish b arities p ws (Tail ∷ bs)) p [] (125 ∷ []) (finish b arities p ws bs)
  unfolding finish closing closed guard
  finish_tail p ws bs = record { is = prepend-append (125 ∷ []) (closing bs) _ }

  finish-last : (p : ℕ) (ws : List ℕ) (bs : List Bracket) → Part limit (finish b arities p ws (Arguments 0 ∷ bs)) p [] (41 ∷ []) (finish b arities p ws bs)
  unfolding finish closing closed guard
  finish-last p ws bs = record { is = prepend-append (41 ∷ []) (closing bs) _ }

  finish_argument : (m p : ℕ) (ws : List ℕ) (bs : List Bracket) → Part limit (finish b arities p ws (Arguments (suc m) ∷ bs)) p [] (44 ∷ []) (walk b arities p ws (Arguments m ∷ bs))
  unfolding finish closing closed onward guard
  finish_argument m p ws bs = record { is = refl }

  -- the tail of a set: a bar before it, and the closing bracket after it
  tail_over : {p q : ℕ} {ds us : List ℕ} {x : Walk} (ws : List ℕ) (bs : List Bracket) → Part limit x p ds us (finish b arities q ws (Tail ∷ bs)) → p + length ds ≡ q
      → Part limit (prepend (124 ∷ []) x) p ds (124 ∷ (us ++ (125 ∷ []))) (finish b arities q ws bs)
  tail_over {p} {q} {ds} ws bs f e = before (124 ∷ []) (rw (append-nil ds) at (chain f (finish_tail q ws bs) e refl))

  mutual
    unfolding words depths text size count begins continues

    pub over : {t : Term} → Formed arities n t → (ws : List ℕ) (p : ℕ) (bs : List Bracket) → Due bs
        → Part limit (walk b arities p (words b t ++ ws) bs) p (depths (length bs) t) (text t) (finish b arities (p + size t) ws bs)
    over (formed_unknown {i = i} h) ws p bs d =
        from (begun (b.first_unknown + i) ws p (Unknown i) (symbol_unknown arities worded.proper i (omega (arith, worded.unknowns))) d) (single (unknown_name i) ws p bs)
    over formed_empty ws p bs d = from (begun 0 ws p Empty (symbol_empty arities worded.proper) d) (single (123 ∷ 125 ∷ []) ws p bs)
    over (formed_with {m = m} {r = r} f g) ws p bs d =
        rw append_assoc
        (from (begun 1 (words b m ++ (words b r ++ ws)) p Adding (symbol_adding arities worded.proper) d)
        (chain
        (chain (opening (123 ∷ []) Member bs p (words b m ++ (words b r ++ ws)))
        (over f (words b r ++ ws) (p + 1) (Member ∷ bs) due_member) refl (finish_member (p + 1 + size m) (words b r ++ ws) bs))
        (over-rest g ws (p + 1 + size m) bs) (omega (arith, length_depths (suc (length bs)) m)) (moved ws bs (omega arith))))
    over (formed_functor {k = k} {ts = ts} h e f) ws p bs d =
        from (begun (b.first_functor + k) (words* b ts ++ ws) p (Functor k (count ts)) (symbol_functor arities worded.proper k (omega (arith, worded.functors)) ∙ ap (Functor k) (sym e)) d) (over-arguments k f ws p bs)

    pub over-rest : {r : Term} → Formed arities n r → (ws : List ℕ) (p : ℕ) (bs : List Bracket)
        → Part limit (walk b arities p (words b r ++ ws) (Rest ∷ bs)) p (rest_depths (suc (length bs)) r) (after_member r) (finish b arities (p + size r) ws bs)
    over-rest (formed_unknown {i = i} h) ws p bs =
        from (continued (b.first_unknown + i) ws p bs (Unknown i) (symbol_unknown arities worded.proper i (omega (arith, worded.unknowns))) ∙ next-after (124 ∷ []) _ p _)
        (tail_over ws bs (single (unknown_name i) ws p (Tail ∷ bs)) refl)
    over-rest formed_empty ws p bs = from (continued 0 ws p bs Empty (symbol_empty arities worded.proper)) (no_tail ws p bs)
    over-rest (formed_with {m = m} {r = r} f g) ws p bs =
        rw append_assoc
        (from (continued 1 (words b m ++ (words b r ++ ws)) p bs Adding (symbol_adding arities worded.proper))
        (chain
        (chain (further (words b m ++ (words b r ++ ws)) p bs)
        (over f (words b r ++ ws) (p + 1) (Member ∷ bs) due_member) refl (finish_member (p + 1 + size m) (words b r ++ ws) bs))
        (over-rest g ws (p + 1 + size m) bs) (omega (arith, length_depths (suc (length bs)) m)) (moved ws bs (omega arith))))
    over-rest (formed_functor {k = k} {ts = ts} h e f) ws p bs =
        from (continued (b.first_functor + k) (words* b ts ++ ws) p bs (Functor k (count ts)) (symbol_functor arities worded.proper k (omega (arith, worded.functors)) ∙ ap (Functor k) (sym e)) ∙ next-after (124 ∷ []) _ p _)
        (spelt (ap (λ l. 124 ∷ l) (append_assoc (functor_name k) (arguments ts) (125 ∷ [])))
        (tail_over ws bs (over-arguments k f ws p (Tail ∷ bs)) (omega (arith, length_argument_depths (suc (length bs)) ts))))

    -- a functor's word and its arguments
    over-arguments : (k : ℕ) {ts : Terms} → Formed* arities n ts → (ws : List ℕ) (p : ℕ) (bs : List Bracket)
        → Part limit (next (begins limit (Functor k (count ts)) bs) p (walk b arities (p + 1) (words* b ts ++ ws))) p (argument_depths (length bs) ts) (functor_name k ++ arguments ts) (finish b arities (p + suc (size* ts)) ws bs)
    over-arguments k formed_none ws p bs = spelt (sym (append-nil (functor_name k))) (single (functor_name k) ws p bs)
    over-arguments k (formed_more {t = t} {ts = ts} f g) ws p bs =
        rw append_assoc
        (spelt (ap (λ l. l ++ after_argument ts) (append_assoc (functor_name k) (40 ∷ []) (text t)) ∙ append_assoc (functor_name k) (40 ∷ text t) (after_argument ts))
        (chain
        (chain (opening (functor_name k ++ (40 ∷ [])) (Arguments (count ts)) bs p (words b t ++ (words* b ts ++ ws)))
        (over f (words* b ts ++ ws) (p + 1) (Arguments (count ts) ∷ bs) due_argument) refl refl)
        (over-further g ws (p + 1 + size t) bs) (omega (arith, length_depths (suc (length bs)) t)) (moved ws bs (omega arith))))

    -- the arguments after one that is written
    over-further : {ts : Terms} → Formed* arities n ts → (ws : List ℕ) (p : ℕ) (bs : List Bracket)
        → Part limit (finish b arities p (words* b ts ++ ws) (Arguments (count ts) ∷ bs)) p (further_depths (suc (length bs)) ts) (after_argument ts) (finish b arities (p + size* ts) ws bs)
    over-further formed_none ws p bs = on_to (moved ws bs (sym (add-zero p))) (finish-last p ws bs)
    over-further (formed_more {t = t} {ts = ts} f g) ws p bs =
        rw append_assoc
        (chain
        (chain (finish_argument (count ts) p (words b t ++ (words* b ts ++ ws)) bs) (over f (words* b ts ++ ws) p (Arguments (count ts) ∷ bs) due_argument) (add-zero p) refl)
        (over-further g ws (p + size t) bs) (omega (arith, length_depths (suc (length bs)) t)) (moved ws bs (omega arith)))
