-- A term's text is read as the term's words. Each case of the text is a lemma over what is read inside; the induction stands at the end.
use Prim.Native.Nat.{ℕ, zero, suc, ◌+◌, ◌-◌, ◌*◌, ◌≤◌, ◌<◌}
use native.Mathlib.Omega.{arith}
use Rattle.std.specs.Prelude.{◌≡◌, false, eqb}
use Rattle.std.proofs.Math.Path.{refl, sym, ap}
use Rattle.std.proofs.Common.{◌∙◌}
use mathlib.Core.List.{List, [], ◌∷◌, ◌++◌, append_assoc, append-nil}
use borrow.Author.Tests.{lt-ltb, ne_eqb}
use Rattle.std.proofs.Math.ListN.{length, drop, length-append}
use Rattle.terms.specs.Bounds.{Bounds, EMPTY, MEMBER}
use Rattle.terms.specs.Term.{Term, Terms, unknown, empty, with, functor, none, more, words, words*, count, nesting, inside, bracketed, deepest}
use Rattle.terms.specs.Formed.{Formed, Formed*, formed_unknown, formed_with, formed_functor, formed_more}
use Rattle.text.specs.Text.{decimal, unknown_name, functor_name, text, after_member, arguments, after_argument}
use Rattle.numerals.specs.TextReading.{Reading, read, and_then, then-read}
use Rattle.numerals.specs.Bytes.{byte, in_text}
use Rattle.items.specs.Items.{Coming, due, done, symbol, due_member, due_tail, close_empty, a_set, beginning, after, after_tail, after_member as member_passed, after_argument as argument_passed}
use Rattle.items.specs.Items as items
use Rattle.term_reader.specs.Terms.{follow, term, list, term_step, list_step}
use Rattle.items.specs.declared.item.Item.{Item}
use Rattle.items.specs.declared.item.Item.TheVariants.{Member, Tail, Argument}
use Rattle.roundtrip.specs.Suffix.{first_byte, after-byte, after_bytes}
use Rattle.roundtrip.specs.Decimals.{Ends, early}
use Rattle.roundtrip.specs.Names.{Closed, set_close, closed-ends, closed-bracket, after-closed, argument_closed, text_begun, begun_begins, begun_no_close, unknown_begins, functor_begins}

same : {p q : ℕ} {us vs : List ℕ} → p ≡ q → us ≡ vs → read p us ≡ read q vs
same e f = rw (e, f)

module _ (b : Bounds) (s : List ℕ) (n : ℕ) (arities : List ℕ) (few : n ≤ 100000) (table : length arities ≤ 100000) where
  abbrev Go : ℕ → ℕ → Reading Coming → Reading (List ℕ)
  Go fuel depth X = and_then X (follow (λ i q vs. list b s n arities fuel depth i q vs))

  -- at p stands the text w of something with the words us, and there is room for them
  pub record Stands (p : ℕ) (w r ws us : List ℕ) (fuel : ℕ) : Type 0 where
    pub there : drop p s ≡ w ++ r
    pub room : length ws + length us ≤ b.symbols
    pub fueled : 2 * (length s - p) < fuel

  abbrev pub TextReads : Term → Type 0
  TextReads t = (fuel depth p : ℕ) (ws r : List ℕ) → Stands p (text t) r ws (words b t) fuel → Closed r → Formed arities n t → depth + nesting t ≤ b.nesting
      → term b s n arities fuel depth p ws ≡ read (p + length (text t)) (ws ++ words b t)

  abbrev pub AfterReads : Term → Type 0
  AfterReads t = (fuel depth p : ℕ) (ws r : List ℕ) → Stands p (after_member t) r ws (words b t) fuel → Formed arities n t → depth + inside t ≤ b.nesting
      → Go fuel depth (after b s Member p ws) ≡ read (p + length (after_member t)) (ws ++ words b t)

  abbrev pub OpenedReads : Terms → Type 0
  OpenedReads ts = (fuel depth p : ℕ) (ws r : List ℕ) → Stands p (arguments ts) r ws (words* b ts) fuel → Closed r → Formed* arities n ts → depth + bracketed ts ≤ b.nesting
      → Go fuel (depth + 1) (items.arguments b s depth (count ts) p ws) ≡ read (p + length (arguments ts)) (ws ++ words* b ts)

  abbrev pub PassedReads : Terms → Type 0
  PassedReads ts = (fuel depth p : ℕ) (ws r : List ℕ) → Stands p (after_argument ts) r ws (words* b ts) fuel → Formed* arities n ts → depth + deepest ts ≤ b.nesting
      → Go fuel depth (after b s (Argument (count ts)) p ws) ≡ read (p + length (after_argument ts)) (ws ++ words* b ts)

  -- ---- a step of each reader

  term_begun : (fuel depth p : ℕ) (ws : List ℕ) (q : ℕ) (c : Coming) (X : Reading (List ℕ)) → 0 < fuel → beginning b s n arities depth p ws ≡ read q c
      → ((f : ℕ) → fuel ≡ suc f → follow (λ i q vs. list b s n arities f (depth + 1) i q vs) q c ≡ X) → term b s n arities fuel depth p ws ≡ X
  term_begun zero depth p ws q c X h B k = absurd (omega arith)
  term_begun (suc f) depth p ws q c X h B k = term_step b s n arities f depth p ws ∙ then-read _ B ∙ k f refl

  list_item : (fuel depth : ℕ) (i : Item) (p : ℕ) (ws : List ℕ) (q : ℕ) (vs : List ℕ) (X : Reading (List ℕ)) → 0 < fuel
      → ((f : ℕ) → fuel ≡ suc f → (term b s n arities f depth p ws ≡ read q vs) × (Go f depth (after b s i q vs) ≡ X)) → list b s n arities fuel depth i p ws ≡ X
  list_item zero depth i p ws q vs X h k = absurd (omega arith)
  list_item (suc f) depth i p ws q vs X h k = let w = k f refl in list_step b s n arities f depth i p ws ∙ then-read _ w.0 ∙ w.1

  with_room : (m t : Term) (ws : List ℕ) → length ws + length (words b (with m t)) ≤ b.symbols → length ws < b.symbols
  unfolding words
  with_room m t ws h = omega arith

  arguments-end : (ts : Terms) (r : List ℕ) → Closed r → Ends (arguments ts ++ r)
  unfolding arguments
  arguments-end none r x = closed-ends x
  arguments-end (more t ts) r x = early {b = 40} (omega arith)

  -- ---- terms

  unknown_read : (i : ℕ) → TextReads (unknown i)
  unfolding text words follow
  unknown_read i fuel depth p ws r S x (formed_unknown h) d =
      term_begun fuel depth p ws _ _ _ (omega (arith, S.fueled))
      (unknown_begins b s n arities depth p ws (omega (arith, S.room)) i r h few (closed-ends x) S.there) (λ f e. refl)

  empty_read : TextReads empty
  unfolding text words follow beginning a_set close_empty symbol
  empty_read fuel depth p ws r S x F d =
      let z : p + 1 + 1 ≡ p + 2 = omega arith in
      term_begun fuel depth p ws (p + 2) (done (ws ++ (EMPTY ∷ []))) _ (omega (arith, S.fueled))
      (rw (first_byte s p 123 (125 ∷ r) S.there, first_byte s (p + 1) 125 r (after-byte s p 123 (125 ∷ r) S.there), lt-ltb (length ws) b.symbols (omega (arith, S.room)), z))
      (λ f e. refl)

  term_go : (fuel depth p : ℕ) (ws : List ℕ) (X : Reading Coming) (Y : Reading (List ℕ)) → 0 < fuel → beginning b s n arities depth p ws ≡ X
      → ((f : ℕ) → fuel ≡ suc f → Go f (depth + 1) X ≡ Y) → term b s n arities fuel depth p ws ≡ Y
  term_go zero depth p ws X Y h B k = absurd (omega arith)
  term_go (suc f) depth p ws X Y h B k =
      term_step b s n arities f depth p ws ∙ ap (λ (X : Reading Coming). Go f (depth + 1) X) B ∙ k f refl

  functor_read : (k : ℕ) (ts : Terms) → OpenedReads ts → TextReads (functor k ts)
  unfolding text words nesting functor_name
  functor_read k ts O fuel depth p ws r S x (formed_functor h c ft) d =
      let e : drop p s ≡ functor_name k ++ (arguments ts ++ r) = S.there ∙ append_assoc (functor_name k) (arguments ts) r in
      let i : p < length s = in_text s p (omega (arith, first_byte s p 102 ((decimal k ++ arguments ts) ++ r) S.there)) in
      let lt = length-append (decimal k) (arguments ts) in
      let l1 = length-append ws ((b.first_functor + k) ∷ []) in
      term_go fuel depth p ws _ _ (omega (arith, S.fueled))
      (functor_begins b s n arities depth p ws (omega (arith, S.room)) k (arguments ts ++ r) h table (arguments-end ts r x) e)
      (λ f z. rw (← c) (O f depth (p + length (functor_name k)) (ws ++ ((b.first_functor + k) ∷ [])) r
      (record { there = after_bytes s p (functor_name k) (arguments ts ++ r) e; room = omega (arith, S.room); fueled = omega (arith, S.fueled) }) x ft d
      ∙ same (omega arith) (simp append_assoc)))

  -- ---- members

  -- a member at p, whose adding was counted, and what follows it
  member_list : (m t : Term) → TextReads m → AfterReads t → (fuel depth p : ℕ) (ws r : List ℕ) → drop p s ≡ text m ++ (after_member t ++ r)
      → length ws + length (words b (with m t)) ≤ b.symbols → 2 * (length s - p) + 1 < fuel → Formed arities n m → Formed arities n t
      → depth + nesting m ≤ b.nesting → depth + inside t ≤ b.nesting
      → list b s n arities fuel depth Member p (ws ++ (MEMBER ∷ [])) ≡ read (p + length (text m) + length (after_member t)) (ws ++ words b (with m t))
  unfolding words
  member_list m t M A fuel depth p ws r e k z fm ft dm dt =
      let lw = length-append (words b m) (words b t) in
      let l1 = length-append ws (MEMBER ∷ []) in
      let l2 = length-append (ws ++ (MEMBER ∷ [])) (words b m) in
      list_item fuel depth Member p (ws ++ (MEMBER ∷ [])) (p + length (text m)) ((ws ++ (MEMBER ∷ [])) ++ words b m) _ (omega arith)
      (λ g y. (
        M g depth p (ws ++ (MEMBER ∷ [])) (after_member t ++ r) (record { there = e; room = omega arith; fueled = omega arith }) (after-closed t r) fm dm,
        A g depth (p + length (text m)) ((ws ++ (MEMBER ∷ [])) ++ words b m) r
            (record { there = after_bytes s p (text m) (after_member t ++ r) e; room = omega arith; fueled = omega arith }) ft dt
            ∙ same refl (simp append_assoc),
      ))

  with_read : (m t : Term) → TextReads m → AfterReads t → TextReads (with m t)
  unfolding text nesting follow beginning a_set due_member symbol
  with_read m t M A fuel depth p ws r S x (formed_with fm ft) d =
      let e : drop (p + 1) s ≡ text m ++ (after_member t ++ r) = after-byte s p 123 ((text m ++ after_member t) ++ r) S.there ∙ append_assoc (text m) (after_member t) r in
      let i : p < length s = in_text s p (omega (arith, first_byte s p 123 ((text m ++ after_member t) ++ r) S.there)) in
      let lt = length-append (text m) (after_member t) in
      let g = begun_begins s (p + 1) (text_begun m (after_member t ++ r)) e in
      term_begun fuel depth p ws (p + 1) (due Member (ws ++ (MEMBER ∷ []))) _ (omega (arith, S.fueled))
      (rw (
        first_byte s p 123 ((text m ++ after_member t) ++ r) S.there,
        begun_no_close s (p + 1) (text_begun m (after_member t ++ r)) e,
        lt-ltb depth b.nesting (omega arith),
        g,
        lt-ltb (length ws) b.symbols (with_room m t ws S.room),
      ))
      (λ f z. member_list m t M A f (depth + 1) (p + 1) ws r e S.room (omega (arith, S.fueled)) fm ft (omega arith) (omega arith) ∙ same (omega arith) refl)

  after_with : (m t : Term) → TextReads m → AfterReads t → AfterReads (with m t)
  unfolding after_member inside follow after member_passed due_member symbol
  after_with m t M A fuel depth p ws r S (formed_with fm ft) d =
      let e : drop (p + 1) s ≡ text m ++ (after_member t ++ r) = after-byte s p 44 ((text m ++ after_member t) ++ r) S.there ∙ append_assoc (text m) (after_member t) r in
      let i : p < length s = in_text s p (omega (arith, first_byte s p 44 ((text m ++ after_member t) ++ r) S.there)) in
      let lt = length-append (text m) (after_member t) in
      let g = begun_begins s (p + 1) (text_begun m (after_member t ++ r)) e in
      then-read {X = after b s Member p ws} _ {p = p + 1} {a = due Member (ws ++ (MEMBER ∷ []))}
      (rw (first_byte s p 44 ((text m ++ after_member t) ++ r) S.there, g, lt-ltb (length ws) b.symbols (with_room m t ws S.room)))
      ∙ (member_list m t M A fuel depth (p + 1) ws r e S.room (omega (arith, S.fueled)) fm ft (omega arith) (omega arith) ∙ same (omega arith) refl)

  after_empty : AfterReads empty
  unfolding after_member words follow after member_passed close_empty symbol
  after_empty fuel depth p ws r S F d =
      then-read {X = after b s Member p ws} _ {p = p + 1} {a = done (ws ++ (EMPTY ∷ []))}
      (rw (first_byte s p 125 r S.there, lt-ltb (length ws) b.symbols (omega (arith, S.room))))

  -- a bar, a term that is no set, and the closing bracket
  tail_read : (t : Term) → TextReads t → (fuel depth p : ℕ) (ws r : List ℕ) → drop p s ≡ 124 ∷ (text t ++ (125 ∷ r)) → eqb (byte s (p + 1)) 123 ≡ false
      → length ws + length (words b t) ≤ b.symbols → 2 * (length s - p) < fuel → Formed arities n t → depth + nesting t ≤ b.nesting
      → Go fuel depth (after b s Member p ws) ≡ read (p + 1 + length (text t) + 1) (ws ++ words b t)
  unfolding follow after member_passed due_tail after_tail
  tail_read t T fuel depth p ws r e o k z F d =
      let e1 : drop (p + 1) s ≡ text t ++ (125 ∷ r) = after-byte s p 124 (text t ++ (125 ∷ r)) e in
      let e2 : drop (p + 1 + length (text t)) s ≡ 125 ∷ r = after_bytes s (p + 1) (text t) (125 ∷ r) e1 in
      let i : p < length s = in_text s p (omega (arith, first_byte s p 124 (text t ++ (125 ∷ r)) e)) in
      then-read {X = after b s Member p ws} _ {p = p + 1} {a = due Tail ws} (rw (first_byte s p 124 (text t ++ (125 ∷ r)) e, o))
      ∙ list_item fuel depth Tail (p + 1) ws (p + 1 + length (text t)) (ws ++ words b t) _ (omega arith)
      (λ g y. (
        T g depth (p + 1) ws (125 ∷ r) (record { there = e1; room = k; fueled = omega arith }) set_close F d,
        then-read {X = after b s Tail (p + 1 + length (text t)) (ws ++ words b t)} _ {p = p + 1 + length (text t) + 1} {a = done (ws ++ words b t)}
            (rw (first_byte s (p + 1 + length (text t)) 125 r e2)),
      ))

  after_unknown : (i : ℕ) → AfterReads (unknown i)
  unfolding text after_member inside nesting unknown_name
  after_unknown i fuel depth p ws r S F d =
      let e : drop p s ≡ 124 ∷ (text (unknown i) ++ (125 ∷ r)) = S.there ∙ ap (λ (l : List ℕ). 124 ∷ 120 ∷ l) (append_assoc (decimal i) (125 ∷ []) r) in
      let lt = length-append (decimal i) (125 ∷ []) in
      tail_read (unknown i) (unknown_read i) fuel depth p ws r e (rw (first_byte s (p + 1) 120 (decimal i ++ (125 ∷ r)) (after-byte s p 124 (text (unknown i) ++ (125 ∷ r)) e)))
      S.room S.fueled F d
      ∙ same (omega arith) refl

  after_functor : (k : ℕ) (ts : Terms) → OpenedReads ts → AfterReads (functor k ts)
  unfolding text after_member inside nesting functor_name
  after_functor k ts O fuel depth p ws r S F d =
      let q : (decimal k ++ (arguments ts ++ (125 ∷ []))) ++ r ≡ (decimal k ++ arguments ts) ++ (125 ∷ r) =
      append_assoc (decimal k) (arguments ts ++ (125 ∷ [])) r ∙ ap (λ (l : List ℕ). decimal k ++ l) (append_assoc (arguments ts) (125 ∷ []) r) ∙ sym (append_assoc (decimal k) (arguments ts) (125 ∷ r)) in
      let e : drop p s ≡ 124 ∷ (text (functor k ts) ++ (125 ∷ r)) = S.there ∙ ap (λ (l : List ℕ). 124 ∷ 102 ∷ l) q in
      let l1 = length-append (decimal k) (arguments ts ++ (125 ∷ [])) in
      let l2 = length-append (arguments ts) (125 ∷ []) in
      let l3 = length-append (decimal k) (arguments ts) in
      tail_read (functor k ts) (functor_read k ts O) fuel depth p ws r e (rw (first_byte s (p + 1) 102 ((decimal k ++ arguments ts) ++ (125 ∷ r)) (after-byte s p 124 (text (functor k ts) ++ (125 ∷ r)) e)))
      S.room S.fueled F d
      ∙ same (omega arith) refl

  -- ---- arguments

  argument_list : (t : Term) (ts : Terms) → TextReads t → PassedReads ts → (fuel depth p : ℕ) (ws r : List ℕ) → drop p s ≡ text t ++ (after_argument ts ++ r)
      → length ws + length (words* b (more t ts)) ≤ b.symbols → 2 * (length s - p) + 1 < fuel → Formed arities n t → Formed* arities n ts
      → depth + nesting t ≤ b.nesting → depth + deepest ts ≤ b.nesting
      → list b s n arities fuel depth (Argument (count ts)) p ws ≡ read (p + length (text t) + length (after_argument ts)) (ws ++ words* b (more t ts))
  unfolding words
  argument_list t ts T P fuel depth p ws r e k z ft fts dt dts =
      let lw = length-append (words b t) (words* b ts) in
      let l1 = length-append ws (words b t) in
      list_item fuel depth (Argument (count ts)) p ws (p + length (text t)) (ws ++ words b t) _ (omega arith)
      (λ g y. (
        T g depth p ws (after_argument ts ++ r) (record { there = e; room = omega arith; fueled = omega arith }) (argument_closed ts r) ft dt,
        P g depth (p + length (text t)) (ws ++ words b t) r
            (record { there = after_bytes s p (text t) (after_argument ts ++ r) e; room = omega arith; fueled = omega arith }) fts dts
            ∙ same refl (simp append_assoc),
      ))

  opened_none : OpenedReads none
  unfolding text words count follow items.arguments
  opened_none fuel depth p ws r S x F d =
      then-read {X = items.arguments b s depth 0 p ws} _ {p = p} {a = done ws} (rw (closed-bracket s p x S.there))
      ∙ same (omega arith) (sym (append-nil ws))

  opened_more : (t : Term) (ts : Terms) → TextReads t → PassedReads ts → OpenedReads (more t ts)
  unfolding text nesting count follow items.arguments
  opened_more t ts T P fuel depth p ws r S x (formed_more ft fts) d =
      let e : drop (p + 1) s ≡ text t ++ (after_argument ts ++ r) = after-byte s p 40 ((text t ++ after_argument ts) ++ r) S.there ∙ append_assoc (text t) (after_argument ts) r in
      let i : p < length s = in_text s p (omega (arith, first_byte s p 40 ((text t ++ after_argument ts) ++ r) S.there)) in
      let lt = length-append (text t) (after_argument ts) in
      let z : suc (count ts) - 1 ≡ count ts = omega arith in
      then-read {X = items.arguments b s depth (suc (count ts)) p ws} _ {p = p + 1} {a = due (Argument (count ts)) ws}
      (rw (first_byte s p 40 ((text t ++ after_argument ts) ++ r) S.there, ne_eqb (suc (count ts)) 0 (λ z. omega arith), lt-ltb depth b.nesting (omega arith), z))
      ∙ (argument_list t ts T P fuel (depth + 1) (p + 1) ws r e S.room (omega (arith, S.fueled)) ft fts (omega arith) (omega arith) ∙ same (omega arith) refl)

  passed_none : PassedReads none
  unfolding text words count follow after argument_passed
  passed_none fuel depth p ws r S F d =
      then-read {X = after b s (Argument 0) p ws} _ {p = p + 1} {a = done ws} (rw (first_byte s p 41 r S.there))
      ∙ same refl (sym (append-nil ws))

  passed_more : (t : Term) (ts : Terms) → TextReads t → PassedReads ts → PassedReads (more t ts)
  unfolding text nesting count follow after argument_passed
  passed_more t ts T P fuel depth p ws r S (formed_more ft fts) d =
      let e : drop (p + 1) s ≡ text t ++ (after_argument ts ++ r) = after-byte s p 44 ((text t ++ after_argument ts) ++ r) S.there ∙ append_assoc (text t) (after_argument ts) r in
      let i : p < length s = in_text s p (omega (arith, first_byte s p 44 ((text t ++ after_argument ts) ++ r) S.there)) in
      let lt = length-append (text t) (after_argument ts) in
      let z : suc (count ts) - 1 ≡ count ts = omega arith in
      then-read {X = after b s (Argument (suc (count ts))) p ws} _ {p = p + 1} {a = due (Argument (count ts)) ws}
      (rw (first_byte s p 44 ((text t ++ after_argument ts) ++ r) S.there, ne_eqb (suc (count ts)) 0 (λ z. omega arith), z))
      ∙ (argument_list t ts T P fuel depth (p + 1) ws r e S.room (omega (arith, S.fueled)) ft fts (omega arith) (omega arith) ∙ same (omega arith) refl)

  -- ---- every term

  mutual
    pub text_reads : (t : Term) → TextReads t
    text_reads (unknown i) = unknown_read i
    text_reads empty = empty_read
    text_reads (with m t) = with_read m t (text_reads m) (after_reads t)
    text_reads (functor k ts) = functor_read k ts (opened_reads ts)

    after_reads : (t : Term) → AfterReads t
    after_reads (unknown i) = after_unknown i
    after_reads empty = after_empty
    after_reads (with m t) = after_with m t (text_reads m) (after_reads t)
    after_reads (functor k ts) = after_functor k ts (opened_reads ts)

    opened_reads : (ts : Terms) → OpenedReads ts
    opened_reads none = opened_none
    opened_reads (more t ts) = opened_more t ts (text_reads t) (passed_reads ts)

    passed_reads : (ts : Terms) → PassedReads ts
    passed_reads none = passed_none
    passed_reads (more t ts) = passed_more t ts (text_reads t) (passed_reads ts)
