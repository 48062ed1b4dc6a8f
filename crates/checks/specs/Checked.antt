-- What the walk of the check tells. It finds nothing wrong exactly where the words are those of formed terms, bindings and answers, as many as
-- are due: `held`, from the words to what they hold; `fine_terms`, `fine_bindings` and `fine_list`, back.
use Prim.Native.Nat.{ℕ, zero, suc, ◌+◌, ◌<◌}
use Rattle.std.specs.Prelude.{◌≡◌, Bool, true, false, cond, eqb, ltb, length, drop, Err, Ok}
use Rattle.std.proofs.Math.Path.{refl, ap}
use Rattle.std.proofs.Common.{◌∙◌, arith}
use mathlib.Core.List.{List, [], ◌∷◌, ◌++◌, append_assoc, append-nil}
use Rattle.std.proofs.Math.ListN.{length-drop}
use borrow.Author.Tests.{lt-ltb, ltb-true, eqb-true}
use Rattle.terms.specs.Answers.{Binding, binding_words, answer_words, listed}
use Rattle.terms.specs.Bounds.{Bounds, Proper}
use Rattle.checks.specs.Check.{checked, follow, follows, after, refused, Checked, Follow}
use Rattle.terms.specs.Kind.{kind, takes, kind_unknown, kind_functor, takes_empty, takes_member, takes_unknown, Worded}
use Rattle.terms.proofs.KindLaws.{takes_functor}
use Rattle.terms.specs.Listing.{Bound, Parts, parts, nothing, term_word, name_word, count_word, list_words}
use Rattle.terms.specs.Lists.{All, none, both}
use Rattle.terms.specs.Term.{Term, words, size}
use Rattle.terms.specs.Formed.{Formed, row}
use Rattle.checks.specs.Pushed.{pushed, formed_top, formed_drop}
use Rattle.terms.specs.Reading.{top}
use Rattle.terms.specs.Laws.Walk.{Stands, stands_empty, stands_member, stands_unknown, stands_functor, words_stand}
use Rattle.terms.proofs.Walk.{past}
use Rattle.terms.specs.declared.refusal.Cause.{Cause}
use Rattle.terms.specs.declared.refusal.Cause.TheVariants.{WordsStop, WordsUndeclared}

-- the words hold these parts
pub record Held (b : Bounds) (arities : List ℕ) (n : ℕ) (ws : List ℕ) (a k t : ℕ) (r : Parts) : Type 0 where
  pub terms : length r.terms ≡ t
  pub bindings : length r.bindings ≡ k
  pub answers : length r.answers ≡ a
  pub formed_terms : All (Formed arities n) r.terms
  pub formed_bindings : All (Bound arities n) r.bindings
  pub formed_answers : All (All (Bound arities n)) r.answers
  pub worded : row b r.terms ++ (binding_words b r.bindings ++ list_words b r.answers) ≡ ws

-- ---- from a check that is fine

pub never_fine : {P : Type 0} {cause : Cause} {place : ℕ} → refused cause place ≡ Ok tt → P
never_fine e = let z : ◌≡◌ {A = ℕ} 0 1 = cc in absurd (omega arith)

fine_if : (c : Bool) (r : Checked) (cause : Cause) (place : ℕ) → cond c r (refused cause place) ≡ Ok tt → (c ≡ true) × (r ≡ Ok tt)
fine_if true r cause place e = (refl, e)
fine_if false r cause place e = never_fine e

goes_on : (f : Follow) (place : ℕ) (on : ℕ → Checked) → after f place on ≡ Ok tt → (m : ℕ) × (f ≡ Ok m) × (on m ≡ Ok tt)
unfolding after
goes_on (Ok m) place on e = (m, refl, e)
goes_on (Err cause) place on e = never_fine e

-- the one term on the stack is a binding's value
value_words : (b : Bounds) (w : ℕ) (ts : List Term) (bs ls : List ℕ) → length ts ≡ 1 → row b (drop 1 ts) ++ (w ∷ ((words b (top ts) ++ bs) ++ ls)) ≡ w ∷ (row b ts ++ (bs ++ ls))
unfolding row top
value_words b w [] bs ls h = absurd (omega arith)
value_words b w (t ∷ []) bs ls h = rw (append-nil (words b t), append_assoc (words b t) bs ls)
value_words b w (t ∷ u ∷ ts) bs ls h = absurd (omega arith)

no_words : (b : Bounds) (ts : List Term) → length ts ≡ 0 → row b ts ≡ []
unfolding row
no_words b [] h = refl
no_words b (t ∷ ts) h = absurd (omega arith)

module _ {b : Bounds} (proper : Proper b) (arities : List ℕ) (n : ℕ) where
  held_term : (w : ℕ) (ws : List ℕ) (a k t m : ℕ) → follow b arities n w ≡ Ok m → Held b arities n ws a k (t + m) (parts b arities ws a k (t + m))
      → Held b arities n (w ∷ ws) a k (suc t) (term_word b arities w (parts b arities ws a k (t + takes b arities w)))
  unfolding term_word
  held_term w ws a k t m f h =
      let u = pushed proper arities n w m (parts b arities ws a k (t + m)).terms h.formed_terms (omega arith) f in
      rw u.follows
      (record {
        terms = omega (arith, u.one_more);
        bindings = h.bindings;
        answers = h.answers;
        formed_terms = u.formed;
        formed_bindings = h.formed_bindings;
        formed_answers = h.formed_answers;
        worded = rw u.worded (ap (λ l. w ∷ l) h.worded);
      })

  held-name : (w : ℕ) (ws : List ℕ) (a k : ℕ) (r : Parts) → w < n → Held b arities n ws a k 1 r → Held b arities n (w ∷ ws) a (suc k) 0 (name_word w r)
  unfolding name_word binding_words
  held-name w ws a k r below h =
      record {
        terms = omega (arith, length-drop 1 r.terms);
        bindings = omega arith;
        answers = h.answers;
        formed_terms = formed_drop 1 h.formed_terms;
        formed_bindings = both (record { name = below; value = formed_top h.formed_terms }) h.formed_bindings;
        formed_answers = h.formed_answers;
        worded = value_words b w r.terms (binding_words b r.bindings) (list_words b r.answers) h.terms ∙ ap (λ l. w ∷ l) h.worded;
      }

  held-count : (w : ℕ) (ws : List ℕ) (a : ℕ) (r : Parts) → Held b arities n ws a w 0 r → Held b arities n (w ∷ ws) (suc a) 0 0 (count_word r)
  unfolding count_word binding_words list_words listed answer_words
  held-count w ws a r h =
      record {
        terms = h.terms;
        bindings = refl;
        answers = omega arith;
        formed_terms = h.formed_terms;
        formed_bindings = none;
        formed_answers = both h.formed_bindings h.formed_answers;
        worded = rw (no_words b r.terms h.terms, h.bindings) (ap (λ l. w ∷ l) (rw (no_words b r.terms h.terms) at h.worded));
      }

  pub held : (ws : List ℕ) (p a k t : ℕ) → checked b arities n ws p a k t ≡ Ok tt → Held b arities n ws a k t (parts b arities ws a k t)
  unfolding checked parts nothing row binding_words list_words listed after
  held [] p a k t e =
      let z = eqb-true (a + k + t) 0 (fine_if (eqb (a + k + t) 0) (Ok tt) WordsStop p e).0 in
      record {
        terms = omega arith;
        bindings = omega arith;
        answers = omega arith;
        formed_terms = none;
        formed_bindings = none;
        formed_answers = none;
        worded = refl;
      }
  held (w ∷ ws) p a k (suc t) e =
      let s = goes_on (follow b arities n w) p (λ m. checked b arities n ws (p + 1) a k (t + m)) e in
      held_term w ws a k t s.0 s.1 (held ws (p + 1) a k (t + s.0) s.2)
  held (w ∷ ws) p a (suc k) zero e =
      let c = fine_if (ltb w n) (checked b arities n ws (p + 1) a k 1) WordsUndeclared p e in
      held-name w ws a k (parts b arities ws a k 1) (ltb-true w n c.0) (held ws (p + 1) a k 1 c.1)
  held (w ∷ ws) p (suc a) zero zero e = held-count w ws a (parts b arities ws a w 0) (held ws (p + 1) a w 0 e)
  held (w ∷ ws) p zero zero zero e = never_fine e

-- ---- to a check that is fine

module _ {b : Bounds} {arities : List ℕ} {n : ℕ} (worded : Worded b arities n) where
  follow_stands : {w : ℕ} → Stands b arities n w → follow b arities n w ≡ Ok (takes b arities w)
  unfolding follow follows kind
  follow_stands stands_empty = rw (takes_empty worded.proper arities)
  follow_stands stands_member = rw (takes_member worded.proper arities)
  follow_stands (stands_unknown {i = i} h) =
      rw (kind_unknown worded.proper i (omega arith), takes_unknown worded.proper arities i (omega arith), lt-ltb i n h)
  follow_stands (stands_functor {k = k} h) =
      rw (kind_functor worded.proper k (omega arith), takes_functor worded.proper arities k (omega arith), lt-ltb k (length arities) h)

  checked-word : (a k w : ℕ) (ws : List ℕ) (d p : ℕ) → Stands b arities n w
      → checked b arities n (w ∷ ws) p a k (suc d) ≡ checked b arities n ws (p + 1) a k (d + takes b arities w)
  unfolding checked after
  checked-word a k w ws d p s = rw (follow_stands s)

  -- the check passes over a formed term
  pub checked_term : {t : Term} → Formed arities n t → (ws : List ℕ) (p a k d : ℕ)
      → checked b arities n (words b t ++ ws) p a k (suc d) ≡ checked b arities n ws (p + size t) a k d
  checked_term f ws p a k d = past worded (λ l e q. checked b arities n l q a k e) (checked-word a k) f (words_stand f) ws d p

  pub fine_terms : {ts : List Term} → All (Formed arities n) ts → (ws : List ℕ) (a k : ℕ) → ((p : ℕ) → checked b arities n ws p a k 0 ≡ Ok tt)
      → (p : ℕ) → checked b arities n (row b ts ++ ws) p a k (length ts) ≡ Ok tt
  unfolding row
  fine_terms none ws a k rest p = rest p
  fine_terms (both {x = t} {xs = ts} f fs) ws a k rest p =
      rw (append_assoc (words b t) (row b ts) ws) (checked_term f (row b ts ++ ws) p a k (length ts) ∙ fine_terms fs ws a k rest (p + size t))

  pub fine_bindings : {xs : List Binding} → All (Bound arities n) xs → (ws : List ℕ) (a : ℕ) → ((p : ℕ) → checked b arities n ws p a 0 0 ≡ Ok tt)
      → (p : ℕ) → checked b arities n (binding_words b xs ++ ws) p a (length xs) 0 ≡ Ok tt
  unfolding binding_words checked
  fine_bindings none ws a rest p = rest p
  fine_bindings (both {x = x} {xs = xs} f fs) ws a rest p =
      rw (lt-ltb x.name n f.name, append_assoc (words b x.value) (binding_words b xs) ws)
      (checked_term f.value (binding_words b xs ++ ws) (p + 1) a (length xs) 0 ∙ fine_bindings fs ws a rest (p + 1 + size x.value))

  pub fine_list : {l : List (List Binding)} → All (All (Bound arities n)) l → (p : ℕ) → checked b arities n (list_words b l) p (length l) 0 0 ≡ Ok tt
  unfolding list_words listed answer_words checked
  fine_list none p = refl
  fine_list (both {x = x} {xs = l} f fs) p = fine_bindings f (list_words b l) (length l) (fine_list fs) (p + 1)
